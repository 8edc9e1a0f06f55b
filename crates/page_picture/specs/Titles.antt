-- The titles of marks, which a browser shows where one points at a mark: what it is, the number of bytes of the job
-- before its item, and where it stands, in millimetres from the left and the upper edge of the sheet.
use Rattle.std.specs.Prelude.{ℕ, ℤ, List, ◌++◌, decimal}
use Rattle.page_env.specs.declared.mark.Glyph.{Glyph}
use Rattle.page_picture.specs.declared.mark_parts.MarkPart.{MarkPart}
use Rattle.page_picture.specs.declared.mark_parts.MarkPart.TheVariants as parts
use Rattle.shown_bytes.specs.Lengths.{millimetres}
use Rattle.page_picture.specs.MarkParts.{mark_part}

-- so many bytes stand before its item
unfoldable pub title_place : ℕ → List ℕ
title_place place = mark_part parts.TitlePlace ++ decimal place

-- how far it lies from an edge
unfoldable pub title_distance : (name : MarkPart) → (ticks : ℤ) → List ℕ
title_distance name ticks = mark_part name ++ millimetres ticks

-- where it stands
unfoldable pub title_spot : (x y : ℤ) → List ℕ
title_spot x y = title_distance parts.TitleX x ++ title_distance parts.TitleY y

-- behind what it is
unfoldable pub title_end : (place : ℕ) → (x y : ℤ) → List ℕ
title_end place x y = title_place place ++ title_spot x y ++ mark_part parts.TitleEnd

-- of a mark of this name
unfoldable pub title : (name : MarkPart) → (place : ℕ) → (x y : ℤ) → List ℕ
title name place x y = mark_part name ++ title_end place x y

-- of a character, by its code; it stands where its box begins
unfoldable pub character_title : Glyph → (place : ℕ) → List ℕ
character_title glyph place =
    mark_part parts.CharacterTitle ++ decimal glyph.code ++ title_end place glyph.bounds.left glyph.bounds.top
