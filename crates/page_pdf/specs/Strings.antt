-- Letters as strings: those of one face and size that follow one another on a line are one.
use Rattle.std.specs.Prelude.{ℕ, ◌%◌, ◌==◌, ◌&&◌, Bool, if◌then◌else◌, is_some}
use Rattle.std.specs.Option.{option_and_then}
use Rattle.std.specs.Ordering.{int_eq}
use Rattle.device_profile.specs.declared.font.FontRequest.{FontRequest}
use Rattle.page_env.specs.declared.mark.Bounds.{Bounds}
use Rattle.page_env.specs.declared.mark.Glyph.{Glyph}
use Rattle.page_picture.specs.Characters.{character_of}
use Rattle.page_picture.specs.Marks.{is_bold, is_italic}
use Rattle.page_pdf.specs.Codes.{letter_of}
use Rattle.page_pdf.specs.Figures.{box_width}

-- whether a face has a character
abbrev pub is_letter : Glyph → Bool
is_letter glyph = is_some (option_and_then letter_of (character_of glyph.request.symbol_set glyph.code))

-- the number of a face
abbrev pub face_number : FontRequest → ℕ
face_number request =
    if is_bold request.weight then (if is_italic request.style then 4 else 2)
    else (if is_italic request.style then 3 else 1)

-- whether letters look alike
abbrev pub are_alike : FontRequest → FontRequest → Bool
are_alike a b = face_number a == face_number b && a.height == b.height

-- whether letters are of one width, which their size gives exactly
abbrev pub are_as_wide : Bounds → Bounds → Bool
are_as_wide a b = box_width a == box_width b && box_width a % 3 == 0

-- whether one begins on a line where another ends
abbrev pub is_right_of : (last glyph : Glyph) → Bool
is_right_of last glyph = int_eq last.y glyph.y && int_eq last.bounds.right glyph.bounds.left

-- whether a character goes on with a string whose last letter is another
abbrev pub goes_behind : (last glyph : Glyph) → Bool
goes_behind last glyph =
    is_letter glyph && are_alike last.request glyph.request && are_as_wide last.bounds glyph.bounds
    && is_right_of last glyph
