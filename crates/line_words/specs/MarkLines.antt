-- The lines of marks and of the ends of pages.
use Rattle.std.specs.Prelude.{ℕ, List, [], ◌∷◌, ◌++◌, codes, flat_map}
use Rattle.device_profile.specs.declared.font.FontRequest.{FontRequest}
use Rattle.page_env.specs.declared.mark.Bounds.{Bounds}
use Rattle.page_env.specs.declared.mark.Fill.{Fill}
use Rattle.page_env.specs.declared.mark.Fill.TheVariants.{Solid, Erase, Shade, Hatch}
use Rattle.page_env.specs.declared.mark.PageEnd.{PageEnd}
use Rattle.page_env.specs.Mark.{Shape, Rectangle, Character, Row, Line, pixels_per_inch}
use Rattle.line_words.specs.Figures.{number_word, length_word, value_word, signed_word, named}
use Rattle.shown_bytes.specs.Lettered.{lettered}
use Rattle.shown_bytes.specs.Shown.{hex_byte}

-- ---- words, each with a space before it

-- the four edges of a box
unfoldable pub bounds_words : Bounds → List ℕ
bounds_words box = length_word box.left ++ length_word box.top ++ length_word box.right ++ length_word box.bottom

-- what selects a font: symbol set, pitch, height, style, weight and typeface
unfoldable pub font_words : FontRequest → List ℕ
font_words font =
    32 ∷ lettered font.symbol_set.number font.symbol_set.letter ++ value_word font.pitch ++ value_word font.height
    ++ value_word font.style ++ signed_word font.weight ++ value_word font.typeface

-- black, white, a shade or a pattern, and which of these
abbrev pub fill_words : Fill → List ℕ
fill_words Solid = codes " 0 0"
fill_words Erase = codes " 1 0"
fill_words (Shade percent) = codes " 2" ++ number_word percent
fill_words (Hatch pattern) = codes " 3" ++ number_word pattern

-- ---- lines

abbrev pub mark_words : Shape → List ℕ
mark_words (Character glyph) =
    codes "glyph" ++ number_word glyph.code ++ font_words glyph.request ++ length_word glyph.y
    ++ bounds_words glyph.bounds
mark_words (Rectangle area) = codes "rect" ++ fill_words area.fill ++ bounds_words area.bounds
mark_words (Row row) =
    codes "row" ++ number_word (pixels_per_inch row.resolution) ++ length_word row.x ++ length_word row.y ++ 32
    ∷ flat_map hex_byte row.bytes
mark_words (Line line) =
    codes "line" ++ length_word line.width ++ length_word line.x0 ++ length_word line.y0 ++ length_word line.x1
    ++ length_word line.y1

abbrev pub mark_line : Shape → List ℕ
mark_line mark = mark_words mark ++ 10 ∷ []

-- the end of the page of this number
abbrev pub page_line : ℕ → PageEnd → List ℕ
page_line n end =
    codes "page" ++ number_word n ++ named (codes " size=") end.size ++ named (codes " orientation=") end.orientation
    ++ named (codes " sides=") end.sides ++ named (codes " tray=") end.tray ++ named (codes " copies=") end.copies
    ++ 10 ∷ []
