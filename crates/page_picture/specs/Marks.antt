-- The elements of marks. Each has a title, for which `place` is the number of bytes before its item.
use Rattle.std.specs.Prelude.{ℕ, ℤ, pos, ◌/◌, ◌%◌, int_le, nat_le, nat_lt, Bool, if◌then◌else◌, List, [], ◌∷◌, ◌++◌}
use Rattle.std.specs.Prelude.{codes, decimal, Option, None, Some}
use Rattle.device_profile.specs.declared.font.FontRequest.{FontRequest}
use Rattle.page_env.specs.declared.mark.Area.{Area}
use Rattle.page_env.specs.declared.mark.Fill.{Fill}
use Rattle.page_env.specs.declared.mark.Fill.TheVariants.{Solid, Erase, Shade, Hatch}
use Rattle.page_env.specs.declared.mark.Glyph.{Glyph}
use Rattle.page_env.specs.declared.mark.PenLine.{PenLine}
use Rattle.page_env.specs.Mark.{PixelRow, Shape, Rectangle, Character, Row, Line, pixels_per_inch}
use Rattle.page_picture.specs.declared.attributes.Attribute.TheVariants.{X, Y, X1, Y1, X2, Y2, StrokeWidth, FontSize}
use Rattle.page_picture.specs.declared.attributes.Attribute.TheVariants.{TextLength}
use Rattle.page_picture.specs.declared.mark_parts.MarkPart.TheVariants as parts
use Rattle.page_picture.specs.Attributes.{attribute, length_attribute, box_attributes, span}
use Rattle.page_picture.specs.Characters.{character_of}
use Rattle.page_picture.specs.Figures.{pair_units}
use Rattle.page_picture.specs.MarkParts.{mark_part}
use Rattle.page_picture.specs.Rows.{runs_text}
use Rattle.page_picture.specs.Texts.{character_text}
use Rattle.page_picture.specs.Titles.{character_title, title}

-- ---- rectangles

-- how dense a shade is: a printer has eight, each for a group of percents
unfoldable pub density : ℕ → List ℕ
density percent =
    if nat_le percent 2 then codes ".02" else (if nat_le percent 10 then codes ".1" else
    (if nat_le percent 20 then codes ".15" else (if nat_le percent 35 then codes ".3" else
    (if nat_le percent 55 then codes ".45" else (if nat_le percent 80 then codes ".7" else
    (if nat_le percent 99 then codes ".9" else codes "1"))))))

-- with what a rectangle is filled: what lies below a shade or a pattern shows through
unfoldable pub fill_attributes : Fill → List ℕ
fill_attributes Solid = mark_part parts.Black
fill_attributes Erase = mark_part parts.White
fill_attributes (Shade percent) = mark_part parts.Shade ++ density percent ++ mark_part parts.ShadeEnd
fill_attributes (Hatch pattern) = mark_part parts.Pattern ++ decimal pattern ++ mark_part parts.PatternEnd

unfoldable pub area_picture : Area → (place : ℕ) → List ℕ
area_picture area place =
    mark_part parts.AreaStart ++ box_attributes area.bounds ++ fill_attributes area.fill
    ++ title parts.RectangleTitle place area.bounds.left area.bounds.top ++ mark_part parts.RectangleEnd

-- ---- characters

-- the box of a character
unfoldable pub box_picture : Glyph → List ℕ
box_picture glyph = mark_part parts.BoxStart ++ box_attributes glyph.bounds ++ mark_part parts.BoxEnd

-- this, where boxes are asked for
abbrev pub due_box : Glyph → (has_boxes : Bool) → List ℕ
due_box glyph has_boxes = if has_boxes then box_picture glyph else []

-- its box in place of its text, which is not known
unfoldable pub unknown_picture : Glyph → (place : ℕ) → List ℕ
unknown_picture glyph place =
    mark_part parts.BoxStart ++ box_attributes glyph.bounds ++ mark_part parts.UnknownBox
    ++ character_title glyph place ++ mark_part parts.RectangleEnd

-- where its text stands, on its baseline, and how large:
-- a point has 100 units, so its ten-thousandth is a hundredth of one
unfoldable pub text_attributes : Glyph → List ℕ
text_attributes glyph =
    length_attribute X glyph.bounds.left ++ length_attribute Y glyph.y
    ++ attribute FontSize (pos glyph.request.height) ++ attribute TextLength (span glyph.bounds.left glyph.bounds.right)

-- bold from semi bold on, by the stroke weight, in ten-thousandths
abbrev pub is_bold : ℤ → Bool
is_bold weight = int_le (pos 10_000) weight

-- italic by the posture, which is what four leaves over of the style, in ten-thousandths
abbrev pub is_italic : ℕ → Bool
is_italic style = nat_lt 0 (style / 10_000 % 4)

-- how its face looks
unfoldable pub face_attributes : FontRequest → List ℕ
face_attributes request =
    (if is_bold request.weight then mark_part parts.Bold else [])
    ++ (if is_italic request.style then mark_part parts.Italic else [])

-- the text of a character, as wide as its box
unfoldable pub text_picture : Glyph → (place character : ℕ) → List ℕ
text_picture glyph place character =
    mark_part parts.GlyphStart ++ text_attributes glyph ++ face_attributes glyph.request ++ mark_part parts.GlyphText
    ++ character_title glyph place ++ character_text character ++ mark_part parts.TextEnd

-- a character that has this text, if it is known: without one its box stands there, asked for or not
unfoldable pub character_picture : Glyph → (has_boxes : Bool) → (place : ℕ) → Option ℕ → List ℕ
character_picture glyph has_boxes place None = unknown_picture glyph place
character_picture glyph has_boxes place (Some character) =
    due_box glyph has_boxes ++ text_picture glyph place character

unfoldable pub glyph_picture : Glyph → (has_boxes : Bool) → (place : ℕ) → List ℕ
glyph_picture glyph has_boxes place =
    character_picture glyph has_boxes place (character_of glyph.request.symbol_set glyph.code)

-- ---- rows of rasters

-- where paths stand whose unit is a pixel, and how large that is: an inch has 7200 units
unfoldable pub row_place : PixelRow → List ℕ
row_place row = pair_units row.x row.y ++ mark_part parts.RowScale ++ decimal (7200 / pixels_per_inch row.resolution)

-- drawn twice, one upon the other: smoothed, so that a stroke of one pixel shows at each size, and sharp, so that rows
-- which touch leave no seam between them
unfoldable pub runs_picture : List ℕ → List ℕ
runs_picture bytes =
    mark_part parts.RowRuns ++ runs_text bytes ++ mark_part parts.RowAgain ++ runs_text bytes ++ mark_part parts.RowEnd

-- it stands where its first byte begins
unfoldable pub row_picture : PixelRow → (place : ℕ) → List ℕ
row_picture row place =
    mark_part parts.RowStart ++ row_place row ++ mark_part parts.RowPlaceEnd
    ++ title parts.RowTitle place row.x row.y ++ runs_picture row.bytes

-- ---- lines of a pen

-- round at its ends, so that its box is that of its ends, wider by half its width on each side, and one of
-- no length is a dot
unfoldable pub line_attributes : PenLine → List ℕ
line_attributes line =
    length_attribute X1 line.x0 ++ length_attribute Y1 line.y0 ++ length_attribute X2 line.x1
    ++ length_attribute Y2 line.y1 ++ length_attribute StrokeWidth line.width

-- it stands where it begins
unfoldable pub line_picture : PenLine → (place : ℕ) → List ℕ
line_picture line place =
    mark_part parts.LineStart ++ line_attributes line ++ mark_part parts.LineLook
    ++ title parts.LineTitle place line.x0 line.y0 ++ mark_part parts.LineEnd

-- ---- a mark

abbrev pub mark_picture : Shape → (has_boxes : Bool) → (place : ℕ) → List ℕ
mark_picture (Rectangle area) has_boxes place = area_picture area place
mark_picture (Character glyph) has_boxes place = glyph_picture glyph has_boxes place
mark_picture (Row row) has_boxes place = row_picture row place
mark_picture (Line line) has_boxes place = line_picture line place
