-- What stands round the marks of a page: its sheet, where a job fails, and the sentence on that.
use Rattle.std.specs.Prelude.{ℕ, ℤ, pos, ◌+◌, ◌*◌, ◌/◌, ◌+ℤ◌, unsigned_abs, min, Bool, if◌then◌else◌, List, [], ◌∷◌}
use Rattle.std.specs.Prelude.{◌++◌, length, decimal}
use Rattle.tick_length.specs.Measures.{ticks_per_half_inch}
use Rattle.device_profile.specs.declared.geometry.Geometry.{Geometry}
use Rattle.page_env.specs.declared.mark.Bounds.{Bounds}
use Rattle.page_picture.specs.declared.attributes.Attribute.TheVariants.{X, Y, Width, Height, FontSize}
use Rattle.page_picture.specs.declared.sheet_parts.SheetPart.{SheetPart}
use Rattle.page_picture.specs.declared.sheet_parts.SheetPart.TheVariants as parts
use Rattle.page_picture.specs.Attributes.{attribute, box_attributes, length_attribute}
use Rattle.page_picture.specs.Figures.{hundredths, inches, pair_units}
use Rattle.page_picture.specs.Rulers.{rulers_picture}
use Rattle.page_picture.specs.SheetParts.{sheet_part}
use Rattle.page_picture.specs.Texts.{sentence_text}

-- how high the picture of a page is: where a sentence stands below the sheet, half an inch more
unfoldable pub picture_height : Geometry → (has_sentence : Bool) → ℤ
picture_height page has_sentence = page.page_height +ℤ (if has_sentence then pos ticks_per_half_inch else pos 0)

-- its sides in inches
unfoldable pub side_attributes : Geometry → Bool → List ℕ
side_attributes page has_sentence =
    inches page.page_width ++ sheet_part parts.PictureHeight ++ inches (picture_height page has_sentence)

-- the same in units, to which all places refer
unfoldable pub side_units : Geometry → Bool → List ℕ
side_units page has_sentence = pair_units page.page_width (picture_height page has_sentence)

unfoldable pub picture_start : Geometry → Bool → List ℕ
picture_start page has_sentence =
    sheet_part parts.PictureStart ++ side_attributes page has_sentence
    ++ sheet_part parts.PictureView ++ side_units page has_sentence ++ sheet_part parts.PictureFont

-- a pattern of this number: a square of lines, which is repeated
unfoldable pub pattern : ℕ → SheetPart → List ℕ
pattern number lines =
    sheet_part parts.PatternStart ++ decimal number ++ sheet_part parts.PatternSides ++ sheet_part lines
    ++ sheet_part parts.PatternEnd

-- horizontal and vertical lines
unfoldable pub straight_patterns : List ℕ
straight_patterns = pattern 1 parts.Horizontal ++ pattern 2 parts.Vertical

-- lines from lower left to upper right, and from upper left to lower right
unfoldable pub diagonal_patterns : List ℕ
diagonal_patterns = pattern 3 parts.Rising ++ pattern 4 parts.Falling

-- both straight ones, and both diagonals
unfoldable pub crossed_patterns : List ℕ
crossed_patterns = pattern 5 parts.Cross ++ pattern 6 parts.DiagonalCross

unfoldable pub patterns : List ℕ
patterns =
    sheet_part parts.PatternsStart ++ straight_patterns ++ diagonal_patterns ++ crossed_patterns
    ++ sheet_part parts.PatternsEnd

-- these, where they are to stand
abbrev pub due_patterns : Bool → List ℕ
due_patterns has_patterns = if has_patterns then patterns else []

-- ---- the page

unfoldable pub sheet_picture : Geometry → List ℕ
sheet_picture page =
    sheet_part parts.SheetStart ++ length_attribute Width page.page_width ++ length_attribute Height page.page_height
    ++ sheet_part parts.SheetEnd

-- the logical page, dashed
unfoldable pub logical_picture : Geometry → List ℕ
logical_picture page =
    sheet_part parts.LogicalStart ++ length_attribute X page.logical_left ++ length_attribute Y page.logical_top
    ++ length_attribute Width page.logical_width ++ length_attribute Height page.logical_height
    ++ sheet_part parts.LogicalEnd

-- the printable area, thin
abbrev pub printable_box : Geometry → Bounds
printable_box page = record {
  left = page.printable_left;
  top = page.printable_top;
  right = page.printable_right;
  bottom = page.printable_bottom;
}

unfoldable pub printable_picture : Geometry → List ℕ
printable_picture page =
    sheet_part parts.PrintableStart ++ box_attributes (printable_box page) ++ sheet_part parts.PrintableEnd

-- what stands before the marks of a page
abbrev pub head_picture : Geometry → (has_sentence has_patterns : Bool) → List ℕ
head_picture page has_sentence has_patterns =
    picture_start page has_sentence ++ due_patterns has_patterns ++ sheet_picture page ++ rulers_picture page
    ++ logical_picture page ++ printable_picture page

-- ---- where a job fails

-- a cross at a place on the page
unfoldable pub failure_picture : ℤ → ℤ → List ℕ
failure_picture x y = sheet_part parts.FailureStart ++ pair_units x y ++ sheet_part parts.FailureEnd

-- How large the letters of a sentence are, in hundredths of a unit: so that it goes into a width, where
-- each is six tenths as wide as high and one is left free; at most 10 points.
abbrev pub letter_size : ℤ → ℕ → ℤ
letter_size width count = pos (min 100_000 (unsigned_abs (hundredths width) * 5 / (3 * (count + 1))))

-- the middle of a width
abbrev pub middle : ℤ → ℤ
middle width = pos (unsigned_abs (hundredths width) / 2)

-- a third of an inch below the foot of a page
abbrev pub below_page : Geometry → ℤ
below_page page = page.page_height +ℤ pos 12_192_000_000

unfoldable pub sentence_attributes : Geometry → ℕ → List ℕ
sentence_attributes page count =
    attribute X (middle page.page_width) ++ length_attribute Y (below_page page)
    ++ attribute FontSize (letter_size page.page_width count)

-- a sentence below the sheet
unfoldable pub sentence_picture : Geometry → List ℕ → List ℕ
sentence_picture page sentence =
    sheet_part parts.SentenceStart ++ sentence_attributes page (length sentence) ++ sheet_part parts.SentenceFill
    ++ sentence_text sentence ++ sheet_part parts.SentenceEnd

-- what stands behind the marks
abbrev pub foot_picture : List ℕ
foot_picture = sheet_part parts.PictureEnd

-- ---- several pictures in one document

-- a document begins with a verdict, and with what stands for what
unfoldable pub document_start : List ℕ → List ℕ
document_start verdict = sheet_part parts.DocumentStart ++ sentence_text verdict ++ sheet_part parts.DocumentLegend

-- each picture has the number of its page above it
unfoldable pub page_number : ℕ → List ℕ
page_number n = sheet_part parts.PageNumber ++ decimal n ++ sheet_part parts.PageNumberEnd

-- what stands behind the pictures
abbrev pub document_end : List ℕ
document_end = sheet_part parts.DocumentEnd
