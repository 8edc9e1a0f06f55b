-- What stands round the marks of a page: its setting, its foot, and where a job fails.
use Rattle.std.specs.Prelude.{ℕ, ℤ, pos, ◌+◌, ◌-ℤ◌, Bool, if◌then◌else◌, List, [], ◌++◌, length, decimal}
use Rattle.device_profile.specs.declared.geometry.Geometry.{Geometry}
use Rattle.page_picture.specs.Sheet.{letter_size, printable_box}
use Rattle.page_pdf.specs.declared.mark_parts.MarkPart.TheVariants as marks
use Rattle.page_pdf.specs.declared.page_parts.PagePart.TheVariants as parts
use Rattle.page_pdf.specs.Figures.{box_figures, figure, length_figure, points}
use Rattle.page_pdf.specs.Hexes.{letter_codes}
use Rattle.page_pdf.specs.MarkParts.{mark_part}
use Rattle.page_pdf.specs.PageParts.{page_part}

-- ---- before the marks

-- the logical page, dashed
unfoldable pub logical_text : Geometry → List ℕ
logical_text page =
    page_part parts.Logical ++ length_figure page.logical_left ++ length_figure page.logical_top
    ++ length_figure page.logical_width ++ length_figure page.logical_height
    ++ mark_part marks.Rectangle ++ mark_part marks.BoxEnd

-- the printable area, thin
unfoldable pub printable_text : Geometry → List ℕ
printable_text page =
    page_part parts.Printable ++ box_figures (printable_box page) ++ mark_part marks.Rectangle
    ++ mark_part marks.BoxEnd

unfoldable pub outlines_text : Geometry → List ℕ
outlines_text page = logical_text page ++ printable_text page

-- these, where they are asked for
abbrev pub due_outlines : Geometry → (is_proof : Bool) → List ℕ
due_outlines page is_proof = if is_proof then outlines_text page else []

-- the unit, which is counted from the upper left corner, where the box of a page has its zero; and the outlines
abbrev pub page_start : Geometry → (is_proof : Bool) → List ℕ
page_start page is_proof = page_part parts.Start ++ due_outlines page is_proof

-- ---- behind them

-- the verdict, unless the page tells it elsewhere
abbrev pub due_verdict : (is_told : Bool) → List ℕ
due_verdict is_told = if is_told then [] else page_part parts.Verdict

-- where the foot of the page is
unfoldable pub foot_place : Geometry → List ℕ
foot_place page = page_part parts.Foot ++ points page.page_height ++ page_part parts.FootPlace

-- the foot: the verdict, and the number of the page
unfoldable pub foot_text : Geometry → ℕ → (is_told : Bool) → List ℕ
foot_text page number is_told =
    foot_place page ++ due_verdict is_told ++ page_part parts.FootNumber ++ decimal number ++ page_part parts.FootEnd

abbrev pub due_foot : Geometry → ℕ → (is_proof is_told : Bool) → List ℕ
due_foot page number is_proof is_told = if is_proof then foot_text page number is_told else []

unfoldable pub page_end : Geometry → ℕ → (is_proof is_told : Bool) → List ℕ
page_end page number is_proof is_told = page_part parts.End ++ due_foot page number is_proof is_told

-- ---- where a job fails

-- a cross at a place on the page
unfoldable pub failure_text : (x y : ℤ) → List ℕ
failure_text x y = page_part parts.Failure ++ length_figure x ++ length_figure y ++ page_part parts.FailureEnd

-- how large the letters of a sentence are: with its margins it goes into the width of the page
abbrev pub sentence_size : Geometry → (count : ℕ) → ℤ
sentence_size page count = letter_size page.page_width (count + 3)

-- a third of an inch above the foot of the page
abbrev pub above_foot : Geometry → ℤ
above_foot page = page.page_height -ℤ pos 12_192_000_000

-- how large the letters of a sentence of so many are, and where the first stands: as far from the edge as it is high
unfoldable pub sentence_place : Geometry → (count : ℕ) → List ℕ
sentence_place page count =
    figure (sentence_size page count) ++ page_part parts.SentenceHeight ++ figure (sentence_size page count)
    ++ figure (sentence_size page count) ++ length_figure (above_foot page)

unfoldable pub sentence_text : Geometry → List ℕ → List ℕ
sentence_text page sentence =
    page_part parts.Sentence ++ sentence_place page (length sentence)
    ++ page_part parts.SentenceText ++ letter_codes sentence ++ page_part parts.SentenceEnd

-- both
abbrev pub failed_text : Geometry → (x y : ℤ) → (sentence : List ℕ) → List ℕ
failed_text page x y sentence = failure_text x y ++ sentence_text page sentence
