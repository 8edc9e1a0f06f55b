-- A document as it is written: what a step adds, and where its objects stand.
use Rattle.std.specs.Prelude.{◌≡◌, ℕ, ℤ, ◌+◌, ◌-◌, ◌/◌, ◌^◌, min, Bool, true, false, if◌then◌else◌, List, [], ◌∷◌, ◌++◌}
use Rattle.std.specs.Prelude.{codes, decimal, length}
use Rattle.page_env.specs.declared.mark.PageEnd.{PageEnd}
use Rattle.device_profile.specs.declared.geometry.Geometry.{Geometry}
use Rattle.page_env.specs.declared.mark.Glyph.{Glyph}
use Rattle.page_env.specs.Mark.{PixelRow, Shape, Rectangle, Character, Row, Line}
use Rattle.page_picture.specs.declared.characters.Repertoire.{Repertoire}
use Rattle.page_picture.specs.declared.characters.Repertoire.TheVariants.{Pc8, Pc850, Roman8, Windows}
use Rattle.page_pdf.specs.declared.document.PageSheet.{PageSheet}
use Rattle.page_pdf.specs.declared.pending.Pending.{Pending}
use Rattle.page_pdf.specs.declared.pending.Pending.TheVariants.{Nothing}
use Rattle.page_pdf.specs.declared.fixed_objects.FixedObject.{FixedObject}
use Rattle.page_pdf.specs.declared.fixed_objects.FixedObject.TheVariants as fixed
use Rattle.page_pdf.specs.Bands.{frame_width, framed}
use Rattle.page_pdf.specs.FixedObjects.{fixed_object}
use Rattle.page_pdf.specs.Maps.{map_object}
use Rattle.page_pdf.specs.Marks.{mark_text}
use Rattle.page_pdf.specs.Objects.{catalog_body, content_end, content_start, end_words, failing_words, information_body}
use Rattle.page_pdf.specs.Objects.{label_body, object_text, page_body, pages_body, verdict_body}
use Rattle.page_pdf.specs.Pages.{failed_text, page_end, page_start}
use Rattle.page_pdf.specs.Pending.{behind_glyph, goes_on, is_string, pending_text, with_row}
use Rattle.page_pdf.specs.Table.{places_table}

-- ---- what is known of it

-- how many bytes are written, and how many stood before what marks the page that is open; whether one is, and the
-- number of the page of the job that is; and where the objects from the fifth on stand
pub record Pdf : Type 0 where
  pub written : ℕ
  pub begun : ℕ
  pub is_open : Bool
  pub page : ℕ
  pub pending : Pending
  pub pixels : List ℕ
  pub places : List ℕ

-- nothing is written
abbrev pub no_pdf : Pdf
no_pdf = record { written = 0; begun = 0; is_open = false; page = 1; pending = Nothing; pixels = []; places = [] }

-- the number of the next object, where 1 to 4 stand at the end
abbrev pub next_object : Pdf → ℕ
next_object pdf = 5 + length pdf.places

-- ---- steps

-- a text that is written, and the document behind it
pub record Written : Type 0 where
  pub text : List ℕ
  pub pdf : Pdf

abbrev pub nothing : Pdf → Written
nothing pdf = record { text = []; pdf = pdf }

-- a count, or where it stands still
abbrev pub capped : ℕ → ℕ
capped n = min n (2 ^ 64 - 1)

abbrev pub writes : List ℕ → Pdf → Written
writes text pdf = record { text = text; pdf = record pdf { written = capped (pdf.written + length text) } }

-- one step, and then another
abbrev pub and_then : Written → (Pdf → Written) → Written
and_then first next = record { text = first.text ++ (next first.pdf).text; pdf = (next first.pdf).pdf }

-- this step was made
pub record HasWritten (step : Written) (text text' : List ℕ) (pdf : Pdf) : Type 0 where
  pub text_is : text' ≡ text ++ step.text
  pub pdf_is : pdf ≡ step.pdf

-- an object begins here
abbrev pub begins_object : Pdf → Pdf
begins_object pdf = record pdf { places = pdf.places ++ pdf.written ∷ [] }

abbrev pub object : (number : ℕ) → (body : List ℕ) → Pdf → Written
object number body pdf = writes (object_text number body) (begins_object pdf)

abbrev pub next_of : (body : List ℕ) → Pdf → Written
next_of body pdf = object (next_object pdf) body pdf

-- ---- the start

abbrev pub head_text : List ℕ
head_text = codes "%PDF-1.7\n%" ++ 226 ∷ 227 ∷ 207 ∷ 211 ∷ 10 ∷ []

abbrev pub fixed_of : FixedObject → Pdf → Written
fixed_of part pdf = next_of (fixed_object part) pdf

abbrev pub map_of : Repertoire → Pdf → Written
map_of repertoire pdf = next_of (map_object repertoire) pdf

-- four steps
abbrev pub four : (first second third fourth : Pdf → Written) → Pdf → Written
four first second third fourth pdf =
    and_then (and_then (and_then (first pdf) second) third) fourth

-- what pages use, and the faces
unfoldable pub faces_written : Pdf → Written
faces_written pdf =
    and_then (fixed_of fixed.Resources pdf)
    (four (fixed_of fixed.Upright) (fixed_of fixed.Bold) (fixed_of fixed.Italic) (fixed_of fixed.BoldItalic))

-- the faces of characters that do not show, and the first pattern
unfoldable pub hidden_written : Pdf → Written
hidden_written pdf =
    four (fixed_of fixed.HiddenPc8) (fixed_of fixed.HiddenPc850) (fixed_of fixed.HiddenRoman8)
    (fixed_of fixed.Horizontal) pdf

-- the other patterns
unfoldable pub patterns_written : Pdf → Written
patterns_written pdf =
    and_then (fixed_of fixed.Vertical pdf)
    (four (fixed_of fixed.Rising) (fixed_of fixed.Falling) (fixed_of fixed.Cross) (fixed_of fixed.DiagonalCross))

unfoldable pub maps_written : Pdf → Written
maps_written pdf = four (map_of Windows) (map_of Pc8) (map_of Pc850) (map_of Roman8) pdf

-- what stands before the pages
unfoldable pub start_written : Written
start_written =
    and_then (writes head_text no_pdf) (four faces_written hidden_written patterns_written maps_written)

-- ---- a page

-- the object that marks it begins
abbrev pub content_begun : Pdf → Written
content_begun pdf = writes (content_start (next_object pdf)) (begins_object pdf)

-- what marks it begins here
abbrev pub opens_page : Pdf → Pdf
opens_page pdf = record pdf { begun = pdf.written; is_open = true }

abbrev pub marks_begun : Pdf → Written
marks_begun pdf = record { text = (content_begun pdf).text; pdf = opens_page (content_begun pdf).pdf }

unfoldable pub page_begun : PageSheet → Pdf → Written
page_begun sheet pdf = and_then (marks_begun pdf) (writes (page_start sheet.paper sheet.is_proof))

-- unless it has begun
abbrev pub page_due : PageSheet → Pdf → Written
page_due sheet pdf = if pdf.is_open then nothing pdf else page_begun sheet pdf

-- nothing is pending any more
abbrev pub without_pending : Pdf → Pdf
without_pending pdf = record pdf { pending = Nothing; pixels = [] }

-- what is pending is written
unfoldable pub settled : Pdf → Written
settled pdf =
    record {
      text = pending_text pdf.pending pdf.pixels;
      pdf = without_pending (writes (pending_text pdf.pending pdf.pixels) pdf).pdf;
    }

-- unless this mark goes on with it
abbrev pub settled_before : Geometry → Shape → Pdf → Written
settled_before paper mark pdf =
    if goes_on paper pdf.pending (length pdf.pixels) mark then nothing pdf else settled pdf

-- a row is kept
abbrev pub row_kept : Geometry → PixelRow → Pdf → Pdf
row_kept paper row pdf =
    record pdf {
      pending = with_row paper pdf.pending row;
      pixels = pdf.pixels ++ framed (frame_width paper row.resolution) row;
    }

-- a letter leaves its string open
abbrev pub glyph_kept : Glyph → Pdf → Pdf
glyph_kept glyph pdf = record pdf { pending = behind_glyph glyph }

-- what is kept of a mark
abbrev pub mark_kept : Geometry → Shape → Pdf → Pdf
mark_kept paper (Rectangle area) pdf = pdf
mark_kept paper (Character glyph) pdf = glyph_kept glyph pdf
mark_kept paper (Row row) pdf = row_kept paper row pdf
mark_kept paper (Line line) pdf = pdf

-- a mark that goes on with what is pending, or has nothing before it
unfoldable pub mark_put : Geometry → Shape → Pdf → Written
mark_put paper mark pdf = writes (mark_text (is_string pdf.pending) mark) (mark_kept paper mark pdf)

-- a mark on it
unfoldable pub mark_written : PageSheet → Shape → Pdf → Written
mark_written sheet mark pdf =
    and_then (and_then (page_due sheet pdf) (settled_before sheet.paper mark)) (mark_put sheet.paper mark)

-- the page that has begun, with all its marks
unfoldable pub page_ready : PageSheet → Pdf → Written
page_ready sheet pdf = and_then (page_due sheet pdf) settled

-- how long what marks it is
abbrev pub marks_length : Pdf → ℕ
marks_length pdf = pdf.written - pdf.begun

-- the end of what marks it, and how long that is
unfoldable pub marks_ended : Pdf → Written
marks_ended pdf = and_then (writes content_end pdf) (next_of (decimal (marks_length pdf)))

-- the page, whose marks stand two objects before it
unfoldable pub sheet_told : PageSheet → Pdf → Written
sheet_told sheet pdf = next_of (page_body sheet.paper (next_object pdf - 2)) pdf

-- its label, with these words
unfoldable pub label_told : (words : List ℕ) → Pdf → Written
label_told words pdf = next_of (label_body pdf.page words) pdf

unfoldable pub page_told : PageSheet → (words : List ℕ) → Pdf → Written
page_told sheet words pdf = and_then (sheet_told sheet pdf) (label_told words)

-- its end, with these words of its label; the verdict may be told on it
unfoldable pub page_closed : PageSheet → (is_told : Bool) → (words : List ℕ) → Pdf → Written
page_closed sheet is_told words pdf =
    and_then (and_then (writes (page_end sheet.paper pdf.page sheet.is_proof is_told) pdf) marks_ended)
    (page_told sheet words)

-- the end of a page that is printed so
unfoldable pub end_written : PageSheet → PageEnd → Pdf → Written
end_written sheet end pdf = and_then (page_ready sheet pdf) (page_closed sheet false (end_words end))

-- the end of one on which the job fails
unfoldable pub failure_written : PageSheet → (x y : ℤ) → (sentence : List ℕ) → Pdf → Written
failure_written sheet x y sentence pdf =
    and_then (and_then (page_ready sheet pdf) (writes (failed_text sheet.paper x y sentence)))
    (page_closed sheet true failing_words)

-- the next page of the job
abbrev pub page_behind : Pdf → Pdf
page_behind pdf = record pdf { page = capped (pdf.page + 1); is_open = false }

abbrev pub behind_page : Written → Written
behind_page step = record step { pdf = page_behind step.pdf }

-- ---- the end

-- how many pages there are: eighteen objects stand before those of pages, of which each has four
abbrev pub page_count : Pdf → ℕ
page_count pdf = (length pdf.places - 18) / 4

-- the catalog, the pages, the names of job and printer, and the verdict
unfoldable pub last_written : (count : ℕ) → (job printer sentence : List ℕ) → Pdf → Written
last_written count job printer sentence pdf =
    four (object 1 (catalog_body count)) (object 2 (pages_body count)) (object 3 (information_body job printer))
    (object 4 (verdict_body sentence)) pdf

-- the table of where the objects stand
abbrev pub table_of : Pdf → List ℕ
table_of pdf = places_table pdf.places pdf.written

-- a step, and then a text that is the last
abbrev pub and_last : Written → (Pdf → List ℕ) → List ℕ
and_last first last = first.text ++ last first.pdf

unfoldable pub document_end : (job printer sentence : List ℕ) → Pdf → List ℕ
document_end job printer sentence pdf = and_last (last_written (page_count pdf) job printer sentence pdf) table_of
