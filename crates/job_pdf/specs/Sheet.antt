-- What an item adds to the document, on the sheet of its page.
use Rattle.std.specs.Prelude.{ℕ, ℤ, Bool, if◌then◌else◌, List, [], ◌∷◌, ◌++◌}
use Rattle.device_profile.specs.declared.geometry.Geometry.{Geometry}
use Rattle.device_profile.specs.Printer.{Printer}
use Rattle.page_env.specs.Places.{cursor_x, cursor_y, geometry_of, origin_on}
use Rattle.page_env.specs.Settings.{State}
use Rattle.page_machine.specs.Event.{Event, Marked, Ended}
use Rattle.page_pdf.specs.declared.document.PageSheet.{PageSheet}
use Rattle.page_pdf.specs.Document.{Pdf, Written, behind_page, document_end, end_written, failure_written, mark_written}
use Rattle.page_pdf.specs.Document.{nothing, start_written}
use Rattle.job_pdf.specs.declared.sheet.Sheet.{Sheet}
use Rattle.job_pdf.specs.Plan.{Plan, printer_name}
use Rattle.requests.specs.Selection.{is_drawn}

-- ---- the sheet

-- the sheet of the page that is open, and which pages are written
abbrev pub sheet_of : Plan → Printer → State → Sheet
sheet_of plan printer s = record {
  selection = plan.selection;
  page = record { paper = geometry_of printer s; is_proof = plan.is_proof };
}

-- ---- marks, and ends of pages

abbrev pub event_on_page : PageSheet → Event → Pdf → Written
event_on_page page (Marked mark) pdf = mark_written page mark pdf
event_on_page page (Ended end) pdf = end_written page end pdf

-- an event is written where its page is
abbrev pub event_if_drawn : Sheet → Event → Pdf → Written
event_if_drawn sheet event pdf =
    if is_drawn sheet.selection pdf.page then event_on_page sheet.page event pdf else nothing pdf

-- behind the end of a page the next one comes
abbrev pub event_written : Sheet → Event → Pdf → Written
event_written sheet (Marked mark) pdf = event_if_drawn sheet (Marked mark) pdf
event_written sheet (Ended end) pdf = behind_page (event_if_drawn sheet (Ended end) pdf)

-- its text, and the document behind it
abbrev pub drawn_event : Sheet → Pdf → Event → List ℕ
drawn_event sheet pdf event = (event_written sheet event pdf).text

abbrev pub pdf_behind : Sheet → Pdf → Event → Pdf
pdf_behind sheet pdf event = (event_written sheet event pdf).pdf

-- of events on the sheet, one after another
abbrev pub drawn_events : Sheet → Pdf → List Event → List ℕ
drawn_events sheet pdf [] = []
drawn_events sheet pdf (e ∷ es) = drawn_event sheet pdf e ++ drawn_events sheet (pdf_behind sheet pdf e) es

abbrev pub pdf_behind_all : Sheet → Pdf → List Event → Pdf
pdf_behind_all sheet pdf [] = pdf
pdf_behind_all sheet pdf (e ∷ es) = pdf_behind_all sheet (pdf_behind sheet pdf e) es

-- ---- a failure

-- where the cursor stands on the sheet
pub record Spot : Type 0 where
  pub x : ℤ
  pub y : ℤ

abbrev pub spot_of : Geometry → State → Spot
spot_of paper s = record { x = cursor_x (origin_on paper) s; y = cursor_y (origin_on paper) s }

-- it ends the page, where that is written
abbrev pub drawn_failure : Sheet → Spot → (sentence : List ℕ) → Pdf → Written
drawn_failure sheet spot sentence pdf =
    if is_drawn sheet.selection pdf.page then failure_written sheet.page spot.x spot.y sentence pdf else nothing pdf

-- ---- the document

-- what stands before the pages, unless it is written, and the document behind that
abbrev pub start_if_due : (is_started : Bool) → List ℕ
start_if_due is_started = if is_started then [] else start_written.text

abbrev pub started : (is_started : Bool) → Pdf → Pdf
started is_started pdf = if is_started then pdf else start_written.pdf

-- what stands behind them, with this sentence on the job
abbrev pub end_text : Plan → (sentence : List ℕ) → Pdf → List ℕ
end_text plan sentence pdf = document_end plan.job (printer_name plan) sentence pdf
