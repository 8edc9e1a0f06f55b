-- The pages of a job as a document: what is written of its plain run from a panel, and what comes of it.
use Rattle.std.specs.Prelude.{ℕ, Bool, true, false, if◌then◌else◌, List, [], ◌∷◌, ◌++◌}
use Rattle.pcl_items.specs.declared.fault.LexCause.{LexCause}
use Rattle.pcl_items.specs.Items.{Placed}
use Rattle.pcl_lexer.specs.Reading.{Reading, Whole, Stopped}
use Rattle.device_profile.specs.declared.panel.Panel.{Panel}
use Rattle.device_profile.specs.Printer.{Printer}
use Rattle.macro_store.specs.Store.{Store, no_macros}
use Rattle.page_env.specs.declared.finding.Finding.{Finding}
use Rattle.page_env.specs.Places.{geometry_of}
use Rattle.page_env.specs.Settings.{Settings, State, start_state, user_defaults, unwatched}
use Rattle.page_machine.specs.Run.{Run, Ending, Done, Halts}
use Rattle.page_machine.specs.Defining.{job_item_run, job_end_run, macros_after}
use Rattle.page_machine.specs.Job.{with_macros}
use Rattle.page_pdf.specs.Document.{Pdf, Written, no_pdf}
use Rattle.renderings.specs.declared.outcome.Outcome.{Outcome}
use Rattle.renderings.specs.declared.outcome.Outcome.TheVariants.{Done as AllDone}
use Rattle.renderings.specs.Expected.{Rendering}
use Rattle.renderings.specs.Outcomes.{fails_with}
use Rattle.requests.specs.Selection.{is_behind}
use Rattle.verdict.specs.declared.failure.Failure.{Failure}
use Rattle.verdict.specs.Failing.{fault_at, found_at}
use Rattle.job_pdf.specs.Plan.{Plan}
use Rattle.job_pdf.specs.Sheet.{drawn_events, drawn_failure, end_text, pdf_behind_all, sheet_of, spot_of, start_if_due}
use Rattle.job_pdf.specs.Sheet.{started}
use Rattle.job_pdf.specs.Telling.{told_failure, told_whole}

-- what is written from somewhere on, and what comes of it
pub record Drawing : Type 0 where
  pub text : List ℕ
  pub outcome : Outcome

-- a text, and then a drawing
abbrev pub then_draws : List ℕ → Drawing → Drawing
then_draws text drawing = record { text = text ++ drawing.text; outcome = drawing.outcome }

-- ---- how it ends

-- all that is wanted is written, or the job has no more
abbrev pub whole_end : Plan → Pdf → List ℕ
whole_end plan pdf = end_text plan (told_whole plan) pdf

abbrev pub drawn_out : Plan → Pdf → Drawing
drawn_out plan pdf = record { text = whole_end plan pdf; outcome = AllDone }

-- a failure ends the page that is open, and the document
abbrev pub failed_end : Plan → (sentence : List ℕ) → Written → List ℕ
failed_end plan sentence step = step.text ++ end_text plan sentence step.pdf

abbrev pub failure_end : Plan → Printer → State → Pdf → Failure → List ℕ
failure_end plan printer s pdf failure =
    let told = told_failure plan pdf.page failure in
    failed_end plan told (drawn_failure (sheet_of plan printer s) (spot_of (geometry_of printer s) s) told pdf)

abbrev pub at_failure : Plan → Printer → State → Pdf → Failure → Drawing
at_failure plan printer s pdf failure =
    record { text = failure_end plan printer s pdf failure; outcome = fails_with failure }

-- ---- items

-- behind a run that ended so
abbrev pub behind_ending : Ending → (State → Drawing) → (Finding → Drawing) → Drawing
behind_ending (Done t) next failed = next t
behind_ending (Halts finding) next failed = failed finding

-- Of an item, or of the end of the bytes, at a place, that ran so from this state, and then what follows. It is
-- written on the sheet that the page has before it: an item that changes the sheet ends its page first, and marks
-- nothing behind that. Behind the last page that is written nothing matters.
abbrev pub run_drawing : Plan → Printer → Pdf → State → (place : ℕ) → Run → (Pdf → State → Drawing) → Drawing
run_drawing plan printer pdf s place r next =
    let pdf' = pdf_behind_all (sheet_of plan printer s) pdf r.events in
    then_draws (drawn_events (sheet_of plan printer s) pdf r.events)
    (if is_behind plan.selection pdf'.page then drawn_out plan pdf'
    else (behind_ending r.ending (next pdf') (λ finding. at_failure plan printer s pdf' (found_at place 1 finding))))

-- of items, and then what comes last
abbrev pub items_drawing : Plan → Printer → Settings → (Pdf → Store → State → Drawing) → Pdf → List Placed → Store →
    State → Drawing
items_drawing plan printer defaults finally pdf [] macros s = finally pdf macros s
items_drawing plan printer defaults finally pdf (x ∷ items) macros s =
    run_drawing plan printer pdf s x.place (job_item_run (with_macros printer defaults macros) x.item s)
    (λ pdf' t. items_drawing plan printer defaults finally pdf' items
    (macros_after s.settings.job.macro_id x.item macros) t)

-- of the end of the bytes
abbrev pub end_drawing : Plan → Printer → Settings → ℕ → Pdf → Store → State → Drawing
end_drawing plan printer defaults place pdf macros s =
    run_drawing plan printer pdf s place (job_end_run (with_macros printer defaults macros) s)
    (λ pdf' t. drawn_out plan pdf')

-- of a fault of the bytes
abbrev pub fault_drawing : Plan → Printer → ℕ → LexCause → Pdf → Store → State → Drawing
fault_drawing plan printer place cause pdf macros s = at_failure plan printer s pdf (fault_at place cause)

-- of the items of a job and its end, or of the items before a fault and of the fault
abbrev pub reading_drawing : Plan → Printer → Settings → Pdf → Reading → Store → State → Drawing
reading_drawing plan printer defaults pdf (Whole items place) macros s =
    items_drawing plan printer defaults (end_drawing plan printer defaults place) pdf items macros s
reading_drawing plan printer defaults pdf (Stopped items place cause) macros s =
    items_drawing plan printer defaults (fault_drawing plan printer place cause) pdf items macros s

-- ---- what a fault adds

abbrev pub added_at_ending : Ending → (State → List ℕ) → List ℕ
added_at_ending (Done t) next = next t
added_at_ending (Halts finding) next = []

-- a text behind a run that goes on; behind one that ends the document none is added
abbrev pub added_behind : Plan → Printer → Pdf → State → Run → (Pdf → State → List ℕ) → List ℕ
added_behind plan printer pdf s r next =
    let pdf' = pdf_behind_all (sheet_of plan printer s) pdf r.events in
    if is_behind plan.selection pdf'.page then [] else (added_at_ending r.ending (next pdf'))

-- the failure, behind items
abbrev pub fault_behind : Plan → Printer → Settings → ℕ → LexCause → Pdf → List Placed → Store → State → List ℕ
fault_behind plan printer defaults place cause pdf [] macros s =
    (fault_drawing plan printer place cause pdf macros s).text
fault_behind plan printer defaults place cause pdf (x ∷ items) macros s =
    added_behind plan printer pdf s (job_item_run (with_macros printer defaults macros) x.item s)
    (λ pdf' t. fault_behind plan printer defaults place cause pdf' items
    (macros_after s.settings.job.macro_id x.item macros) t)

-- what stands before the pages is written with the first item
abbrev pub started_behind : Bool → List Placed → Bool
started_behind is_started [] = is_started
started_behind is_started (x ∷ items) = true

-- ---- the job

-- from a panel, with what stands before the pages
abbrev pub job_drawing : Printer → Panel → Plan → Reading → Drawing
job_drawing printer panel plan reading =
    let defaults : Settings = user_defaults unwatched panel in
    then_draws (start_if_due false)
    (reading_drawing plan printer defaults (started false no_pdf) reading (no_macros printer.memory)
    (start_state printer.most_items defaults))

abbrev pub pdf_rendering : Printer → Panel → Plan → Rendering
pdf_rendering printer panel plan = record {
  text = λ reading. (job_drawing printer panel plan reading).text;
  outcome = λ reading. (job_drawing printer panel plan reading).outcome;
  at_fault = λ items place cause.
      let defaults : Settings = user_defaults unwatched panel in
      start_if_due (started_behind false items)
      ++ fault_behind plan printer defaults place cause (started false no_pdf) items (no_macros printer.memory)
      (start_state printer.most_items defaults);
}
