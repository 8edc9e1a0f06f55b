-- The pictures of pages of a job: what is written of its plain run from a panel, and what comes of it.
use Rattle.std.specs.Prelude.{ℕ, Bool, true, false, if◌then◌else◌, Option, None, Some, List, [], ◌∷◌, ◌++◌}
use Rattle.pcl_items.specs.declared.fault.LexCause.{LexCause}
use Rattle.pcl_items.specs.declared.fault.LexCause.TheVariants.{Truncated}
use Rattle.pcl_items.specs.Items.{Entry, Placed}
use Rattle.pcl_lexer.specs.Reading.{Reading, Whole, Stopped}
use Rattle.device_profile.specs.declared.panel.Panel.{Panel}
use Rattle.device_profile.specs.Printer.{Printer}
use Rattle.macro_store.specs.Store.{Store, no_macros}
use Rattle.page_env.specs.declared.finding.Finding.{Finding}
use Rattle.page_env.specs.Places.{geometry_of}
use Rattle.page_env.specs.Settings.{Settings, State, start_state, user_defaults, unwatched}
use Rattle.page_picture.specs.declared.failure.Outline.{Outline}
use Rattle.page_machine.specs.Run.{Run, Ending, Done, Halts}
use Rattle.page_machine.specs.Defining.{job_item_run, job_end_run, macros_after}
use Rattle.page_machine.specs.Job.{with_macros}
use Rattle.renderings.specs.declared.outcome.Outcome.{Outcome}
use Rattle.renderings.specs.declared.outcome.Outcome.TheVariants.{Done as AllDone}
use Rattle.renderings.specs.Expected.{Rendering}
use Rattle.renderings.specs.Outcomes.{fails_with}
use Rattle.verdict.specs.Failing.{fault_at, found_at}
use Rattle.job_picture.specs.declared.progress.Progress.{Progress}
use Rattle.requests.specs.declared.selection.Selection.{Selection}
use Rattle.requests.specs.declared.selection.DrawnPages.{DrawnPages}
use Rattle.requests.specs.declared.selection.DrawnPages.TheVariants.{All, One}
use Rattle.job_picture.specs.Failing.{mark_of, spot_of}
use Rattle.job_picture.specs.Progress.{first_page, progress_behind_all}
use Rattle.requests.specs.Selection.{is_behind}
use Rattle.job_picture.specs.Sheet.{drawn_events, drawn_failure, end_of_all, sheet_of, start_if_due}
use Rattle.job_picture.specs.Sheet.{start_of_all}

-- what is written from somewhere on, and what comes of it
pub record Drawing : Type 0 where
  pub text : List ℕ
  pub outcome : Outcome

-- a text, and then a drawing
abbrev pub then_draws : List ℕ → Drawing → Drawing
then_draws text drawing = record { text = text ++ drawing.text; outcome = drawing.outcome }

-- ---- how it ends

-- all that is wanted is drawn
abbrev pub drawn_out : Drawing
drawn_out = record { text = []; outcome = AllDone }

-- What the end of a job comes to behind which more would be drawn:
-- a job that ends before the page that is wanted is too short.
abbrev pub late_outcome : DrawnPages → ℕ → Outcome
late_outcome All place = AllDone
late_outcome (One number) place = fails_with (fault_at place Truncated)

abbrev pub late_end : Selection → ℕ → Outcome
late_end selection place = late_outcome selection.pages place

-- the end of a job, at the number of its bytes
abbrev pub at_the_end : Selection → ℕ → Drawing
at_the_end selection place = record { text = end_of_all selection; outcome = late_end selection place }

-- a failure, which ends the page that is open, where the cursor stood so: at a place of the job, of an item that would
-- make this mark there, by a finding or by a fault of the bytes
abbrev pub at_failure : Selection → (sentence : List ℕ) → Printer → (place : ℕ) → (mark : Option Outline) → State →
    Progress → (why : Option Finding) → Outcome → Drawing
at_failure selection sentence printer place mark s p why outcome = record {
  text =
      drawn_failure (sheet_of place selection sentence printer s) p
      (spot_of (geometry_of printer s) s mark) why sentence
      ++ end_of_all selection;
  outcome = outcome;
}

-- ---- items

-- behind a run that ended so
abbrev pub behind_ending : Ending → (State → Drawing) → (Finding → Drawing) → Drawing
behind_ending (Done t) next failed = next t
behind_ending (Halts finding) next failed = failed finding

-- Of an item, or of the end of the bytes, at a place, that ran so from this state, where this mark may be the one that
-- fails; and then what follows. It draws on the sheet that the page has before it: an item that changes the sheet ends
-- its page first, and marks nothing behind that. Behind the last page that is drawn nothing matters.
abbrev pub run_drawing : Selection → (sentence : List ℕ) → Printer → Progress → State → (place : ℕ) →
    (mark : Option Outline) → Run → (Progress → State → Drawing) → Drawing
run_drawing selection sentence printer p s place mark r next =
    let p' = progress_behind_all p r.events in
    then_draws (drawn_events (sheet_of place selection sentence printer s) p r.events)
    (if is_behind selection p'.page then drawn_out
    else (behind_ending r.ending (next p') (λ finding.
    at_failure selection sentence printer place mark s p' (Some finding) (fails_with (found_at place 1 finding)))))

-- the mark that may be the one that fails
abbrev pub mark_on_page : Printer → State → Entry → Option Outline
mark_on_page printer s item = mark_of printer (geometry_of printer s) s item

-- of items, and then what comes last
abbrev pub items_drawing : Selection → (sentence : List ℕ) → Printer → Settings → (Progress → Store → State → Drawing) →
    Progress → List Placed → Store → State → Drawing
items_drawing selection sentence printer defaults finally p [] macros s = finally p macros s
items_drawing selection sentence printer defaults finally p (x ∷ items) macros s =
    run_drawing selection sentence printer p s x.place (mark_on_page printer s x.item)
    (job_item_run (with_macros printer defaults macros) x.item s)
    (λ p' t. items_drawing selection sentence printer defaults finally p' items
    (macros_after s.settings.job.macro_id x.item macros) t)

-- of the end of the bytes
abbrev pub end_drawing : Selection → (sentence : List ℕ) → Printer → Settings → ℕ → Progress → Store → State → Drawing
end_drawing selection sentence printer defaults place p macros s =
    run_drawing selection sentence printer p s place None (job_end_run (with_macros printer defaults macros) s)
    (λ p' t. at_the_end selection place)

-- of a fault of the bytes
abbrev pub fault_drawing : Selection → (sentence : List ℕ) → Printer → ℕ → LexCause → Progress → Store → State → Drawing
fault_drawing selection sentence printer place cause p macros s =
    at_failure selection sentence printer place None s p None (fails_with (fault_at place cause))

-- of the items of a job and its end, or of the items before a fault and of the fault
abbrev pub reading_drawing : Selection → (sentence : List ℕ) → Printer → Settings → Progress → Reading → Store → State →
    Drawing
reading_drawing selection sentence printer defaults p (Whole items place) macros s =
    items_drawing selection sentence printer defaults
    (end_drawing selection sentence printer defaults place) p items macros s
reading_drawing selection sentence printer defaults p (Stopped items place cause) macros s =
    items_drawing selection sentence printer defaults
    (fault_drawing selection sentence printer place cause) p items macros s

-- ---- what a fault adds

abbrev pub added_at_ending : Ending → (State → List ℕ) → List ℕ
added_at_ending (Done t) next = next t
added_at_ending (Halts finding) next = []

-- a text behind a run that goes on; behind one that ends the drawing none is added
abbrev pub added_behind : Selection → Progress → Run → (Progress → State → List ℕ) → List ℕ
added_behind selection p r next =
    let p' = progress_behind_all p r.events in
    if is_behind selection p'.page then [] else (added_at_ending r.ending (next p'))

-- the failure, behind items
abbrev pub fault_behind : Selection → (sentence : List ℕ) → Printer → Settings → ℕ → LexCause → Progress → List Placed →
    Store → State → List ℕ
fault_behind selection sentence printer defaults place cause p [] macros s =
    (fault_drawing selection sentence printer place cause p macros s).text
fault_behind selection sentence printer defaults place cause p (x ∷ items) macros s =
    added_behind selection p (job_item_run (with_macros printer defaults macros) x.item s)
    (λ p' t. fault_behind selection sentence printer defaults place cause p' items
    (macros_after s.settings.job.macro_id x.item macros) t)

-- what stands before all pages is put with the first item
abbrev pub started_behind : Bool → List Placed → Bool
started_behind is_started [] = is_started
started_behind is_started (x ∷ items) = true

-- ---- the job

-- from a panel, with what stands before all pages
abbrev pub job_drawing : Printer → Panel → Selection → (sentence : List ℕ) → Reading → Drawing
job_drawing printer panel selection sentence reading =
    let defaults : Settings = user_defaults unwatched panel in
    then_draws (start_of_all selection sentence)
    (reading_drawing selection sentence printer defaults first_page reading (no_macros printer.memory)
    (start_state printer.most_items defaults))

abbrev pub picture_rendering : Printer → Panel → Selection → (sentence : List ℕ) → Rendering
picture_rendering printer panel selection sentence = record {
  text = λ reading. (job_drawing printer panel selection sentence reading).text;
  outcome = λ reading. (job_drawing printer panel selection sentence reading).outcome;
  at_fault = λ items place cause.
      let defaults : Settings = user_defaults unwatched panel in
      start_if_due selection sentence (started_behind false items)
      ++ fault_behind selection sentence printer defaults place cause first_page items (no_macros printer.memory)
      (start_state printer.most_items defaults);
}
