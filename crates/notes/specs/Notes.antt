-- The notes of a job on a printer, by its items and by the plain run of them from a panel.
use Rattle.std.specs.Prelude.{ℕ, Bool, true, false, not, cond, List, [], ◌∷◌, ◌++◌, flat_map, Some}
use Rattle.std.specs.List.{list_any}
use Rattle.pcl_items.specs.Items.{Placed}
use Rattle.pcl_lexer.specs.Reading.{Reading, Whole, Stopped, items_of}
use Rattle.device_profile.specs.declared.panel.Panel.{Panel}
use Rattle.device_profile.specs.Printer.{Printer}
use Rattle.macro_store.specs.Store.{Store, no_macros}
use Rattle.page_env.specs.Settings.{Settings, State, start_state, user_defaults, unwatched}
use Rattle.page_machine.specs.Event.{Event, Marked, Ended}
use Rattle.page_machine.specs.Run.{Ending, Done, Halts}
use Rattle.page_machine.specs.Defining.{is_defining, job_item_run, macros_after}
use Rattle.page_machine.specs.Job.{JobRun, events_of, with_macros, plain_run}
use Rattle.verdict.specs.Limits.{is_many_items}
use Rattle.renderings.specs.declared.outcome.Outcome.{Outcome}
use Rattle.renderings.specs.declared.outcome.Outcome.TheVariants.{Done as AllDone, Fail}
use Rattle.renderings.specs.Expected.{Rendering, nothing_at_fault}
use Rattle.renderings.specs.PageTexts.{pages_outcome}
use Rattle.notes.specs.declared.note.TheConstants.{MOST_ITEMS}
use Rattle.notes.specs.declared.note.Note.TheVariants.{OpenEnd, NoPage, ShortRaster, LongRun}
use Rattle.notes.specs.Note.{Told, told_if, firsts}
use Rattle.notes.specs.ItemNotes.{item_notes, is_open_end}
use Rattle.notes.specs.StateNotes.{has_rows_left, state_notes}

-- ---- the items of a job

-- by its states: of an item that is stored nothing
abbrev pub carried_notes : Printer → Store → Placed → State → State → List Told
carried_notes printer macros x s t = cond (is_defining macros) [] (state_notes printer x s t)

-- of an item that ended so, and then what follows: behind a finding nothing does, and its item has no state behind it
abbrev pub ended_notes : Printer → Store → Placed → State → Ending → (State → List Told) → List Told
ended_notes printer macros x s (Done t) next = carried_notes printer macros x s t ++ next t
ended_notes printer macros x s (Halts finding) next = []

-- of items behind these, the nearest first, from these macros and this state;
-- and then what comes last, of the state behind them
abbrev pub notes_of_items : Printer → Settings → (finally : State → List Told) →
    (items_before : List Placed) → List Placed →
    Store → State → List Told
notes_of_items printer defaults finally items_before [] macros s = finally s
notes_of_items printer defaults finally items_before (x ∷ items) macros s =
    item_notes items_before x
    ++ ended_notes printer macros x s (job_item_run (with_macros printer defaults macros) x.item s).ending
    (notes_of_items printer defaults finally (x ∷ items_before) items
    (macros_after s.settings.job.macro_id x.item macros))

-- ---- its end

abbrev pub is_end_of_page : Event → Bool
is_end_of_page (Marked mark) = false
is_end_of_page (Ended page) = true

abbrev pub closes_page : List Event → Bool
closes_page events = list_any is_end_of_page events

-- 103 NoPage: the run closes no page
abbrev pub has_no_page : JobRun → Bool
has_no_page run = not (closes_page (events_of run.items))

abbrev pub is_done : Ending → Bool
is_done (Done s) = true
is_done (Halts finding) = false

-- the notes of the end, at the number of bytes
abbrev pub notes_at_end : (is_open no_page is_short : Bool) → ℕ → List Told
notes_at_end is_open no_page is_short place =
    told_if is_open place OpenEnd ++ told_if no_page place NoPage ++ told_if is_short place ShortRaster

-- where the bytes are items to their end, and the run of them comes to its end:
-- 109 ShortRaster where in the state behind the items a raster has rows left
abbrev pub end_notes : Reading → JobRun → State → List Told
end_notes (Whole items place) run s =
    cond (is_done run.ending) (notes_at_end (is_open_end items) (has_no_page run) (has_rows_left s.raster) place) []
end_notes (Stopped items place cause) run s = []

-- ---- a run that is too long (the manual's "Macro Control Command")

-- the printer whose macros may carry out a million items of a job
abbrev pub with_most_items : Printer → Printer
with_most_items printer = record printer { most_items = Some MOST_ITEMS }

-- 112 LongRun: a job comes to this, that macros would carry out more items than the printer allows
abbrev pub long_run : Outcome → List Told
long_run AllDone = []
long_run (Fail place profile reason) = told_if (is_many_items reason) place LongRun

-- and what a job comes to, where that is a note and no failure
abbrev pub noted_outcome : Outcome → Outcome
noted_outcome AllDone = AllDone
noted_outcome (Fail place profile reason) = cond (is_many_items reason) AllDone (Fail place profile reason)

-- ---- the job

-- all that hold, in the order of the items by which they hold
abbrev pub notes_of : Printer → Panel → Reading → List Told
notes_of printer panel reading =
    let defaults : Settings = user_defaults unwatched panel in
    notes_of_items printer defaults (end_notes reading (plain_run printer panel reading)) [] (items_of reading)
    (no_macros printer.memory) (start_state printer.most_items defaults)
    ++ long_run (pages_outcome printer panel reading)

-- what is told so of the first of each
abbrev pub notes_text : (Told → List ℕ) → Printer → Panel → Reading → List ℕ
notes_text text printer panel reading = flat_map text (firsts [] (notes_of printer panel reading))

-- the outcome of its run, but for one that is too long: what follows is not looked at, and that is no failure
abbrev pub notes_outcome : Printer → Panel → Reading → Outcome
notes_outcome printer panel reading = noted_outcome (pages_outcome printer panel reading)

abbrev pub notes_rendering : (Told → List ℕ) → Printer → Panel → Rendering
notes_rendering text printer panel = record {
  text = notes_text text printer panel;
  outcome = notes_outcome printer panel;
  at_fault = nothing_at_fault;
}
