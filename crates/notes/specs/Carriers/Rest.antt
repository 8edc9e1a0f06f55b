-- How notes are told one after another, and what is due of the rest of a job from where a machine stands.
use Rattle.std.specs.Prelude.{◌≡◌, ℕ, Bool, true, not, ◌||◌, cond, List, [], ◌∷◌, ◌++◌, flat_map}
use Rattle.pcl_items.specs.Items.{Placed}
use Rattle.pcl_lexer.specs.Reading.{Reading, Whole, Stopped, items_of}
use Rattle.device_profile.specs.declared.panel.Panel.{Panel}
use Rattle.device_profile.specs.Printer.{Printer}
use Rattle.macro_store.specs.Store.{Store}
use Rattle.page_env.specs.Settings.{Settings, State, settings_at, state_at}
use Rattle.page_machine.specs.Event.{Event, Marked, Ended}
use Rattle.page_machine.specs.Defining.{job_item_run, macros_after}
use Rattle.page_machine.specs.Job.{JobRun, events_of, reading_run, with_macros}
use Rattle.page_machine.specs.MachineState.{MachineState}
use Rattle.renderings.specs.declared.outcome.Outcome.{Outcome}
use Rattle.renderings.specs.Expected.{Rendering, nothing_at_fault}
use Rattle.renderings.specs.PageTexts.{run_outcome}
use Rattle.renderings.specs.Texts.{reading_outcome}
use Rattle.notes.specs.declared.closing.Closing.{Closing}
use Rattle.notes.specs.declared.note.Note.{Note}
use Rattle.notes.specs.declared.past.Past.{Past}
use Rattle.notes.specs.Note.{Told, firsts, among_behind}
use Rattle.notes.specs.Notes.{ended_notes, closes_page, is_done, notes_at_end, long_run, noted_outcome}
use Rattle.notes.specs.StateNotes.{has_rows_left}
use Rattle.notes.specs.Carriers.Past.{past_behind, past_notes, ends_open}

-- ---- notes that are told

-- the notes that were told, behind these
abbrev pub told_behind : List Note → List Told → List Note
told_behind told [] = told
told_behind told (x ∷ notes) = told_behind (among_behind told x.note) notes

-- what is told so of the first of these was appended, and these count as told
pub record WritesNotes (write : Told → List ℕ) (told told' : List Note) (text text' : List ℕ)
    (notes : List Told) : Type 0 where
  pub text_is : text' ≡ text ++ flat_map write (firsts told notes)
  pub told_is : told' ≡ told_behind told notes

-- whether a page was closed, behind an event
abbrev pub closing_behind : Event → Closing → Closing
closing_behind (Marked mark) closing = closing
closing_behind (Ended page) closing = record { closed = true }

-- ---- the rest of a job

-- of items, by what was kept of those before them, and then of what comes last
abbrev pub rest_of_items : Printer → Settings → (finally : State → List Told) → Past → List Placed → Store → State →
    List Told
rest_of_items printer defaults finally past [] macros s = finally s
rest_of_items printer defaults finally past (x ∷ items) macros s =
    past_notes past x
    ++ ended_notes printer macros x s (job_item_run (with_macros printer defaults macros) x.item s).ending
    (rest_of_items printer defaults finally (past_behind past x.item) items
    (macros_after s.settings.job.macro_id x.item macros))

-- of the end, by whether a page was closed before, and by the state behind the items
abbrev pub rest_of_end : Past → (closed : Bool) → Reading → JobRun → State → List Told
rest_of_end past closed (Whole items place) run s =
    cond (is_done run.ending)
    (notes_at_end (ends_open past items) (not (closed || closes_page (events_of run.items)))
    (has_rows_left s.raster) place)
    []
rest_of_end past closed (Stopped items place cause) run s = []

-- the run of the rest from where the machine stands under this panel
abbrev pub rest_run : MachineState → Panel → Reading → JobRun
rest_run machine panel reading =
    reading_run machine.printer (settings_at panel machine.defaults) reading machine.macros
    (state_at panel machine.page)

-- what it comes to
abbrev pub rest_outcome : MachineState → Panel → Reading → Outcome
rest_outcome machine panel reading = run_outcome (rest_run machine panel reading).items (reading_outcome reading)

abbrev pub rest_notes : MachineState → Panel → Past → Bool → Reading → List Told
rest_notes machine panel past closed reading =
    rest_of_items machine.printer (settings_at panel machine.defaults)
    (rest_of_end past closed reading (rest_run machine panel reading)) past (items_of reading) machine.macros
    (state_at panel machine.page)
    ++ long_run (rest_outcome machine panel reading)

-- what is due of it, where notes are told so, and these were told
abbrev pub notes_from : (Told → List ℕ) → MachineState → Panel → Past → Bool → List Note → Rendering
notes_from write machine panel past closed told = record {
  text = λ reading. flat_map write (firsts told (rest_notes machine panel past closed reading));
  outcome = λ reading. noted_outcome (rest_outcome machine panel reading);
  at_fault = nothing_at_fault;
}
