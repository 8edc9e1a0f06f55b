-- What an item writes, where the document goes to an outlet, behind what is kept for it.
use Rattle.std.specs.Prelude.{◌≡◌, ℕ, List, [], ◌++◌, false, Option, None, Some, Result, Ok, Err, IsFalse}
use Rattle.pcl_items.specs.Items.{Entry}
use Rattle.page_env.specs.declared.finding.Finding.{Finding}
use Rattle.page_env.specs.Settings.{State, state_at}
use Rattle.page_machine.specs.Event.{Event}
use Rattle.page_machine.specs.Machine.{item_of, end_of}
use Rattle.page_machine.specs.MachineState.{MachineState}
use Rattle.page_machine.specs.Run.{Peaks, Run, just, after, Ending, Done, Halts}
use Rattle.page_pdf.specs.Document.{Pdf}
use Rattle.streams.specs.declared.error.Error.{Error}
use Rattle.renderings.specs.Carriers.PageRendering.{any_panel}
use Rattle.streams.specs.Writing.{Puts}
use Rattle.streams.specs.Outlet.{OutletState, AddsFront}
use Rattle.job_pdf.specs.declared.drawing.DocumentText.{DocumentText}
use Rattle.job_pdf.specs.declared.sheet.Sheet.{Sheet}
use Rattle.job_pdf.specs.Sheet.{drawn_event, drawn_events, pdf_behind, pdf_behind_all}

-- what an event writes was put, and the document has come so much further
pub record LeadsOn (old new : OutletState) (kept kept' : List ℕ) (sheet : Sheet) (pdf pdf' : Pdf)
    (event : Event) : Type 0 where
  pub working : IsFalse new.failed
  pub puts : Puts old new kept kept' (drawn_event sheet pdf event)
  pub pdf_is : pdf' ≡ pdf_behind sheet pdf event

-- a front of it was written
abbrev pub LeadsTo : OutletState → OutletState → List ℕ → Sheet → Pdf → Event → Type 0
LeadsTo old new kept sheet pdf event = AddsFront old new (kept ++ drawn_event sheet pdf event)

-- the same outlet, the same text that is kept for it, the same document, and the same sheet
pub record StaysAt {W A B : Type 0} (old new : DocumentText W A B) : Type 0 where
  pub outlet : new.outlet.ghost_name ≡ old.outlet.ghost_name
  pub kept : new.kept.ghost_name ≡ old.kept.ghost_name
  pub document : new.document.ghost_name ≡ old.document.ghost_name
  pub sheet : new.sheet ≡ old.sheet

abbrev pub TakesPart : {W A B : Type 0} → (W → OutletState) → DocumentText W A B → Event → DocumentText W A B → Type 0
TakesPart state old event new =
    StaysAt old new
    × LeadsOn (state old.outlet.now) (state new.outlet.now) old.kept.now.items new.kept.now.items old.sheet
    old.document.now new.document.now event

abbrev pub RefusesPart : {W A B : Type 0} → (W → OutletState) → DocumentText W A B → Event → DocumentText W A B → Type 0
RefusesPart state old event new =
    StaysAt old new
    × LeadsTo (state old.outlet.now) (state new.outlet.now) old.kept.now.items old.sheet old.document.now event

-- ---- a call of the machine

-- a run ended so, and all that its events write was put
pub record Draws (sheet : Sheet) (run : Run) (ending : Ending) (old new : OutletState) (kept kept' : List ℕ)
    (pdf pdf' : Pdf) : Type 0 where
  pub events : List Event
  pub peaks : Peaks
  pub is : run ≡ after events peaks (just [] ending)
  pub puts : Puts old new kept kept' (drawn_events sheet pdf events)
  pub pdf_is : pdf' ≡ pdf_behind_all sheet pdf events

-- of what some of its events write a front was written
pub record DrawsFront (sheet : Sheet) (run : Run) (old new : OutletState) (kept : List ℕ) (pdf : Pdf) : Type 0 where
  pub events : List Event
  pub others : List Event
  pub is : run.events ≡ events ++ others
  pub front : AddsFront old new (kept ++ drawn_events sheet pdf events)

-- an item was carried out to its end, or had a finding, or work stopped
abbrev pub Steps : Sheet → MachineState → MachineState → Entry → OutletState → OutletState → List ℕ → List ℕ → Pdf →
    Pdf → Result (Option Finding) Error → Type 0
Steps sheet machine machine' item old new kept kept' pdf pdf' (Ok None) =
    (machine'
    ≡ record machine {
      page = machine'.page;
      macros = (item_of machine item).macros;
      mode = (item_of machine item).mode;
      stopped = false;
    })
    × Draws sheet ((item_of machine item).run any_panel)
    (Done (state_at any_panel machine'.page)) old new kept kept' pdf pdf'
Steps sheet machine machine' item old new kept kept' pdf pdf' (Ok (Some finding)) =
    Draws sheet ((item_of machine item).run any_panel) (Halts finding) old new kept kept' pdf pdf'
Steps sheet machine machine' item old new kept kept' pdf pdf' (Err e) =
    DrawsFront sheet ((item_of machine item).run any_panel) old new kept pdf

-- so was the end of the bytes
abbrev pub Finishes : Sheet → MachineState → OutletState → OutletState → List ℕ → List ℕ → Pdf → Pdf →
    Result (Option Finding) Error → Type 0
Finishes sheet machine old new kept kept' pdf pdf' (Ok None) =
    (s : State) × Draws sheet ((end_of machine).run any_panel) (Done s) old new kept kept' pdf pdf'
Finishes sheet machine old new kept kept' pdf pdf' (Ok (Some finding)) =
    Draws sheet ((end_of machine).run any_panel) (Halts finding) old new kept kept' pdf pdf'
Finishes sheet machine old new kept kept' pdf pdf' (Err e) =
    DrawsFront sheet ((end_of machine).run any_panel) old new kept pdf
