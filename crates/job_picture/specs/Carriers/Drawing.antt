-- What an item draws, where its picture goes to an outlet, behind what is kept for it.
use Rattle.std.specs.Prelude.{◌≡◌, ℕ, List, [], ◌++◌, false, Option, None, Some, Result, Ok, Err, IsFalse}
use Rattle.pcl_items.specs.Items.{Entry}
use Rattle.page_env.specs.declared.finding.Finding.{Finding}
use Rattle.page_env.specs.Settings.{State, state_at}
use Rattle.page_machine.specs.Event.{Event}
use Rattle.page_machine.specs.Machine.{item_of, end_of}
use Rattle.page_machine.specs.MachineState.{MachineState}
use Rattle.page_machine.specs.Run.{Peaks, Run, just, after, Ending, Done, Halts}
use Rattle.streams.specs.declared.error.Error.{Error}
use Rattle.renderings.specs.Carriers.PageRendering.{any_panel}
use Rattle.streams.specs.Writing.{Puts}
use Rattle.streams.specs.Outlet.{OutletState, AddsFront}
use Rattle.job_picture.specs.declared.drawing.PictureText.{PictureText}
use Rattle.job_picture.specs.declared.progress.Progress.{Progress}
use Rattle.job_picture.specs.declared.sheet.Sheet.{Sheet}
use Rattle.job_picture.specs.Progress.{progress_behind, progress_behind_all}
use Rattle.job_picture.specs.Sheet.{drawn_event, drawn_events}

-- the picture of an event was put, and the pages have come so much further
pub record LeadsOn (old new : OutletState) (kept kept' : List ℕ) (sheet : Sheet) (p p' : Progress)
    (event : Event) : Type 0 where
  pub working : IsFalse new.failed
  pub puts : Puts old new kept kept' (drawn_event sheet p event)
  pub progress_is : p' ≡ progress_behind p event

-- a front of it was written
abbrev pub LeadsTo : OutletState → OutletState → List ℕ → Sheet → Progress → Event → Type 0
LeadsTo old new kept sheet p event = AddsFront old new (kept ++ drawn_event sheet p event)

-- the same outlet, the same text that is kept for it, and the same sheet
abbrev pub StaysAt : {W A : Type 0} → PictureText W A → PictureText W A → Type 0
StaysAt old new =
    (new.outlet.ghost_name ≡ old.outlet.ghost_name) × (new.kept.ghost_name ≡ old.kept.ghost_name)
    × (new.sheet ≡ old.sheet)

abbrev pub TakesPart : {W A : Type 0} → (W → OutletState) → PictureText W A → Event → PictureText W A → Type 0
TakesPart state old event new =
    StaysAt old new
    × LeadsOn (state old.outlet.now)
    (state new.outlet.now) old.kept.now.items new.kept.now.items old.sheet old.progress new.progress event

abbrev pub RefusesPart : {W A : Type 0} → (W → OutletState) → PictureText W A → Event → PictureText W A → Type 0
RefusesPart state old event new =
    StaysAt old new
    × LeadsTo (state old.outlet.now) (state new.outlet.now) old.kept.now.items old.sheet old.progress event

-- ---- a call of the machine

-- a run ended so, and all that its events draw was put
pub record Draws (sheet : Sheet) (run : Run) (ending : Ending) (old new : OutletState) (kept kept' : List ℕ)
    (p p' : Progress) : Type 0 where
  pub events : List Event
  pub peaks : Peaks
  pub is : run ≡ after events peaks (just [] ending)
  pub puts : Puts old new kept kept' (drawn_events sheet p events)
  pub progress_is : p' ≡ progress_behind_all p events

-- of what some of its events draw a front was written
pub record DrawsFront (sheet : Sheet) (run : Run) (old new : OutletState) (kept : List ℕ) (p : Progress) : Type 0 where
  pub events : List Event
  pub others : List Event
  pub is : run.events ≡ events ++ others
  pub front : AddsFront old new (kept ++ drawn_events sheet p events)

-- an item was carried out to its end, or had a finding, or work stopped
abbrev pub Steps : Sheet → MachineState → MachineState → Entry → OutletState → OutletState → List ℕ → List ℕ →
    Progress → Progress → Result (Option Finding) Error → Type 0
Steps sheet machine machine' item old new kept kept' p p' (Ok None) =
    (machine'
    ≡ record machine {
      page = machine'.page;
      macros = (item_of machine item).macros;
      mode = (item_of machine item).mode;
      stopped = false;
    })
    × Draws sheet ((item_of machine item).run any_panel)
    (Done (state_at any_panel machine'.page)) old new kept kept' p p'
Steps sheet machine machine' item old new kept kept' p p' (Ok (Some finding)) =
    Draws sheet ((item_of machine item).run any_panel) (Halts finding) old new kept kept' p p'
Steps sheet machine machine' item old new kept kept' p p' (Err e) =
    DrawsFront sheet ((item_of machine item).run any_panel) old new kept p

-- so was the end of the bytes
abbrev pub Finishes : Sheet → MachineState → OutletState → OutletState → List ℕ → List ℕ → Progress → Progress →
    Result (Option Finding) Error → Type 0
Finishes sheet machine old new kept kept' p p' (Ok None) =
    (s : State) × Draws sheet ((end_of machine).run any_panel) (Done s) old new kept kept' p p'
Finishes sheet machine old new kept kept' p p' (Ok (Some finding)) =
    Draws sheet ((end_of machine).run any_panel) (Halts finding) old new kept kept' p p'
Finishes sheet machine old new kept kept' p p' (Err e) =
    DrawsFront sheet ((end_of machine).run any_panel) old new kept p
