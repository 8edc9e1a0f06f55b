-- How the pages of a job are rendered: what a line leads to, and what is due from where a machine stands.
use Rattle.std.specs.Prelude.{◌≡◌, ℕ, List, ◌++◌, IsFalse}
use Rattle.pcl_lexer.specs.Reading.{Reading}
use Rattle.device_profile.specs.declared.panel.Panel.{Panel}
use Rattle.page_env.specs.Settings.{settings_at, state_at}
use Rattle.page_machine.specs.Event.{Event}
use Rattle.page_machine.specs.Job.{JobRun, events_of, reading_run}
use Rattle.page_machine.specs.MachineState.{MachineState}
use Rattle.renderings.specs.declared.pages.PageText.{PageText}
use Rattle.renderings.specs.Expected.{Rendering, nothing_at_fault}
use Rattle.streams.specs.Outlet.{OutletState, AddsFront}
use Rattle.renderings.specs.PageTexts.{event_line, events_text, page_after, run_outcome}
use Rattle.renderings.specs.Texts.{reading_outcome}
use Rattle.streams.specs.Writing.{Puts}

-- the line of an event was put, and the page behind it is open
pub record LeadsOn (old new : OutletState) (kept kept' : List ℕ) (page page' : ℕ) (event : Event) : Type 0 where
  pub working : IsFalse new.failed
  pub puts : Puts old new kept kept' (event_line page event)
  pub page_is : page' ≡ page_after page event

-- a front of the line of an event was written
abbrev pub LeadsTo : OutletState → OutletState → List ℕ → ℕ → Event → Type 0
LeadsTo old new kept page event = AddsFront old new (kept ++ event_line page event)

-- the line of an event goes to the same outlet, behind what is kept for it
abbrev pub TakesLine : {W A : Type 0} → (W → OutletState) → PageText W A → Event → PageText W A → Type 0
TakesLine state old event new =
    (new.outlet.ghost_name ≡ old.outlet.ghost_name) × (new.kept.ghost_name ≡ old.kept.ghost_name)
    × LeadsOn (state old.outlet.now)
    (state new.outlet.now) old.kept.now.items new.kept.now.items old.page new.page event

abbrev pub RefusesLine : {W A : Type 0} → (W → OutletState) → PageText W A → Event → PageText W A → Type 0
RefusesLine state old event new =
    (new.outlet.ghost_name ≡ old.outlet.ghost_name) × (new.kept.ghost_name ≡ old.kept.ghost_name)
    × LeadsTo (state old.outlet.now) (state new.outlet.now) old.kept.now.items old.page event

-- a machine that knows its panel stands for one state, whatever this one is
abbrev pub any_panel : Panel
any_panel =
    record { size = 0; orientation = 0; vmi = 0; font = 0; copies = 0; sides = 0; tray = 0; line_termination = 0 }

-- the run of the rest of a job from where the machine stands
abbrev pub rest_run : MachineState → Reading → JobRun
rest_run machine reading =
    reading_run machine.printer (settings_at any_panel machine.defaults) reading machine.macros
    (state_at any_panel machine.page)

-- what is due of it, where the page of this number is open
abbrev pub pages_from : MachineState → ℕ → Rendering
pages_from machine page = record {
  text = λ reading. events_text page (events_of (rest_run machine reading).items);
  outcome = λ reading. run_outcome (rest_run machine reading).items (reading_outcome reading);
  at_fault = nothing_at_fault;
}
