-- Moves of the pen that the machines of a fleet execute in step.
use Rattle.std.proofs.Common.{◌≡◌, ◌⊎◌, inl, inr, ℕ, ℤ, false, Option, None, List, [], ◌∷◌, map, refl, sym, ◌∙◌}
use Rattle.pcl_items.specs.declared.frame.Motion.{Motion}
use Rattle.pcl_items.specs.Items.{Entry, Move}
use Rattle.page_env.specs.declared.plot.PenBounds.{PenBounds}
use Rattle.page_machine.specs.Event.{Event, Marked}
use Rattle.page_machine.specs.Likeness.{RunsOnLike}
use Rattle.page_machine.specs.MachineState.{MachineState}
use Rattle.page_machine.specs.PenLines.{MovesPen}
use Rattle.preflight.specs.declared.fleet_mode.FleetMode.{FleetMode}
use Rattle.preflight.specs.declared.fleet_mode.FleetMode.TheVariants.{Alone, Together, Defining, Apart}
use Rattle.preflight.specs.Carriers.Each.{Each}
use Rattle.preflight.specs.Carriers.FleetMode.{others_in, IsFormed, AskAlike, GoesAsOne}
use Rattle.preflight.specs.Carriers.Lockstep.{Execute, Does}
use Rattle.preflight.proofs.FleetModes.{all_do}

module _ (law : (item : Entry) → RunsOnLike item) (box : PenBounds) (motion : Motion) (to : Option (ℤ × ℤ)) (marks : ℕ)
    (fleet_mode : FleetMode) (first first' : MachineState) (others : List MachineState)
    (running : first.stopped ≡ false) (formed : IsFormed fleet_mode first others)
    (together : (fleet_mode ≡ Alone) ⊎ (fleet_mode ≡ Together))
    (bare : first.page.env.job.overlay ≡ None) (moves : MovesPen box motion to marks first first') where
  abbrev item : Entry
  item = Move motion to

  abbrev events : List Event
  events = map Marked moves.shapes

  first_does : Does (Execute item) events first first'
  first_does = record {
    is = moves.is ∙ (λ i. record first { page = first'.page; macros = sym moves.macros i; mode = sym moves.mode i; stopped = running i });
    peaks = moves.peaks;
    run = moves.run;
  }

  asks_nothing : (ms : List MachineState) → AskAlike first item ms
  asks_nothing [] = tt
  asks_nothing (m ∷ ms) = (record { asks = refl; leaves = λ e. absurd cc }, asks_nothing ms)

  as_one : (f : FleetMode) → (f ≡ Alone) ⊎ (f ≡ Together) → GoesAsOne f first others item
  as_one Alone h = tt
  as_one Together h = inl (record { no_overlay = bare; leaves = λ e. absurd cc; alike = asks_nothing others })
  as_one Defining (inl e) = absurd cc
  as_one Defining (inr e) = absurd cc
  as_one Apart (inl e) = absurd cc
  as_one Apart (inr e) = absurd cc

  pub all_draw : Each (Does (Execute item) events) (first ∷ others_in fleet_mode first others) (first' ∷ others_in fleet_mode first' others)
  all_draw = all_do law item events first first' first_does fleet_mode others formed (as_one fleet_mode together)
