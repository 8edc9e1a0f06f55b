-- Lines of text on the machines of a fleet, which go in step.
use Rattle.std.specs.Prelude.{◌≡◌, ℕ, None, List, [], ◌∷◌}
use Rattle.std.specs.List.{AllByRecursion}
use Rattle.pcl_items.specs.declared.item.Mode.TheVariants.{Pcl}
use Rattle.pcl_items.specs.Lines.{line_item}
use Rattle.page_env.specs.declared.text_lines.TextAppearance.{TextAppearance}
use Rattle.page_env.specs.declared.text_lines.TextPlace.{TextPlace}
use Rattle.page_env.specs.TextLines.{AllGo, StandsAt}
use Rattle.page_machine.specs.MachineState.{MachineState}
use Rattle.sinks.specs.declared.counts.Counts.{Counts}
use Rattle.preflight.specs.Carriers.Lockstep.{Execute, GoesAlike}

-- the bytes go on a machine from a place, in mode PCL, and no definition is open
pub record GoOn (look : TextAppearance) (from : TextPlace) (codes : List ℕ) (machine : MachineState) : Type 0 where
  pub stands : StandsAt machine.page from
  pub go : AllGo machine.printer look from machine.page codes
  pub no_definition : machine.macros.definition ≡ None
  pub mode : machine.mode ≡ Pcl

-- so they do on each of the machines, as characters of one look
abbrev pub GoOnAll : TextAppearance → TextPlace → List ℕ → List MachineState → Type 0
GoOnAll look from codes machines = AllByRecursion (GoOn look from codes) machines

-- each of the bytes is an item that all machines execute with the same events, which are counted
abbrev pub PrintInStep : List ℕ → List MachineState → List MachineState → Counts → Counts → Type 0
PrintInStep [] old new counts counts' = (new ≡ old) × (counts' ≡ counts)
PrintInStep (code ∷ codes) old new counts counts' =
    (mid : List MachineState) × (between : Counts) × GoesAlike (Execute (line_item code)) old mid counts between
    × PrintInStep codes mid new between counts'
