-- How the machines of a fleet stand.
use Rattle.std.specs.Prelude.{◌≡◌, ◌≢◌, ◌⊎◌, Bool, true, false, None, List, [], ◌∷◌, map}
use Rattle.std.specs.List.{AllByRecursion}
use Rattle.pcl_items.specs.Items.{Entry}
use Rattle.device_profile.specs.declared.panel.Panel.{Panel}
use Rattle.device_profile.specs.Likeness.{IsLike}
use Rattle.device_profile.specs.Printer.{Printer}
use Rattle.page_env.specs.JobControl.{is_reset}
use Rattle.page_env.specs.Likeness.{asks_alike}
use Rattle.page_env.specs.Settings.{settings_at, state_at}
use Rattle.page_machine.specs.Defining.{is_defining, job_item_run, macros_after}
use Rattle.page_machine.specs.Likeness.{LeavesStore, standing_as}
use Rattle.page_machine.specs.Machine.{context_of}
use Rattle.page_machine.specs.MachineState.{MachineState}
use Rattle.page_machine.specs.PlainMacros.{KeepsStores, SharesMacro, context_for}
use Rattle.sinks.specs.declared.counts.Counts.{Counts}
use Rattle.preflight.specs.declared.fleet_mode.FleetMode.{FleetMode}
use Rattle.preflight.specs.declared.fleet_mode.FleetMode.TheVariants.{Alone, Together, Defining, Apart}
use Rattle.preflight.specs.Carriers.Lockstep.{Action, Execute, Fleet}

-- where the others stand
abbrev pub others_in : FleetMode → MachineState → List MachineState → List MachineState
others_in Alone first others = []
others_in Together first others = map (standing_as first) others
others_in Defining first others = others
others_in Apart first others = others

abbrev pub fleet_of : FleetMode → MachineState → List MachineState → Counts → Fleet
fleet_of fleet_mode first others counts = record {
  machines = first ∷ others_in fleet_mode first others;
  counts = counts;
}

-- no definition is open on a machine
abbrev pub DefinesNone : MachineState → Type 0
DefinesNone machine = machine.macros.definition ≡ None

-- its printer is like the first one's, and no definition is open on it
abbrev pub Follows : MachineState → MachineState → Type 0
Follows first machine = IsLike first.printer machine.printer × DefinesNone machine

-- A machine of a printer that is like the first one's stands where that does, and a definition is open where one is
-- on the first.
pub record StandsAlike (first machine : MachineState) : Type 0 where
  pub like : IsLike first.printer machine.printer
  pub defaults : machine.defaults ≡ first.defaults
  pub mode : machine.mode ≡ first.mode
  pub page : (panel : Panel) → state_at panel machine.page ≡ state_at panel first.page
  pub defines : is_defining machine.macros ≡ is_defining first.macros

abbrev pub IsFormed : FleetMode → MachineState → List MachineState → Type 0
IsFormed Alone first others = others ≡ []
IsFormed Together first others = DefinesNone first × AllByRecursion (Follows first) others × (others ≢ [])
IsFormed Defining first others =
    (is_defining first.macros ≡ true) × AllByRecursion (StandsAlike first) others × (others ≢ [])
IsFormed Apart first others = Unit {0}

-- how machines stand that have executed nothing
abbrev pub BeginsAs : FleetMode → Printer → List Printer → Type 0
BeginsAs Alone first others = others ≡ []
BeginsAs Together first others = AllByRecursion (IsLike first) others × (others ≢ [])
BeginsAs Defining first others = ⊥
BeginsAs Apart first others = Unit {0}

-- an item asks no printer, and is no reset
pub record AsksNothing (item : Entry) : Type 0 where
  pub no_reset : is_reset item ≡ false
  pub asks : (p q : Printer) → asks_alike p q item ≡ true

-- an item asks a printer what it asks another one, and the macros stay
pub record AsksAlike (first : MachineState) (item : Entry) (machine : MachineState) : Type 0 where
  pub asks : asks_alike first.printer machine.printer item ≡ true
  pub leaves : LeavesStore item machine.macros

-- so it asks the printer of each of these machines
abbrev pub AskAlike : MachineState → Entry → List MachineState → Type 0
AskAlike first item machines = AllByRecursion (AsksAlike first item) machines

-- an item that asks the first machine nothing which it does not ask the others, where no overlay is enabled
pub record AsksAllAlike (first : MachineState) (item : Entry) (others : List MachineState) : Type 0 where
  pub no_overlay : first.page.env.job.overlay ≡ None
  pub leaves : LeavesStore item first.macros
  pub alike : AskAlike first item others

-- an item does on a machine that stands where the first one does what it does there, and the macros stay
pub record RunsAsFirst (first : MachineState) (item : Entry) (machine : MachineState) : Type 0 where
  pub same : IsLike first.printer machine.printer → (panel : Panel) →
      job_item_run (context_for machine.printer (settings_at panel first.defaults) machine.macros) item
      (state_at panel first.page)
      ≡ job_item_run (context_of first panel) item (state_at panel first.page)
  pub macros : macros_after first.page.env.job.macro_id item machine.macros ≡ machine.macros

-- so it does on all
pub record RunsAsOne (first : MachineState) (item : Entry) (others : List MachineState) : Type 0 where
  pub macros : macros_after first.page.env.job.macro_id item first.macros ≡ first.macros
  pub each : AllByRecursion (RunsAsFirst first item) others

-- An item does the same on all machines.
abbrev pub GoesAsOne : FleetMode → MachineState → List MachineState → Entry → Type 0
GoesAsOne Alone first others item = Unit {0}
GoesAsOne Together first others item = AsksAllAlike first item others ⊎ RunsAsOne first item others
GoesAsOne Defining first others item = ⊥
GoesAsOne Apart first others item = ⊥

-- each of these machines has this body for the macro of the id in force on the first one
abbrev pub ShareMacro : MachineState → List Entry → List MachineState → Type 0
ShareMacro first body machines = AllByRecursion (λ machine. SharesMacro machine first body) machines

-- Machines that stand alike do so again where each has executed this by itself, whatever macros are known.
abbrev pub StayAlike : FleetMode → MachineState → Action → Type 0
StayAlike Together first (Execute item) =
    KeepsStores item ⊎ ((is_reset item ≡ true) × (first.page.env.job.overlay ≡ None))
StayAlike Defining first (Execute item) = Unit {0}
StayAlike fleet_mode first action = ⊥

-- how machines stand that stand alike, each by itself, where a definition is open or not
abbrev pub joined_as : Bool → FleetMode
joined_as true = Defining
joined_as false = Together

-- a machine comes to stand where the first one does
abbrev pub StandsAs : MachineState → MachineState → MachineState → Type 0
StandsAs first old new = new ≡ standing_as first old

-- no definition is open on any machine
abbrev pub NoneDefines : List MachineState → Type 0
NoneDefines machines = AllByRecursion (λ machine. machine.macros.definition ≡ None) machines
