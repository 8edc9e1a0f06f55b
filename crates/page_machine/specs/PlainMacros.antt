-- Macros whose items are text and commands that are one step: on printers that are alike but for the device they run
-- the same.
use Rattle.std.specs.Prelude.{◌≡◌, ◌≢◌, ℕ, Bool, true, false, not, Option, None, Some, is_some, List}
use Rattle.std.specs.List.{AllByRecursion}
use Rattle.pcl_items.specs.Items.{Entry, Parameterized, Text}
use Rattle.device_profile.specs.Likeness.{IsLike}
use Rattle.device_profile.specs.Printer.{Printer}
use Rattle.macro_store.specs.Store.{Store, body_of}
use Rattle.page_env.specs.declared.macros.Control.{Control}
use Rattle.page_env.specs.declared.macros.Control.TheVariants.{Execute, Call}
use Rattle.page_env.specs.Settings.{Settings, State}
use Rattle.page_machine.specs.Defining.{control_in, job_item_run, macros_after}
use Rattle.page_machine.specs.Macros.{MacroContext}
use Rattle.page_machine.specs.MachineState.{MachineState}
use Rattle.page_machine.specs.Still.{may_close}

-- whether an item is text or a command that is one step
abbrev pub is_plain : Entry → Bool
is_plain (Text code) = true
is_plain (Parameterized command n) = not (may_close command)
is_plain _ = false

-- text, or a command that is one step
abbrev pub IsPlain : Entry → Type 0
IsPlain (Text code) = Unit {0}
IsPlain (Parameterized command n) = may_close command ≡ false
IsPlain _ = ⊥

-- so is each item of a body
abbrev pub ArePlain : List Entry → Type 0
ArePlain items = AllByRecursion IsPlain items

-- whether a control runs the body of a macro
abbrev pub runs_body : Option Control → Bool
runs_body (Some Execute) = true
runs_body (Some Call) = true
runs_body _ = false

-- an item is a control that executes a macro or calls it
abbrev pub IsRunning : Entry → Type 0
IsRunning item = runs_body (control_in item) ≡ true

-- an item is a control that does not: it does no more than set what the job sets, and keep the stores
pub record KeepsStores (item : Entry) : Type 0 where
  pub controls : is_some (control_in item) ≡ true
  pub runs_none : runs_body (control_in item) ≡ false

-- the macro of this id has this body, and no definition is open
pub record HasBody (store : Store) (id : ℕ) (body : List Entry) : Type 0 where
  pub no_definition : store.definition ≡ None
  pub body_is : body_of store id ≡ Some body

abbrev pub context_for : Printer → Settings → Store → MacroContext
context_for printer defaults macros = record { printer = printer; defaults = defaults; macros = macros }

-- On two printers that are alike but for the device, and that run macros, such a control runs the same, whatever else
-- is stored.
abbrev pub RunsPlainAlike : Type 0
RunsPlainAlike =
    (p q : Printer) (defaults : Settings) (own other : Store) (item : Entry) (s : State) (body : List Entry) →
    IsLike p q → IsRunning item → ArePlain body → HasBody own s.settings.job.macro_id body →
    HasBody other s.settings.job.macro_id body → p.depth ≢ 0 → q.depth ≢ 0 →
    job_item_run (context_for q defaults other) item s ≡ job_item_run (context_for p defaults own) item s

-- and it leaves the macros
abbrev pub LeavesEach : Type 0
LeavesEach =
    (item : Entry) (id : ℕ) (store : Store) → IsRunning item → store.definition ≡ None →
    macros_after id item store ≡ store

-- ---- machines

-- no definition is open, and the printer runs macros
pub record MayRunMacros (machine : MachineState) : Type 0 where
  pub no_definition : machine.macros.definition ≡ None
  pub levels : machine.printer.depth ≢ 0

-- the item runs this body there, which is plain
pub record RunsPlain (machine : MachineState) (item : Entry) (body : List Entry) : Type 0 where
  pub running : IsRunning item
  pub plain : ArePlain body
  pub may_run : MayRunMacros machine
  pub has : HasBody machine.macros machine.page.env.job.macro_id body

-- a machine has this body for the macro of the id in force on another one
pub record SharesMacro (machine other : MachineState) (body : List Entry) : Type 0 where
  pub may_run : MayRunMacros machine
  pub has : HasBody machine.macros other.page.env.job.macro_id body
