-- Machines that stand alike on printers that are alike but for the device.
use Rattle.std.specs.Prelude.{◌≡◌, ℕ, true, None, []}
use Rattle.macro_store.specs.Store.{Store}
use Rattle.pcl_items.specs.Items.{Entry}
use Rattle.device_profile.specs.Likeness.{IsLike}
use Rattle.device_profile.specs.Printer.{Printer}
use Rattle.page_env.specs.JobControl.{is_reset}
use Rattle.page_env.specs.Likeness.{HasNoOverlay, asks_alike}
use Rattle.page_env.specs.Settings.{Settings, State}
use Rattle.page_machine.specs.Defining.{job_item_run, macros_after}
use Rattle.page_machine.specs.MachineState.{MachineState}
use Rattle.page_machine.specs.PlainMacros.{context_for}

-- a machine of its own printer and macros that stands where the first one does
abbrev pub standing_as : MachineState → MachineState → MachineState
standing_as first machine = record first { printer = machine.printer; macros = machine.macros }

-- a reset finds no macro that it deletes
abbrev pub LeavesStore : Entry → Store → Type 0
LeavesStore item macros = is_reset item ≡ true → macros.bodies ≡ []

-- An item of which two printers ask the same runs the same on both, where no overlay is enabled and no
-- definition is open, whatever macros are known; and these stay, but for a reset.
pub record RunsOnBoth (p q : Printer) (item : Entry) : Type 0 where
  pub same : (defaults : Settings) (own other : Store) (s : State) → own.definition ≡ None → other.definition ≡ None →
      HasNoOverlay s →
      job_item_run (context_for q defaults other) item s ≡ job_item_run (context_for p defaults own) item s
  pub macros : (id : ℕ) (store : Store) → store.definition ≡ None → LeavesStore item store →
      macros_after id item store ≡ store

abbrev pub RunsOnLike : Entry → Type 0
RunsOnLike item = (p q : Printer) → IsLike p q → asks_alike p q item ≡ true → RunsOnBoth p q item
