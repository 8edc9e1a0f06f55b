-- Where a machine stands, by itself and on a printer.
use Rattle.std.specs.Prelude.{Bool}
use Rattle.pcl_items.specs.declared.item.Mode.{Mode}
use Rattle.device_profile.specs.Printer.{Printer}
use Rattle.macro_store.specs.Store.{Store}
use Rattle.page_env.specs.declared.page.Env.{Env}
use Rattle.page_env.specs.declared.page.Page.{Page}
use Rattle.page_machine.specs.MachineState.{MachineState}

-- all of a machine but its printer
pub record DetachedState : Type 0 where
  pub defaults : Env
  pub page : Page
  pub macros : Store
  pub mode : Mode
  pub stopped : Bool

abbrev pub detached : MachineState → DetachedState
detached machine = record {
  defaults = machine.defaults;
  page = machine.page;
  macros = machine.macros;
  mode = machine.mode;
  stopped = machine.stopped;
}

-- the machine that it is on a printer
abbrev pub attached : Printer → DetachedState → MachineState
attached printer machine = record {
  printer = printer;
  defaults = machine.defaults;
  page = machine.page;
  macros = machine.macros;
  mode = machine.mode;
  stopped = machine.stopped;
}
