-- Steps without a mark, as the table has them.
use Rattle.std.proofs.Common.{Ok, Err, Result, refl, ap}
use Rattle.device_profile.specs.Printer.{Printer}
use Rattle.pcl_items.specs.declared.pcl.command.Command.{Command}
use Rattle.pcl_items.specs.Escapes.Value.{Amount}
use Rattle.pcl_items.specs.declared.number.Number.{Number}
use Rattle.pcl_items.specs.Items.{Entry, Parameterized, amount}
use Rattle.page_env.specs.declared.finding.Finding.{Finding}
use Rattle.page_env.specs.declared.page.Page.{Page}
use Rattle.page_env.specs.declared.table.CommandAction.{CommandAction}
use Rattle.page_env.specs.declared.table.CommandAction.TheVariants as command_actions
use Rattle.page_env.specs.Action.{stepped, ActsOnCommand, item_stepped, EndsWithStep, valued, Acts}
use Rattle.page_env.specs.Settings.{State}
use Rattle.page_env.specs.Effect.{TableLine, Step}
use Rattle.page_env.specs.Table.{command_transition, transition_of}
use Rattle.page_env.specs.Answers.{CarriesOut, LeavesFound, Marks, Steps, carried_of}

pub as_step : (line : State → TableLine) (old new : Page) (result : Result Unit Finding) → Steps line old new result →
    CarriesOut (λ defaults s. Step (line s)) old new (carried_of result) × LeavesFound old new result
unfolding CarriesOut Marks
as_step line old new (Ok done) h = (λ panel defaults. h.0 panel, tt)
as_step line old new (Err finding) h = (λ panel defaults. h.0 panel, h.1)

-- a command that is such a step
pub as_command : (printer : Printer) (command : Command) (n : Amount) (old new : Page) (step : Result Unit Finding) →
    CarriesOut (λ defaults s. command_transition printer defaults s command n) old new (carried_of step) × LeavesFound old new step →
    ActsOnCommand printer command n old new (stepped step)
unfolding ActsOnCommand
as_command printer command n old new (Ok done) h = h.0
as_command printer command n old new (Err finding) h = (h.0, h.1)

-- an item that is such a step
pub as_item : (printer : Printer) (item : Entry) (old new : Page) (step : Result Unit Finding) → EndsWithStep item →
    CarriesOut (λ defaults s. transition_of printer defaults s item) old new (carried_of step) × LeavesFound old new step →
    Acts printer item old new (item_stepped step)
unfolding Acts
as_item printer item old new (Ok done) ends h = (ends, h.0)
as_item printer item old new (Err finding) ends h = (ends, h.0, h.1)

-- what is answered of a command is answered of the item that it is
pub as_valued : (printer : Printer) (command : Command) (n : Number) (old new : Page) (answer : Result CommandAction Finding) →
    ActsOnCommand printer command (amount n) old new answer → Acts printer (Parameterized command (amount n)) old new (valued n answer)
unfolding Acts ActsOnCommand
as_valued printer command n old new (Ok command_actions.Stepped) h = ((refl, refl), h)
as_valued printer command n old new (Ok command_actions.Fill) h = (h.0, ap (λ command. Parameterized command (amount n)) h.1)
as_valued printer command n old new (Ok (command_actions.Page this)) h = (h.0, ap (λ command. Parameterized command (amount n)) h.1)
as_valued printer command n old new (Err finding) h = ((refl, refl), h.0, h.1)
