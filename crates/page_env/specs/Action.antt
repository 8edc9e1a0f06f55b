-- How the code tells an item to be carried out.
use Rattle.std.specs.Prelude.{◌≡◌, [], None, Result, Ok, Err}
use Rattle.pcl_items.specs.declared.pcl.command.Command.{Command}
use Rattle.pcl_items.specs.declared.pcl.command.Command.TheVariants as commands
use Rattle.pcl_items.specs.declared.number.Number.{Number}
use Rattle.pcl_items.specs.Items.{Entry, amount, pair}
use Rattle.pcl_items.specs.Items as entries
use Rattle.pcl_items.specs.Escapes.Value.{Amount}
use Rattle.device_profile.specs.Printer.{Printer}
use Rattle.page_env.specs.declared.change.Carried.TheVariants as carried
use Rattle.page_env.specs.declared.finding.Finding.{Finding}
use Rattle.page_env.specs.declared.page.Page.{Page}
use Rattle.page_env.specs.declared.table.Action.{Action}
use Rattle.page_env.specs.declared.table.Action.TheVariants as actions
use Rattle.page_env.specs.declared.table.CommandAction.{CommandAction}
use Rattle.page_env.specs.declared.table.CommandAction.TheVariants as command_actions
use Rattle.page_env.specs.declared.table.PageCommand.{PageCommand}
use Rattle.page_env.specs.declared.table.PageCommand.TheVariants.{Sides, Source, Size, Orientation, MacroControl}
use Rattle.page_env.specs.declared.table.PageItem.{PageItem}
use Rattle.page_env.specs.declared.table.PageItem.TheVariants.{CarriageReturn, LineFeed, HalfLineFeed, FormFeed, Reset}
use Rattle.page_env.specs.declared.table.PageItem.TheVariants.{ExitLanguage, Command as PageCommandItem}
use Rattle.page_env.specs.Answers.{CarriesOut, StandsStill}
use Rattle.page_env.specs.Table.{command_transition, transition_of, printed_bytes, coordinates_of}

-- ---- items that may close the page

-- the command that this is
abbrev pub page_command : PageCommand → Command
page_command Sides = commands.Sides
page_command Source = commands.Source
page_command Size = commands.PageSize
page_command Orientation = commands.Orientation
page_command MacroControl = commands.MacroControl

-- the item that this is
abbrev pub page_view : PageItem → Entry
page_view CarriageReturn = entries.CarriageReturn
page_view LineFeed = entries.LineFeed
page_view HalfLineFeed = entries.HalfLineFeed
page_view FormFeed = entries.FormFeed
page_view Reset = entries.Reset
page_view ExitLanguage = entries.ExitLanguage
page_view (PageCommandItem command n) = entries.Parameterized (page_command command) (amount n)

-- ---- what is answered of a command

-- a command that is one step without a mark
abbrev pub stepped : Result Unit Finding → Result CommandAction Finding
stepped (Ok done) = Ok command_actions.Stepped
stepped (Err finding) = Err finding

-- The command was carried out as the table has it, or it is this one, and nothing was done.
-- A finding leaves the settings and the cursor.
unfoldable pub ActsOnCommand : Printer → Command → Amount → Page → Page → Result CommandAction Finding → Type 0
ActsOnCommand printer command n old new (Ok command_actions.Stepped) =
    CarriesOut (λ defaults s. command_transition printer defaults s command n) old new (Ok carried.Stepped)
ActsOnCommand printer command n old new (Ok command_actions.Fill) = (new ≡ old) × (command ≡ commands.FillRectangle)
ActsOnCommand printer command n old new (Ok (command_actions.Page this)) = (new ≡ old) × (command ≡ page_command this)
ActsOnCommand printer command n old new (Err finding) =
    CarriesOut (λ defaults s. command_transition printer defaults s command n) old new (Err finding)
    × StandsStill old new

-- ---- what is answered of an item

-- an item that is one step without a mark
abbrev pub item_stepped : Result Unit Finding → Result Action Finding
item_stepped (Ok done) = Ok actions.Stepped
item_stepped (Err finding) = Err finding

-- a command of this value
abbrev pub valued : Number → Result CommandAction Finding → Result Action Finding
valued n (Ok command_actions.Stepped) = Ok actions.Stepped
valued n (Ok command_actions.Fill) = Ok (actions.Fill n)
valued n (Ok (command_actions.Page command)) = Ok (actions.Page (PageCommandItem command n))
valued n (Err finding) = Err finding

-- an item that ends with its own step: nothing is printed behind it, and no pen moves
abbrev pub EndsWithStep : Entry → Type 0
EndsWithStep item = (printed_bytes item ≡ []) × (coordinates_of item ≡ None)

-- The item was carried out as the table has it, and ended with that, or it is this one, and nothing was done.
-- A finding leaves the settings and the cursor.
unfoldable pub Acts : Printer → Entry → Page → Page → Result Action Finding → Type 0
Acts printer item old new (Ok actions.Stepped) =
    EndsWithStep item × CarriesOut (λ defaults s. transition_of printer defaults s item) old new (Ok carried.Stepped)
Acts printer item old new (Ok (actions.Fill n)) =
    (new ≡ old) × (item ≡ entries.Parameterized commands.FillRectangle (amount n))
Acts printer item old new (Ok (actions.Move motion to)) = (new ≡ old) × (item ≡ entries.Move motion (pair to))
Acts printer item old new (Ok (actions.Page this)) = (new ≡ old) × (item ≡ page_view this)
Acts printer item old new (Err finding) =
    EndsWithStep item × CarriesOut (λ defaults s. transition_of printer defaults s item) old new (Err finding)
    × StandsStill old new
