-- Moves and rectangles that a machine carries out, one behind another, by what is looked up of its page.
use Rattle.std.specs.Prelude.{◌≡◌, ℕ, None, List, [], length, map}
use Rattle.device_profile.specs.declared.panel.Panel.{Panel}
use Rattle.pcl_items.specs.Escapes.Value.{Amount}
use Rattle.pcl_items.specs.declared.item.Mode.TheVariants.{Pcl}
use Rattle.pcl_items.specs.declared.pcl.command.Command.{Command}
use Rattle.pcl_items.specs.Items.{HalfLineFeed, Parameterized}
use Rattle.page_env.specs.declared.lookup.FormBounds.{FormBounds}
use Rattle.page_env.specs.Forms.{Form, HasBounds, LeavesRest, command_of}
use Rattle.page_env.specs.Mark.{Shape}
use Rattle.page_env.specs.Settings.{state_at}
use Rattle.page_machine.specs.Event.{Marked}
use Rattle.page_machine.specs.Run.{Done, after, just, peaks_of}
use Rattle.page_machine.specs.MachineState.{MachineState}
use Rattle.page_machine.specs.Machine.{item_of}

-- what moves and rectangles take from the machine, which may go on in mode PCL; no definition is open
pub record FormsOn (bounds : FormBounds) (machine : MachineState) : Type 0 where
  pub page : HasBounds machine.printer machine.page bounds
  pub no_definition : machine.macros.definition ≡ None
  pub mode : machine.mode ≡ Pcl

-- A command of forms is an item that the machine carries out to its end, whatever the panel, with so many marks, and
-- that leaves the macros, the mode, and all of the page but what it changes.
pub record RunsForm (command : Command) (n : Amount) (marks : ℕ) (old new : MachineState) : Type 0 where
  pub form : Form
  pub command_is : command ≡ command_of form
  pub shapes : List Shape
  pub count : length shapes ≡ marks
  pub is : new ≡ record old { page = new.page }
  pub macros : (item_of old (Parameterized command n)).macros ≡ old.macros
  pub mode : (item_of old (Parameterized command n)).mode ≡ old.mode
  pub run : (panel : Panel) →
      (item_of old (Parameterized command n)).run panel
      ≡ after (map Marked shapes) (peaks_of (state_at panel new.page)) (just [] (Done (state_at panel new.page)))
  pub rest : LeavesRest old.page new.page

-- A half line feed is an item that the machine carries out to its end, whatever the panel, without a mark, and that
-- leaves the macros, the mode, and all of the page but the cursor.
pub record RunsFeed (old new : MachineState) : Type 0 where
  pub is : new ≡ record old { page = new.page }
  pub macros : (item_of old HalfLineFeed).macros ≡ old.macros
  pub mode : (item_of old HalfLineFeed).mode ≡ old.mode
  pub run : (panel : Panel) →
      (item_of old HalfLineFeed).run panel
      ≡ after [] (peaks_of (state_at panel new.page)) (just [] (Done (state_at panel new.page)))
  pub rest : LeavesRest old.page new.page
