-- Moves of the pen of a machine, one behind another.
use Rattle.std.specs.Prelude.{◌≡◌, ℕ, ℤ, Option, None, List, [], length, map}
use Rattle.device_profile.specs.declared.panel.Panel.{Panel}
use Rattle.pcl_items.specs.declared.frame.Motion.{Motion}
use Rattle.pcl_items.specs.Items.{Move}
use Rattle.page_env.specs.declared.plot.PenBounds.{PenBounds}
use Rattle.page_env.specs.Mark.{Shape}
use Rattle.page_env.specs.Plot.{DrawsWithin}
use Rattle.page_env.specs.Settings.{state_at}
use Rattle.page_machine.specs.Event.{Marked}
use Rattle.page_machine.specs.Run.{Peaks, Done, after, just}
use Rattle.page_machine.specs.MachineState.{MachineState}
use Rattle.page_machine.specs.Machine.{item_of}

-- the pen of the machine moves and draws within the box, and no definition is open
pub record DrawsIn (box : PenBounds) (machine : MachineState) : Type 0 where
  pub within : DrawsWithin machine.printer machine.page box
  pub no_definition : machine.macros.definition ≡ None

-- A command that moves the pen, or a further pair of its coordinates, is an item that the machine carries out to its
-- end, whatever the panel, with so many marks, and that leaves the macros, the mode and the overlay; behind it the pen
-- draws within the box still.
pub record MovesPen (box : PenBounds) (motion : Motion) (to : Option (ℤ × ℤ)) (marks : ℕ)
    (old new : MachineState) : Type 0 where
  pub shapes : List Shape
  pub count : length shapes ≡ marks
  pub peaks : Panel → Peaks
  pub is : new ≡ record old { page = new.page }
  pub macros : (item_of old (Move motion to)).macros ≡ old.macros
  pub mode : (item_of old (Move motion to)).mode ≡ old.mode
  pub run : (panel : Panel) →
      (item_of old (Move motion to)).run panel
      ≡ after (map Marked shapes) (peaks panel) (just [] (Done (state_at panel new.page)))
  pub overlay : new.page.env.job.overlay ≡ old.page.env.job.overlay
  pub still : DrawsIn box new
