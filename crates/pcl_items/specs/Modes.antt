-- The languages of a job, where one goes over into the other.
use Rattle.std.specs.Prelude.{◌==◌, List, [], ◌∷◌, Option, None, Some, if◌then◌else◌}
use Rattle.pcl_items.specs.declared.item.Mode.{Mode}
use Rattle.pcl_items.specs.declared.item.Mode.TheVariants as modes
use Rattle.pcl_items.specs.Items.{Entry, Text, Reset, EnterFrame, LeaveFrame, Initialize, Set, Move, ExitLanguage}
use Rattle.pcl_items.specs.Items.{PjlLine}
use Rattle.pcl_items.specs.PjlLines.Text.{at_sign, PjlCommand, EnterPcl}

-- the mode behind an item of mode PCL
abbrev pcl_follows : Entry → Option Mode
pcl_follows (EnterFrame handover) = Some modes.Frame
pcl_follows Initialize = None
pcl_follows (Set setting ten_thousandths) = None
pcl_follows (Move motion to) = None
pcl_follows ExitLanguage = Some modes.Pjl
pcl_follows (PjlLine line) = None
pcl_follows item = Some modes.Pcl

-- the mode behind a line
abbrev pub behind_pjl : PjlCommand → Mode
behind_pjl EnterPcl = modes.Pcl
behind_pjl line = modes.Pjl

-- The mode behind an item, where the mode admits it.
-- Mode PJL has lines, and else what mode PCL has; there `@` begins a line.
abbrev pub follows : Mode → Entry → Option Mode
follows modes.Pcl item = pcl_follows item
follows modes.Frame Reset = Some modes.Pcl
follows modes.Frame (LeaveFrame handover) = Some modes.Pcl
follows modes.Frame Initialize = Some modes.Frame
follows modes.Frame (Set setting ten_thousandths) = Some modes.Frame
follows modes.Frame (Move motion to) = Some modes.Frame
follows modes.Frame ExitLanguage = Some modes.Pjl
follows modes.Frame item = None
follows modes.Pjl (Text code) = if code == at_sign then None else Some modes.Pcl
follows modes.Pjl (PjlLine line) = Some (behind_pjl line)
follows modes.Pjl item = pcl_follows item

-- the mode behind items that a mode admits one behind another
abbrev pub mode_after : Option Mode → List Entry → Option Mode
mode_after None items = None
mode_after (Some mode) [] = Some mode
mode_after (Some mode) (item ∷ items) = mode_after (follows mode item) items

abbrev pub mode_behind : Mode → List Entry → Option Mode
mode_behind mode items = mode_after (Some mode) items
