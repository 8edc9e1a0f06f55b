use Rattle.std.proofs.Common.{take}
use Rattle.pcl_items.specs.Items.{view}
use Rattle.preflight.specs.Carriers.FleetMode.{AskAlike}
use Rattle.preflight.proofs.alike.ask_alike.Given as goal

abbrev pub invariant-loop-machine : goal.invariant-loop-machine
invariant-loop-machine g l = AskAlike l.first (view l.item) (take l.machine-index l.others)
