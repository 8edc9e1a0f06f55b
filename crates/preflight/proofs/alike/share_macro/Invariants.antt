use Rattle.std.proofs.Common.{take}
use Rattle.preflight.specs.Carriers.FleetMode.{ShareMacro}
use Rattle.preflight.proofs.alike.share_macro.Given as goal

abbrev pub invariant-loop-machine : goal.invariant-loop-machine
invariant-loop-machine g l = ShareMacro l.first l.body (take l.machine-index l.others)
