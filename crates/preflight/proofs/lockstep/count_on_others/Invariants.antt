use Rattle.std.proofs.Common.{◌≤◌, length, take}
use Rattle.preflight.specs.Carriers.TextInStep.{GoOnAll}
use Rattle.preflight.proofs.lockstep.count_on_others.Given as goal

abbrev pub invariant-loop-machine : goal.invariant-loop-machine
invariant-loop-machine g l =
    (l.count ≤ length l.bytes) × GoOnAll l.measure.look l.from (take l.count l.bytes) (take l.machine-index l.machines)
