use Rattle.std.proofs.Common.{◌≡◌, ◌+◌}
use Rattle.preflight.proofs.lockstep.machine_behind.Given as goal

abbrev pub invariant-loop-machine : goal.invariant-loop-machine
invariant-loop-machine g l = l.left + l.machine-index ≡ l.machines_before
