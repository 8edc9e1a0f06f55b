use Rattle.std.proofs.Common.{◌+◌, arith}
use Rattle.preflight.proofs.Spots.{there_at}
use Rattle.preflight.proofs.lockstep.machine_behind.Goals as goal

pub returns-then-left-eq0 : goal.returns-then-left-eq0
returns-then-left-eq0 g c =
    there_at (c.args.machines_before + 2) 2 c.loop-machine.machine-index c.machine-item.result c.args.others.now c.loop-machine-test.true
    c.machine-item.is (omega (arith, c.loop-machine.invariant, c.if-left-eq0.true))
