use Rattle.preflight.specs.Carriers.Lockstep.{machines_of}
use Rattle.preflight.specs.Stood.{LacksFont}
use Rattle.preflight.proofs.Spots.{told_of}
use Rattle.preflight.proofs.stood.font_with.Goals as goal

pub returns : goal.returns
returns g c =
    told_of LacksFont c.args.verdict c.args.failing_item (machines_of c.args.machines.now) c.in_ok-machine.machine.now
    c.in_ok-machine.ensures
    c.font_of.result c.font_of.ensures
