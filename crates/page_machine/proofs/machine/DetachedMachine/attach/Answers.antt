use Rattle.std.proofs.Common.{ap}
use Rattle.page_machine.specs.Detached.{attached}
use Rattle.page_machine.proofs.machine.DetachedMachine.attach.Goals as goal

pub returns : goal.returns
returns g c = ap (attached c.args.profile.now) c.self.view_is
