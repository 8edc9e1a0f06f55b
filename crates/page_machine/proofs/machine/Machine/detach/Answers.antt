use Rattle.std.proofs.Common.{ap}
use Rattle.page_machine.specs.Detached.{detached}
use Rattle.page_machine.proofs.machine.Machine.detach.Goals as goal

pub returns : goal.returns
returns g c = ap detached c.self.view_is
