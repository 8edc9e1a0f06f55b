use Rattle.std.proofs.Common.{ap, sym}
use Rattle.page_env.specs.Effect.{Goes}
use Rattle.page_env.specs.Settings.{state_at}
use Rattle.page_machine.proofs.steps.marked.Goals as goal

pub returns-in-Ok : goal.returns-in-Ok
returns-in-Ok g c = λ panel page. rw c.in-Ok.is (ap (Goes (state_at panel page)) (sym c.mark.ensures))
