use Rattle.std.proofs.Common.{refl}
use Rattle.many_requests.proofs.documents.with_path.Goals as goal

pub returns-in-Ok : goal.returns-in-Ok
returns-in-Ok c = (refl, c.in-Ok.ensures.cases.0)

pub returns-in-Err : goal.returns-in-Err
returns-in-Err c = c.in-Err.ensures.cases.0
