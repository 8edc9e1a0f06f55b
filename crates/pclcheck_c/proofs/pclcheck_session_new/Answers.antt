use Rattle.std.proofs.Common.{IfSome, Option, Some, subst, sym}
use Rattle.pclcheck_c.specs.declared.fleet.Fleet.{Fleet}
use Rattle.pclcheck_c.specs.Sessions.{Begins}
use Rattle.pclcheck_c.proofs.pclcheck_session_new.Goals as goal

pub returns-clause-begun : goal.returns-clause-begun
returns-clause-begun c =
    let begin = c.begin-number in
    let Begun : Option Fleet → Type 0 = λ held. IfSome held (λ fleet. Begins c.args.printer begin.result fleet begin.new.handle.held) in
    subst Begun (sym c.take-held.ensures.taken) (subst (λ (fleet : Fleet). Begun (Some fleet)) c.deref.ensures begin.ensures)
