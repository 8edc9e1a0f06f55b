use Rattle.std.proofs.Common.{IfSome, Option, Some, subst, sym}
use Rattle.pclcheck_c.specs.declared.fleet.Fleet.{Fleet}
use Rattle.foreign_calls.specs.Checked.{Checks}
use Rattle.pclcheck_c.specs.Fleets.{asked}
use Rattle.pclcheck_c.proofs.pclcheck_check.Goals as goal

pub returns-clause-checked : goal.returns-clause-checked
returns-clause-checked c =
    let Checked : Option Fleet → Type 0 = λ held. IfSome held (λ fleet. Checks (asked fleet c.args.printer).fleet c.args.job.now
    c.check-number.result c.args.verdict.now c.check-number.new.row) in
    subst Checked (sym c.take-held.ensures.taken) (subst (λ (fleet : Fleet). Checked (Some fleet)) c.deref.ensures c.check-number.ensures)
