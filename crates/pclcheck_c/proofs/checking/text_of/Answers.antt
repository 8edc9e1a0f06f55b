use Rattle.std.proofs.Common.{IfOk, subst}
use Rattle.job_reports.specs.Groups.{Groups}
use Rattle.foreign_calls.specs.Checked.{IsTextOf}
use Rattle.pclcheck_c.proofs.checking.text_of.Goals as goal

pub returns-clause-text : goal.returns-clause-text
returns-clause-text c =
    subst (λ (group : Groups). IfOk c.text_of.result (IsTextOf group c.args.name.now c.args.answer)) c.asked-group.ensures
    c.text_of.ensures.text
