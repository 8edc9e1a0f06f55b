use Rattle.std.proofs.Common.{IfOk, subst}
use Rattle.job_reports.specs.Groups.{Groups}
use Rattle.foreign_calls.specs.Checked.{IsSentenceOf}
use Rattle.pclcheck_c.proofs.checking.tell.Goals as goal

pub returns-clause-sentence : goal.returns-clause-sentence
returns-clause-sentence c =
    subst (λ (group : Groups). IfOk c.tell.result (IsSentenceOf group c.args.name.now c.args.job.now)) c.asked-group.ensures
    c.tell.ensures.sentence
