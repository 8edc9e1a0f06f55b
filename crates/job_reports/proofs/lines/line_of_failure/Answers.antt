use Rattle.std.proofs.Common.{◌≡◌, IfOk, subst}
use Rattle.verdict.specs.declared.verdict.Verdict.{Verdict}
use Rattle.job_reports.specs.Lines.{verdict_line}
use Rattle.job_reports.proofs.lines.line_of_failure.Goals as goal

pub returns : goal.returns
returns g c =
    subst (λ (verdict : Verdict). IfOk c.line_of.result (λ line. line.items ≡ verdict_line verdict)) c.verdict.ensures c.line_of.ensures
