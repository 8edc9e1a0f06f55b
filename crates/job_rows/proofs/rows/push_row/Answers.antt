use Rattle.std.proofs.Common.{◌++◌, Result, ap, codes, sym}
use Rattle.streams.specs.declared.error.Error.{Error}
use Rattle.verdict.specs.declared.verdict.Verdict.{Verdict}
use Rattle.job_reports.proofs.Appending.{three_appended}
use Rattle.job_rows.specs.Heads.{row_head}
use Rattle.job_rows.specs.Rows.{row_body, row_text}
use Rattle.job_rows.proofs.rows.push_row.Goals as goal

pub returns : goal.returns
unfolding row_text
returns g c =
    let head = row_head c.args.explanation.now c.args.report.now in
    three_appended c.extend_from_slice.result c.args.text.now.items _ _ _ head _ (codes "</details>\n") _
    c.in_ok-push_row_head.ensures c.in_ok-push_row_body.ensures c.extend_from_slice.ensures.items
    (ap (λ (answer : Result Verdict Error). head ++ row_body answer c.args.parts.now ++ codes "</details>\n") (sym c.verdict.ensures))
