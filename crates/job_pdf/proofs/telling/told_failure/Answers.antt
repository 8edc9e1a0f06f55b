use Rattle.std.proofs.Common.{◌∙◌, ◌++◌, ℕ, List, None, Some, ap}
use Rattle.job_pdf.specs.Telling.{sentence, told_failure, without_line_end}
use Rattle.job_reports.specs.JobSentences.{fails_at}
use Rattle.verdict.specs.declared.verdict.Verdict.{Verdict}
use Rattle.job_pdf.proofs.telling.told_failure.Goals as goal

pub returns : goal.returns
unfolding told_failure
returns g c =
    let wanted = c.args.wanted.now in
    c.in_ok-extend_from_slice.ensures.items
    ∙ (ap (λ (l : List ℕ). l ++ c.without_line_end.result.now) c.new-told.ensures.items
    ∙ (c.without_line_end.ensures
    ∙ ap without_line_end
    (c.as_slice.ensures.value
    ∙ (c.in_ok-line.ensures
    ∙ ap (λ (verdict : Verdict). sentence wanted.job.now wanted.printers.now (fails_at (Some c.args.page) None) verdict)
    c.verdict.ensures))))
