use Rattle.std.proofs.Common.{◌∙◌, ◌++◌, ap, sym, append_assoc, codes}
use Rattle.line_words.specs.Figures.{named}
use Rattle.job_reports.specs.JobLines.{verdict_words}
use Rattle.job_reports.proofs.job_lines.push_verdict.Goals as goal

pub returns-in_ok-push_named-in-Pass-2 : goal.returns-in_ok-push_named-in-Pass-2
returns-in_ok-push_named-in-Pass-2 g c =
    let line = c.args.line.now.items in
    let pages = named (codes "PASS pages=") c.in-Pass.pages in
    let marks = named (codes " marks=") c.in-Pass.marks in
    c.in_ok-push_named-in-Pass-2.ensures
    ∙ ap (λ l. l ++ marks) c.in_ok-push_named-in-Pass.ensures
    ∙ append_assoc line pages marks
    ∙ ap (λ verdict. line ++ verdict_words verdict) (sym c.in-Pass.is)
