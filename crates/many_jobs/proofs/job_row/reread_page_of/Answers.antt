use Rattle.std.proofs.Common.{◌≡◌, ◌∙◌, None, Option, Some, ap, refl, subst, sym}
use Rattle.device_profile.specs.Printer.{Printer}
use Rattle.streams.specs.Source.{SourceState}
use Rattle.job_reports.specs.Reports.{verdict_told}
use Rattle.job_rows.specs.Kept.{kept_text}
use Rattle.many_jobs.specs.JobRow.{IsRightText, Rereads, drawn_by, page_rendering, printer_shown}
use Rattle.many_jobs.proofs.job_row.reread_page_of.Goals as goal

pub returns-in-None-clause-read : goal.returns-in-None-clause-read
returns-in-None-clause-read g c =
    let answer = c.args.answer in
    let name = c.args.name.now in
    let start = g.J.Jobs.start c.args.jobs.now name in
    let ended = g.J.Jobs.ended c.args.jobs.now in
    let none : printer_shown (verdict_told answer) c.args.group.now.fleet ≡ None =
    ap (printer_shown (verdict_told answer)) (sym c.profiles.ensures) ∙ sym c.in-None.ensures in
    subst (λ (printer : Option Printer). Rereads (drawn_by (Some c.args.page) printer) start name None ended ended) (sym none) refl

pub returns-in-Some-clause-read : goal.returns-in-Some-clause-read
returns-in-Some-clause-read g c =
    let answer = c.args.answer in
    let page = c.args.page in
    let name = c.args.name.now in
    let start = g.J.Jobs.start c.args.jobs.now name in
    let ended = g.J.Jobs.ended c.args.jobs.now in
    let ended' = g.J.Jobs.ended c.end.new.self in
    let after = g.J.Job.Source.state c.read_page-picture.new.job in
    let text = kept_text (λ text. text.items) c.read_page-picture.result in
    let printer = c.in-Some.printer.now in
    let has : printer_shown (verdict_told answer) c.args.group.now.fleet ≡ Some printer =
    ap (printer_shown (verdict_told answer)) (sym c.profiles.ensures) ∙ sym c.in-Some.ensures in
    let right =
    subst (λ (s : SourceState). IsRightText (page_rendering printer page) s after text) c.job-job.ensures.start
    c.read_page-picture.ensures in
    subst (λ (of : Option Printer). Rereads (drawn_by (Some page) of) start name (Some text) ended ended') (sym has)
    (after, right, c.end.ensures.ended)
