use Rattle.std.proofs.Common.{◌∙◌, Bool, None, Option, if◌then◌else◌, refl, subst, sym, ℕ}
use Rattle.job_reports.specs.Reports.{verdict_told}
use Rattle.job_rows.specs.Kept.{kept_part}
use Rattle.many_jobs.specs.JobRow.{Rereads, drawn_by, page_shown, printer_shown}
use Rattle.many_jobs.proofs.job_row.reread_page.Goals as goal

pub returns-then-is_read_once-clause-read : goal.returns-then-is_read_once-clause-read
returns-then-is_read_once-clause-read g c =
    let answer = c.args.answer in
    let due = drawn_by (page_shown answer) (printer_shown (verdict_told answer) c.args.group.now.fleet) in
    let name = c.args.name.now in
    let start = g.J.Jobs.start c.args.jobs.now name in
    let ended = g.J.Jobs.ended c.args.jobs.now in
    subst (λ (once : Bool). Rereads (if once then None else due) start name None ended ended)
    (sym (sym c.is_read_once.ensures ∙ c.if-is_read_once.true)) refl

pub returns-in-None-clause-read : goal.returns-in-None-clause-read
returns-in-None-clause-read g c =
    let answer = c.args.answer in
    let printer = printer_shown (verdict_told answer) c.args.group.now.fleet in
    let name = c.args.name.now in
    let start = g.J.Jobs.start c.args.jobs.now name in
    let ended = g.J.Jobs.ended c.args.jobs.now in
    subst (λ (once : Bool). Rereads (if once then None else drawn_by (page_shown answer) printer) start name None ended ended)
    (sym (sym c.is_read_once.ensures ∙ c.if-is_read_once.false))
    (subst (λ (page : Option ℕ). Rereads (drawn_by page printer) start name None ended ended) c.in-None.ensures refl)

pub returns-in-Some-clause-read : goal.returns-in-Some-clause-read
returns-in-Some-clause-read g c =
    let answer = c.args.answer in
    let printer = printer_shown (verdict_told answer) c.args.group.now.fleet in
    let name = c.args.name.now in
    let start = g.J.Jobs.start c.args.jobs.now name in
    let ended = g.J.Jobs.ended c.args.jobs.now in
    let ended' = g.J.Jobs.ended c.reread_page_of.new.jobs in
    let text = kept_part (λ text. text.items) c.reread_page_of.result in
    subst (λ (once : Bool). Rereads (if once then None else drawn_by (page_shown answer) printer) start name text ended ended')
    (sym (sym c.is_read_once.ensures ∙ c.if-is_read_once.false))
    (subst (λ (page : Option ℕ). Rereads (drawn_by page printer) start name text ended ended') c.in-Some.ensures
    c.reread_page_of.ensures.read)
