use Rattle.std.proofs.Common.{◌≡◌, ◌∙◌, IfErr, IfOk, None, Option, Some, ap, false, subst, sym, true}
use Rattle.device_profile.specs.Printer.{Printer}
use Rattle.streams.specs.Outlet.{Adds}
use Rattle.streams.specs.Source.{SourceState}
use Rattle.many_jobs.specs.Asked.{told_by}
use Rattle.job_reports.specs.Groups.{Groups, group_at, reported}
use Rattle.many_jobs.specs.JobChecks.{AddsRow, AddsTold, CutsNotes, CutsRow, CutsTold, IsRightAnswer, TellsNotes, work}
use Rattle.many_jobs.specs.JobNoting.{note_printer}
use Rattle.job_reports.specs.Reports.{verdict_told}
use Rattle.many_jobs.specs.Telling.{is_html, report_text}
use Rattle.many_jobs.proofs.JobChecks.{cuts_line, cuts_notes, row_cut_all, row_errors, row_told_all, tells_alone, tells_noted, where_err}
use Rattle.many_jobs.proofs.job_checks.tell_group.Goals as goal

pub returns-in_err-tell_line-clause-front : goal.returns-in_err-tell_line-clause-front
returns-in_err-tell_line-clause-front g c =
    let printers = c.args.printers.now in
    let telling = told_by c.args.telling.now in
    let start = g.J.Jobs.start c.args.jobs.now in
    let name = c.args.name.now in
    let number = c.args.number in
    let after = g.J.Job.Source.state c.check_group-answer.new.job in
    let answer = c.check_group-answer.result in
    let old = work (g.O.Outlet.state c.args.stdout.now) (g.J.Jobs.ended c.args.jobs.now) in
    let mid = work (g.O.Outlet.state c.tell_line.new.stdout) (g.J.Jobs.ended c.end.new.self) in
    let plain : is_html telling.format ≡ false = sym c.is_html.ensures ∙ c.if-is_html.false in
    let right =
    subst (λ (part : Groups). IsRightAnswer part.fleet (start name) after answer) c.part-group.ensures
    (subst
    (λ (s : SourceState). IsRightAnswer c.part-group.result.fleet s after answer) c.job-job.ensures.start c.check_group-answer.ensures) in
    let error = c.in_err-tell_line.field-0.0 in
    let cut =
    subst (λ (part : Groups). CutsTold error (λ cause. report_text telling (reported part name answer cause)) old.out mid.out)
    c.part-group.ensures c.in_err-tell_line.ensures.cut in
    where_err c.from_residual.result _
    (cuts_line printers telling start name number after answer right plain old mid c.end.ensures.ended error cut)

pub returns-in-None-clause-told : goal.returns-in-None-clause-told
returns-in-None-clause-told g c =
    let printers = c.args.printers.now in
    let telling = told_by c.args.telling.now in
    let start = g.J.Jobs.start c.args.jobs.now in
    let name = c.args.name.now in
    let number = c.args.number in
    let after = g.J.Job.Source.state c.check_group-answer.new.job in
    let answer = c.check_group-answer.result in
    let old = work (g.O.Outlet.state c.args.stdout.now) (g.J.Jobs.ended c.args.jobs.now) in
    let mid = work (g.O.Outlet.state c.tell_line.new.stdout) (g.J.Jobs.ended c.end.new.self) in
    let plain : is_html telling.format ≡ false = sym c.is_html.ensures ∙ c.if-is_html.false in
    let right =
    subst (λ (part : Groups). IsRightAnswer part.fleet (start name) after answer) c.part-group.ensures
    (subst
    (λ (s : SourceState). IsRightAnswer c.part-group.result.fleet s after answer) c.job-job.ensures.start c.check_group-answer.ensures) in
    let adds =
    subst (λ (part : Groups). AddsTold (λ cause. report_text telling (reported part name answer cause)) old.out mid.out)
    c.part-group.ensures c.in_ok-tell_line.ensures.told in
    let none : note_printer (verdict_told answer) (group_at printers number).note_printers ≡ None =
    ap (λ (part : Groups). note_printer (verdict_told answer) part.note_printers) (sym c.part-group.ensures)
    ∙ (ap (note_printer (verdict_told answer)) (sym c.note_printers.ensures) ∙ sym c.in-None.ensures) in
    tells_alone printers telling start name number after answer right plain old mid c.end.ensures.ended c.of-ending.result none
    adds c.of-ending.ensures

pub returns-in_err-noted-in-Some-clause-front : goal.returns-in_err-noted-in-Some-clause-front
returns-in_err-noted-in-Some-clause-front g c =
    let printers = c.args.printers.now in
    let telling = told_by c.args.telling.now in
    let start = g.J.Jobs.start c.args.jobs.now in
    let name = c.args.name.now in
    let number = c.args.number in
    let after = g.J.Job.Source.state c.check_group-answer.new.job in
    let answer = c.check_group-answer.result in
    let old = work (g.O.Outlet.state c.args.stdout.now) (g.J.Jobs.ended c.args.jobs.now) in
    let mid = work (g.O.Outlet.state c.tell_line.new.stdout) (g.J.Jobs.ended c.end.new.self) in
    let plain : is_html telling.format ≡ false = sym c.is_html.ensures ∙ c.if-is_html.false in
    let right =
    subst (λ (part : Groups). IsRightAnswer part.fleet (start name) after answer) c.part-group.ensures
    (subst
    (λ (s : SourceState). IsRightAnswer c.part-group.result.fleet s after answer) c.job-job.ensures.start c.check_group-answer.ensures) in
    let new = work (g.O.Outlet.state c.tell_notes.new.stdout) (g.J.Jobs.ended c.tell_notes.new.jobs) in
    let adds =
    subst (λ (part : Groups). AddsTold (λ cause. report_text telling (reported part name answer cause)) old.out mid.out)
    c.part-group.ensures c.in_ok-tell_line.ensures.told in
    let printer = c.in-Some.printer.now in
    let has : note_printer (verdict_told answer) (group_at printers number).note_printers ≡ Some printer =
    ap (λ (part : Groups). note_printer (verdict_told answer) part.note_printers) (sym c.part-group.ensures)
    ∙ (ap (note_printer (verdict_told answer)) (sym c.note_printers.ensures) ∙ sym c.in-Some.ensures) in
    let error = c.in_err-noted-in-Some.field-0.0 in
    let cut =
    subst (λ (part : Groups). CutsNotes error part telling printer (g.J.Jobs.start c.end.new.self name) name mid new) c.part-group.ensures
    c.in_err-noted-in-Some.ensures.cut in
    let cut' =
    subst (λ start_of. CutsNotes error (group_at printers number) telling printer (start_of name) name mid new) c.end.ensures.start cut in
    where_err c.from_residual-in_err-noted-in-Some.result _
    (cuts_notes printers telling start name number after answer right plain printer has old mid new c.end.ensures.ended adds error cut')

pub returns-in_ok-noted-in-Some-clause-told : goal.returns-in_ok-noted-in-Some-clause-told
returns-in_ok-noted-in-Some-clause-told g c =
    let printers = c.args.printers.now in
    let telling = told_by c.args.telling.now in
    let start = g.J.Jobs.start c.args.jobs.now in
    let name = c.args.name.now in
    let number = c.args.number in
    let after = g.J.Job.Source.state c.check_group-answer.new.job in
    let answer = c.check_group-answer.result in
    let old = work (g.O.Outlet.state c.args.stdout.now) (g.J.Jobs.ended c.args.jobs.now) in
    let mid = work (g.O.Outlet.state c.tell_line.new.stdout) (g.J.Jobs.ended c.end.new.self) in
    let plain : is_html telling.format ≡ false = sym c.is_html.ensures ∙ c.if-is_html.false in
    let right =
    subst (λ (part : Groups). IsRightAnswer part.fleet (start name) after answer) c.part-group.ensures
    (subst
    (λ (s : SourceState). IsRightAnswer c.part-group.result.fleet s after answer) c.job-job.ensures.start c.check_group-answer.ensures) in
    let new = work (g.O.Outlet.state c.tell_notes.new.stdout) (g.J.Jobs.ended c.tell_notes.new.jobs) in
    let adds =
    subst (λ (part : Groups). AddsTold (λ cause. report_text telling (reported part name answer cause)) old.out mid.out)
    c.part-group.ensures c.in_ok-tell_line.ensures.told in
    let printer = c.in-Some.printer.now in
    let has : note_printer (verdict_told answer) (group_at printers number).note_printers ≡ Some printer =
    ap (λ (part : Groups). note_printer (verdict_told answer) part.note_printers) (sym c.part-group.ensures)
    ∙ (ap (note_printer (verdict_told answer)) (sym c.note_printers.ensures) ∙ sym c.in-Some.ensures) in
    let told = c.in_ok-noted-in-Some.ensures.told in
    let tells =
    subst
    (λ (part : Groups). TellsNotes part telling printer (g.J.Jobs.start c.end.new.self name) name mid new (Adds mid.out new.out) told.0)
    c.part-group.ensures told.2 in
    let tells' =
    subst (λ start_of. TellsNotes (group_at printers number) telling printer (start_of name) name mid new (Adds mid.out new.out) told.0)
    c.end.ensures.start tells in
    rw c.worse.ensures
    (tells_noted printers telling start name number after answer right plain printer has old mid new c.end.ensures.ended adds told.0
    c.of-ending.result c.in_ok-noted-in-Some.noted tells' c.of-ending.ensures told.1)

pub returns-then-is_html-clause-told : goal.returns-then-is_html-clause-told
returns-then-is_html-clause-told g c =
    let printers = c.args.printers.now in
    let telling = told_by c.args.telling.now in
    let start = g.J.Jobs.start c.args.jobs.now in
    let name = c.args.name.now in
    let number = c.args.number in
    let after = g.J.Job.Source.state c.check_group-answer.new.job in
    let answer = c.check_group-answer.result in
    let old = work (g.O.Outlet.state c.args.stdout.now) (g.J.Jobs.ended c.args.jobs.now) in
    let new = work (g.O.Outlet.state c.tell_row.new.stdout) (g.J.Jobs.ended c.tell_row.new.jobs) in
    let ended = g.J.Jobs.ended c.end.new.self in
    let html : is_html telling.format ≡ true = sym c.is_html.ensures ∙ c.if-is_html.true in
    let right =
    subst (λ (part : Groups). IsRightAnswer part.fleet (start name) after answer) c.part-group.ensures
    (subst
    (λ (s : SourceState). IsRightAnswer c.part-group.result.fleet s after answer) c.job-job.ensures.start c.check_group-answer.ensures) in
    let told =
    subst
    (λ (part : Groups).
    IfOk c.tell_row.result (AddsRow part telling (g.J.Jobs.start c.end.new.self name) name answer (work old.out ended) new))
    c.part-group.ensures c.tell_row.ensures.told in
    let told' =
    subst
    (λ start_of.
    IfOk c.tell_row.result (AddsRow (group_at printers number) telling (start_of name) name answer (work old.out ended) new))
    c.end.ensures.start told in
    row_told_all printers telling start name number after answer right html old new ended c.end.ensures.ended c.tell_row.result told'

pub returns-then-is_html-clause-front : goal.returns-then-is_html-clause-front
returns-then-is_html-clause-front g c =
    let printers = c.args.printers.now in
    let telling = told_by c.args.telling.now in
    let start = g.J.Jobs.start c.args.jobs.now in
    let name = c.args.name.now in
    let number = c.args.number in
    let after = g.J.Job.Source.state c.check_group-answer.new.job in
    let answer = c.check_group-answer.result in
    let old = work (g.O.Outlet.state c.args.stdout.now) (g.J.Jobs.ended c.args.jobs.now) in
    let new = work (g.O.Outlet.state c.tell_row.new.stdout) (g.J.Jobs.ended c.tell_row.new.jobs) in
    let ended = g.J.Jobs.ended c.end.new.self in
    let html : is_html telling.format ≡ true = sym c.is_html.ensures ∙ c.if-is_html.true in
    let right =
    subst (λ (part : Groups). IsRightAnswer part.fleet (start name) after answer) c.part-group.ensures
    (subst
    (λ (s : SourceState). IsRightAnswer c.part-group.result.fleet s after answer) c.job-job.ensures.start c.check_group-answer.ensures) in
    let cut =
    subst
    (λ (part : Groups).
    IfErr c.tell_row.result
    (λ error. CutsRow error part telling (g.J.Jobs.start c.end.new.self name) name answer (work old.out ended) new))
    c.part-group.ensures c.tell_row.ensures.cut in
    let cut' =
    subst
    (λ start_of.
    IfErr c.tell_row.result
    (λ error. CutsRow error (group_at printers number) telling (start_of name) name answer (work old.out ended) new))
    c.end.ensures.start cut in
    row_cut_all printers telling start name number after answer right html old new ended c.end.ensures.ended c.tell_row.result cut'

pub returns-then-is_html-clause-errors : goal.returns-then-is_html-clause-errors
returns-then-is_html-clause-errors g c =
    let name = c.args.name.now in
    row_errors c.part-group.result (told_by c.args.telling.now) (g.J.Jobs.start c.end.new.self name) name c.check_group-answer.result
    (work (g.O.Outlet.state c.args.stdout.now) (g.J.Jobs.ended c.end.new.self))
    (work (g.O.Outlet.state c.tell_row.new.stdout) (g.J.Jobs.ended c.tell_row.new.jobs)) c.tell_row.result c.tell_row.ensures.cut
