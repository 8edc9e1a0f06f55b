use Rattle.std.proofs.Common.{◌≡◌, ◌∙◌, None, Option, Some, ap, refl, subst, sym}
use Rattle.device_profile.specs.Printer.{Printer}
use Rattle.streams.specs.Source.{SourceState}
use Rattle.job_rows.specs.Kept.{kept_text}
use Rattle.many_jobs.specs.Asked.{told_by}
use Rattle.many_jobs.specs.JobNoting.{AreRightNotes, note_printer}
use Rattle.many_jobs.specs.JobRow.{RereadsNotes}
use Rattle.many_jobs.specs.NoteReports.{subject_of, told_note}
use Rattle.job_reports.specs.Reports.{verdict_told}
use Rattle.many_jobs.proofs.job_row.reread_notes.Goals as goal

pub returns-in-None-clause-read : goal.returns-in-None-clause-read
returns-in-None-clause-read g c =
    let name = c.args.name.now in
    let write = told_note (told_by c.args.telling.now) (subject_of c.args.group.now name) in
    let start = g.J.Jobs.start c.args.jobs.now name in
    let ended = g.J.Jobs.ended c.args.jobs.now in
    let none : note_printer (verdict_told c.args.answer) c.args.group.now.note_printers ≡ None =
    ap (note_printer (verdict_told c.args.answer)) (sym c.note_printers.ensures) ∙ sym c.in-None.ensures in
    subst
    (λ (printer : Option Printer).
    RereadsNotes (λ printer after notes. AreRightNotes write printer start after notes) name printer None ended ended)
    (sym none) refl

pub returns-in-Some-clause-read : goal.returns-in-Some-clause-read
returns-in-Some-clause-read g c =
    let name = c.args.name.now in
    let write = told_note (told_by c.args.telling.now) (subject_of c.args.group.now name) in
    let start = g.J.Jobs.start c.args.jobs.now name in
    let after = g.J.Job.Source.state c.read_notes-notes.new.job in
    let notes = kept_text (λ text. text.items) c.read_notes-notes.result in
    let printer = c.in-Some.printer.now in
    let has : note_printer (verdict_told c.args.answer) c.args.group.now.note_printers ≡ Some printer =
    ap (note_printer (verdict_told c.args.answer)) (sym c.note_printers.ensures) ∙ sym c.in-Some.ensures in
    let right =
    subst (λ (s : SourceState). AreRightNotes write printer s after notes) c.job-job.ensures.start c.read_notes-notes.ensures in
    subst
    (λ (of : Option Printer).
    RereadsNotes (λ printer after notes. AreRightNotes write printer start after notes) name of (Some notes)
    (g.J.Jobs.ended c.args.jobs.now) (g.J.Jobs.ended c.end.new.self))
    (sym has) (after, right, c.end.ensures.ended)
