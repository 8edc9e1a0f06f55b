use Rattle.std.proofs.Common.{codes, refl}
use Rattle.line_words.specs.Figures.{named}
use Rattle.job_reports.specs.JobSentences.{named_first}
use Rattle.many_jobs.specs.NoteReports.{note_phrase}
use Rattle.job_reports.proofs.Appending.{five_appended}
use Rattle.many_jobs.proofs.note_reports.NoteReport.push_sentence.Goals as goal

pub returns : goal.returns
returns g c =
    let report = c.args.self.now in
    five_appended c.extend_from_slice-2.result c.args.text.now.items _ _ _ _ _
    (named_first report.job.now) report.printer.now (named (codes " has a note at byte ") c.args.place)
    (note_phrase c.args.note) (codes "\n") _
    c.in_ok-push_named_first.ensures c.in_ok-extend_from_slice.ensures.items c.in_ok-push_named.ensures c.in_ok-push_note_phrase.ensures
    c.extend_from_slice-2.ensures.items
    refl
