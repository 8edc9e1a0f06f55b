use Rattle.std.proofs.Common.{subst}
use Rattle.streams.specs.Source.{SourceState}
use Rattle.many_jobs.specs.Asked.{told_by}
use Rattle.many_jobs.specs.JobChecks.{work}
use Rattle.job_rows.specs.Kept.{kept_text}
use Rattle.many_jobs.specs.JobNoting.{AreRightNotes}
use Rattle.many_jobs.specs.NoteReports.{subject_of, told_note}
use Rattle.many_jobs.proofs.JobNoting.{notes_cut, notes_told}
use Rattle.many_jobs.proofs.job_noting.tell_notes.Goals as goal

pub returns-clause-told : goal.returns-clause-told
returns-clause-told g c =
    let telling = told_by c.args.telling.now in
    let name = c.args.name.now in
    let after = g.J.Job.Source.state c.read_notes-notes.new.job in
    let notes = kept_text (λ text. text.items) c.read_notes-notes.result in
    let right =
    subst
    (λ (start : SourceState). AreRightNotes (told_note telling (subject_of c.args.group.now name)) c.args.printer.now start after notes)
    c.job-job.ensures.start c.read_notes-notes.ensures in
    notes_told c.args.group.now telling c.args.printer.now (g.J.Jobs.start c.args.jobs.now name) after name
    (work (g.O.Outlet.state c.args.stdout.now) (g.J.Jobs.ended c.args.jobs.now))
    (work (g.O.Outlet.state c.write_notes.new.stdout) (g.J.Jobs.ended c.end.new.self))
    notes right c.end.ensures.ended c.write_notes.result c.write_notes.ensures.told

pub returns-clause-cut : goal.returns-clause-cut
returns-clause-cut g c =
    let telling = told_by c.args.telling.now in
    let name = c.args.name.now in
    let after = g.J.Job.Source.state c.read_notes-notes.new.job in
    let notes = kept_text (λ text. text.items) c.read_notes-notes.result in
    let right =
    subst
    (λ (start : SourceState). AreRightNotes (told_note telling (subject_of c.args.group.now name)) c.args.printer.now start after notes)
    c.job-job.ensures.start c.read_notes-notes.ensures in
    notes_cut c.args.group.now telling c.args.printer.now (g.J.Jobs.start c.args.jobs.now name) after name
    (work (g.O.Outlet.state c.args.stdout.now) (g.J.Jobs.ended c.args.jobs.now))
    (work (g.O.Outlet.state c.write_notes.new.stdout) (g.J.Jobs.ended c.end.new.self))
    notes right c.end.ensures.ended c.write_notes.result c.write_notes.ensures.cut
