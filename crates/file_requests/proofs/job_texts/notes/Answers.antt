use Rattle.file_requests.proofs.OnFiles.{notes_left}
use Rattle.file_requests.proofs.job_texts.notes.Goals as goal

pub returns : goal.returns
returns g c =
    notes_left c.args.job.now _ c.args.profile.now _ _ _ _ _ _ _ _ _ _ _ _ _ c.new-texts.ensures.given c.new-source.ensures.file
    c.tell_notes-status.ensures.ends c.new-texts.ensures.named c.tell_notes-status.ensures.named c.end.ensures c.new-source.ensures.path
    c.read.ensures
