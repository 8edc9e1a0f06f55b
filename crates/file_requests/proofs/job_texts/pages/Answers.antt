use Rattle.file_requests.proofs.OnFiles.{pages_left}
use Rattle.file_requests.proofs.job_texts.pages.Goals as goal

pub returns : goal.returns
returns g c =
    pages_left c.args.job.now _ c.args.profile.now _ _ _ _ _ _ _ _ _ _ _ _ _ c.new-texts.ensures.given c.new-source.ensures.file
    c.pages-status.ensures.ends c.new-texts.ensures.named c.pages-status.ensures.named c.end.ensures c.new-source.ensures.path
    c.read.ensures
