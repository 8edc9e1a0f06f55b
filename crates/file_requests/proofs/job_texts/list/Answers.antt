use Rattle.file_requests.proofs.OnFiles.{rendered_left}
use Rattle.file_requests.proofs.job_texts.list.Goals as goal

pub returns : goal.returns
returns g c =
    rendered_left c.args.job.now _ _ _ _ _ _ _ _ _ c.new-source.ensures.file c.list-status.ensures.ends
    c.new-source.ensures.path c.read.ensures
