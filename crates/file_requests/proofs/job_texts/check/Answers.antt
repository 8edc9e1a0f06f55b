use Rattle.std.proofs.Common.{refl}
use Rattle.file_requests.proofs.OnFiles.{check_left}
use Rattle.file_requests.proofs.job_texts.check.Goals as goal

pub returns : goal.returns
returns g c =
    check_left c.args.job.now _ _ _ _ _ _ _ _ _ _ _ _ _ _ _ _ _ refl c.new-texts.ensures.given c.new-source.ensures.file
    c.check-status.ensures.line c.check-status.ensures.refused c.check-status.ensures.write
    c.new-texts.ensures.named c.check-status.ensures.named c.end.ensures c.new-source.ensures.path c.read.ensures
