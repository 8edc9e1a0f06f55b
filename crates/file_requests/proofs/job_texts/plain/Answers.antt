use Rattle.file_requests.proofs.OnFiles.{plain_left}
use Rattle.file_requests.proofs.job_texts.plain.Goals as goal

pub returns : goal.returns
returns g c =
    plain_left c.args.job.now c.args.out.now _ _ _ _ c.plain-answer.result _ _ _ _ _ c.end_out-status.new.out _ _ _
    c.new-source.ensures.file c.new-outlet.ensures.file c.plain-answer.ensures.ends c.end_out-status.ensures
    c.new-source.ensures.path c.new-outlet.ensures.path c.read.ensures c.written.ensures
