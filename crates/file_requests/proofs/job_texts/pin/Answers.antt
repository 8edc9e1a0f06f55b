use Rattle.file_requests.proofs.OnFiles.{pin_left}
use Rattle.file_requests.proofs.job_texts.pin.Goals as goal

pub returns : goal.returns
returns g c =
    pin_left c.args.job.now c.args.out.now _ _ c.args.setting.now.profile.now c.args.setting.now.choices.now _ _ _ _ _
    c.pin-answer.result _ _ _ _ _ _ _ c.end_out-status.new.out _ _ _ _ _ _
    c.new-texts.ensures.given c.new-source.ensures.file c.new-outlet.ensures.file c.pin-answer.ensures.ends
    c.pin-answer.ensures.choice c.end_out-status.ensures c.new-texts.ensures.named c.pin-answer.ensures.named c.end.ensures
    c.new-source.ensures.path c.new-outlet.ensures.path c.read.ensures c.written.ensures
