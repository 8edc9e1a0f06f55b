use Rattle.web_module.proofs.web_check.Goals as goal

pub returns : goal.returns
returns c =
    let told = c.judge_job-told in
    let left = c.tell_judged.ensures in
    (told.result, told.ensures.judged, told.ensures.why, (left.handed, left.row, left.refusal))
