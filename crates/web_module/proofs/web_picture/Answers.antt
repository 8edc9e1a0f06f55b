use Rattle.web_module.proofs.web_picture.Goals as goal

pub returns : goal.returns
returns c =
    let told = c.drawn-told in
    (told.result, told.ensures.drawn, told.ensures.why, (c.hand_out.ensures, c.leave_refusal.ensures))
