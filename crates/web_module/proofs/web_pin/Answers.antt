use Rattle.web_module.proofs.web_pin.Goals as goal

pub returns : goal.returns
returns c =
    let told = c.pinned-told in
    (told.result, told.ensures.pinned, told.ensures.why, (c.hand_out.ensures, c.leave_row.ensures, c.leave_refusal.ensures))
