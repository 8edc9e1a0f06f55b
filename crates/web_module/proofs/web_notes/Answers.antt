use Rattle.web_module.proofs.web_notes.Goals as goal

pub returns : goal.returns
returns c =
    let told = c.noted-told in
    (told.result, told.ensures.noted, told.ensures.why, (c.hand_out.ensures, c.leave_row.ensures, c.leave_refusal.ensures))
