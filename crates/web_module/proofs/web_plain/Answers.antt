use Rattle.web_module.proofs.web_plain.Goals as goal

pub returns : goal.returns
returns c =
    let told = c.plain-told in
    (told.result, told.ensures.written, told.ensures.stops, (c.hand_out.ensures, c.leave_row.ensures))
