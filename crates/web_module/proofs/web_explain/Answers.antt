use Rattle.web_module.proofs.web_explain.Goals as goal

pub returns : goal.returns
returns c =
    let told = c.explained-told in
    (told.result, told.ensures.explained, told.ensures.why, c.hand_out.ensures)
