use Rattle.pclcheck_c.proofs.pclcheck_explain.Goals as goal

pub returns : goal.returns
returns c =
    let told = c.explained in
    (told.result, told.ensures.explained, told.ensures.why, c.hand_out.ensures)
