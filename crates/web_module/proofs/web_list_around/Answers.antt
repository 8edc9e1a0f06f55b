use Rattle.web_module.proofs.web_list_around.Goals as goal

pub returns : goal.returns
returns c =
    let told = c.near-told in
    (told.result, told.ensures.near, told.ensures.stops, c.hand_out.ensures)
