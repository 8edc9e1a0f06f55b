use Rattle.web_module.proofs.web_models.Goals as goal

pub returns : goal.returns
returns c =
    let told = c.models-told in
    (told.result, told.ensures.models, told.ensures.stops, c.hand_out.ensures)
