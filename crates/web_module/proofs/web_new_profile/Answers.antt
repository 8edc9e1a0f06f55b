use Rattle.web_module.proofs.web_new_profile.Goals as goal

pub returns : goal.returns
returns c =
    let told = c.new_profile-told in
    (told.result, told.ensures.made, told.ensures.why, c.hand_out.ensures)
