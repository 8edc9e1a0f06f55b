use Rattle.web_module.proofs.web_page_count.Goals as goal

pub returns : goal.returns
returns c =
    let told = c.page_count-told in
    (told.result, told.ensures.count, told.ensures.why, (c.hand_out.ensures, c.leave_refusal.ensures))
