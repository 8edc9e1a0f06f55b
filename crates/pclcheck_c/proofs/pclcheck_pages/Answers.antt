use Rattle.pclcheck_c.proofs.pclcheck_pages.Goals as goal

pub returns : goal.returns
returns c =
    let told = c.paged-told in
    (told.result, told.ensures.paged, told.ensures.why, (c.hand_out.ensures, c.leave_row.ensures, c.leave_refusal.ensures))
