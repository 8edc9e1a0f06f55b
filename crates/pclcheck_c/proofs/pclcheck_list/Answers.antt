use Rattle.pclcheck_c.proofs.pclcheck_list.Goals as goal

pub returns : goal.returns
returns c =
    let told = c.list-told in
    (told.result, told.ensures.written, told.ensures.stops, (c.hand_out.ensures, c.leave_row.ensures))
