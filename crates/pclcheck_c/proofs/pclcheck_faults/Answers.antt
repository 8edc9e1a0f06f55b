use Rattle.pclcheck_c.proofs.pclcheck_faults.Goals as goal

pub returns : goal.returns
returns c =
    let told = c.faults in
    (told.result, told.ensures.faults, told.ensures.stops, c.hand_out.ensures)
