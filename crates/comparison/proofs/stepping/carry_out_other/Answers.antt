use Rattle.comparison.proofs.stepping.carry_out_other.Goals as goal

pub returns : goal.returns
returns g c = c.carry_out.ensures
