use Rattle.promises.proofs.AtTheEnd.{pass_is_ended}
use Rattle.promises.proofs.laws.pass_is_at_the_end.Goals as goal

pub returns : goal.returns
returns c = pass_is_ended c.one_reading.ensures
