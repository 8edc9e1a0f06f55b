use Rattle.preflight.proofs.Loops.{goes_none, on_open}
use Rattle.preflight.proofs.checking.Checking.execute_further.Goals as goal

pub returns-then-not-goes_on_down-clause-stays : goal.returns-then-not-goes_on_down-clause-stays
returns-then-not-goes_on_down-clause-stays g c = (on_open _ _ (goes_none _ c.requires.may), c.requires.draws)
