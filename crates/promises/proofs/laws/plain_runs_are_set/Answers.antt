use Rattle.promises.proofs.SameRuns.{plain_is_set}
use Rattle.promises.proofs.laws.plain_runs_are_set.Goals as goal

pub returns : goal.returns
returns c = plain_is_set c.unset_is_read.ensures
