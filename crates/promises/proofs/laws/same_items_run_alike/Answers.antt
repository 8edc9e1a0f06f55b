use Rattle.promises.proofs.SameRuns.{run_alike}
use Rattle.promises.proofs.laws.same_items_run_alike.Goals as goal

pub returns : goal.returns
returns c = run_alike
