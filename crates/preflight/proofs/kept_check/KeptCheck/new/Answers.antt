use Rattle.std.proofs.Common.{[]}
use Rattle.preflight.proofs.kept_check.KeptCheck.new.Goals as goal

pub returns-clause-begun : goal.returns-clause-begun
returns-clause-begun g c = c.keep.ensures c.args.fleet.now [] c.in_ok-session.ensures.none
