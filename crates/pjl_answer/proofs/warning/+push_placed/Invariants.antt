use Rattle.std.proofs.Common.{length}
use Rattle.pjl_answer.proofs.warning.+push_placed.Given as goal

abbrev pub decreases-push_placed : goal.decreases-push_placed
decreases-push_placed g l = length l.others.now
