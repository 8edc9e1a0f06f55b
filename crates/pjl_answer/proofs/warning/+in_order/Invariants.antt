use Rattle.std.proofs.Common.{length}
use Rattle.pjl_answer.proofs.warning.+in_order.Given as goal

abbrev pub decreases-in_order : goal.decreases-in_order
decreases-in_order g l = length l.found.now
