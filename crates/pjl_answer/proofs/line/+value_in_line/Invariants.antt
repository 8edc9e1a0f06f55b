use Rattle.std.proofs.Common.{length}
use Rattle.pjl_answer.proofs.line.+value_in_line.Given as goal

abbrev pub decreases-value_in_line : goal.decreases-value_in_line
decreases-value_in_line l = length l.line.now
