use Rattle.std.proofs.Common.{length}
use Rattle.pjl_answer.proofs.comparison.+are_same_faces.Given as goal

abbrev pub decreases-are_same_faces : goal.decreases-are_same_faces
decreases-are_same_faces g l = length l.a.now
