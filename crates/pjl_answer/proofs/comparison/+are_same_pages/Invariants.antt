use Rattle.std.proofs.Common.{length}
use Rattle.pjl_answer.proofs.comparison.+are_same_pages.Given as goal

abbrev pub decreases-are_same_pages : goal.decreases-are_same_pages
decreases-are_same_pages l = length l.a.now
