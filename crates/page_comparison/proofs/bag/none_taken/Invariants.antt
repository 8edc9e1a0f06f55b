use Rattle.std.proofs.Common.{◌≡◌, false, replicate}
use Rattle.page_comparison.proofs.bag.none_taken.Given as goal

abbrev pub invariant-loop : goal.invariant-loop
invariant-loop g l = l.taken.items ≡ replicate l.counter false
