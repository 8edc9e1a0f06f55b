use Rattle.std.proofs.Common.{arith, refl}
use Rattle.page_comparison.proofs.bag.Bag.new.Goals as goal

pub invariant_of-result : goal.invariant_of-result
invariant_of-result g c = (omega arith, refl, rw c.new.ensures.items tt)

pub returns : goal.returns
returns g c = λ i. record { taken = c.in_ok-taken.ensures i; earlier = c.new.ensures.items i }
