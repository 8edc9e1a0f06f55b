use Rattle.std.proofs.Common.{◌-◌, ◌≡◌, ◌≤◌, take}
use Rattle.comparison.proofs.texts.same_count.Given as goal

abbrev pub invariant-bytes : goal.invariant-bytes
invariant-bytes l = (l.count ≤ l.most) × (take l.count l.one ≡ take l.count l.other)

abbrev pub decreases-bytes : goal.decreases-bytes
decreases-bytes l = l.most - l.count
