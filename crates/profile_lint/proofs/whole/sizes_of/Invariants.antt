use Rattle.std.proofs.Common.{◌≡◌, take}
use Rattle.profile_lint.specs.Whole.{sizes_of}
use Rattle.profile_lint.proofs.whole.sizes_of.Given as goal

abbrev pub invariant-loop-row : goal.invariant-loop-row
invariant-loop-row g l = l.sizes.items ≡ sizes_of (take l.row-index l.rows)
