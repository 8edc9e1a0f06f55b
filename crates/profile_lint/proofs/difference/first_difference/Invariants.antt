use Rattle.std.proofs.Common.{◌≡◌, ◌+◌, drop}
use Rattle.profile_lint.specs.Differences.{difference_from}
use Rattle.profile_lint.proofs.difference.first_difference.Given as goal

abbrev pub invariant-loop-index : goal.invariant-loop-index
invariant-loop-index g l = difference_from (l.index + 1) l.first (drop l.index l.others) ≡ difference_from 1 l.first l.others
