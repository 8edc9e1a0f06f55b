use Rattle.std.proofs.Common.{◌≡◌, length}
use Rattle.profile_lint.specs.Shown.{line_at}
use Rattle.profile_lint.proofs.shown.line_at.Given as goal

abbrev pub invariant-loop-line : goal.invariant-loop-line
invariant-loop-line l = line_at l.rest l.left ≡ line_at l.text l.number

abbrev pub decreases-loop-line : goal.decreases-loop-line
decreases-loop-line l = length l.rest
