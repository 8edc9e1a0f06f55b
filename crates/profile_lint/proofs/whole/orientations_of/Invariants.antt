use Rattle.std.proofs.Common.{◌≡◌, take}
use Rattle.profile_lint.specs.Whole.{orientations_of}
use Rattle.profile_lint.proofs.whole.orientations_of.Given as goal

abbrev pub invariant-loop-row : goal.invariant-loop-row
invariant-loop-row g l = l.orientations.items ≡ orientations_of (take l.row-index l.rows)
