use Rattle.std.proofs.Common.{◌≡◌, ℕ, ◌<◌, get_or}
use Rattle.device_profile.specs.Faces.{Face}
use Rattle.device_profile.proofs.likeness.are_same_faces.Given as goal

abbrev pub invariant-loop-index : goal.invariant-loop-index
invariant-loop-index g l = (k : ℕ) (d : Face) → k < l.index → get_or l.b k d ≡ get_or l.a k d
