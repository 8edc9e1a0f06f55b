use Rattle.std.proofs.Common.{take}
use Rattle.std.specs.List.{AllByRecursion}
use Rattle.device_profile.specs.Likeness.{IsLike}
use Rattle.preflight.proofs.lockstep.fleet_mode_of.Given as goal

abbrev pub invariant-loop-other : goal.invariant-loop-other
invariant-loop-other g l = AllByRecursion (IsLike l.first) (take l.other-index l.others)
