use Rattle.std.proofs.Common.{◌≡◌, ◌+◌, ◌++◌, drop, length, reverse}
use Rattle.preflight.specs.Carriers.Detached.{attached_each}
use Rattle.preflight.proofs.detached.attach_each.Given as goal

abbrev pub invariant-loop-profile : goal.invariant-loop-profile
invariant-loop-profile g l =
    (length l.left.items + l.profile-index ≡ length l.profiles)
    × (l.machines.items ++ attached_each (drop l.profile-index l.profiles) (reverse l.left.items)
    ≡ attached_each l.profiles (reverse l.fn.left.items))
