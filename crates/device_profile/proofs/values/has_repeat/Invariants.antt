use Rattle.std.proofs.Common.{◌≡◌, drop}
use Rattle.device_profile.specs.Values.{has_repeat}
use Rattle.device_profile.proofs.values.has_repeat.Given as goal

abbrev pub invariant-loop-i : goal.invariant-loop-i
invariant-loop-i l = has_repeat l.numbers ≡ has_repeat (drop l.i l.numbers)
