use Rattle.std.proofs.Common.{◌≡◌, take, drop}
use Rattle.std.specs.List.{list_all}
use Rattle.device_profile.specs.Values.{is_value}
use Rattle.device_profile.proofs.values.each_value.Given as goal

abbrev pub invariant-loop-number : goal.invariant-loop-number
invariant-loop-number g l =
    (list_all (is_value l.field) l.numbers ≡ list_all (is_value l.field) (drop l.number-index l.numbers))
    × (l.values.items ≡ take l.number-index l.numbers)
