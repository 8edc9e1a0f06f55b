use Rattle.std.proofs.Common.{◌≡◌, ◌++◌, flat_map, take}
use Rattle.profile_show.specs.Faces.{other_range}
use Rattle.profile_show.proofs.faces.push_other_ranges.Given as goal

abbrev pub invariant-loop-range : goal.invariant-loop-range
invariant-loop-range g l = l.text.items ≡ l.initial.text.items ++ flat_map other_range (take l.range-index l.ranges)
