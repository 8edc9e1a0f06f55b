use Rattle.std.proofs.Common.{◌≡◌, ◌++◌, flat_map, take}
use Rattle.profile_lint.specs.HintLines.{more_range_words}
use Rattle.profile_lint.proofs.hint_line.push_more_ranges.Given as goal

abbrev pub invariant-loop-range : goal.invariant-loop-range
invariant-loop-range g l = l.out.items ≡ l.initial.out.items ++ flat_map more_range_words (take l.range-index l.ranges)
