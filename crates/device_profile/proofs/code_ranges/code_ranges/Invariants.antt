use Rattle.std.proofs.Common.{◌≡◌, ◌==◌, ◌+◌, [], length}
use Rattle.std.specs.List.{slice_split}
use Rattle.std.specs.Option.{option_map_or}
use Rattle.device_profile.specs.FaceLine.{codes_of}
use Rattle.device_profile.proofs.CodeRanges.{ranges_with}
use Rattle.device_profile.proofs.code_ranges.code_ranges.Given as goal

abbrev pub invariant-loop-rest : goal.invariant-loop-rest
invariant-loop-rest g l =
    codes_of l.word ≡ ranges_with l.ranges.items l.least (option_map_or (λ text. slice_split (λ b. b == 44) text.now) l.rest [])

abbrev pub decreases-loop-rest : goal.decreases-loop-rest
decreases-loop-rest g l = option_map_or (λ text. length text.now + 1) l.rest 0
