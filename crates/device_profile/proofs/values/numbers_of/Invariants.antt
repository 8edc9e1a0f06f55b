use Rattle.std.proofs.Common.{◌≡◌, ◌++◌, length}
use Rattle.std.specs.List.{filter_map}
use Rattle.device_profile.specs.Values.{value_of}
use Rattle.device_profile.specs.Words.{words_of}
use Rattle.device_profile.proofs.values.numbers_of.Given as goal

abbrev pub invariant-loop-word : goal.invariant-loop-word
invariant-loop-word g l =
    filter_map (value_of l.field) (words_of l.words) ≡ l.numbers.items ++ filter_map (value_of l.field) (words_of l.rest)

abbrev pub decreases-loop-word : goal.decreases-loop-word
decreases-loop-word g l = length l.rest
