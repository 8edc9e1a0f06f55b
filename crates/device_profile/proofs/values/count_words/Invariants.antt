use Rattle.std.proofs.Common.{◌≡◌, ◌+◌, ◌≤◌, length}
use Rattle.device_profile.specs.Words.{words_of}
use Rattle.device_profile.proofs.values.count_words.Given as goal

abbrev pub invariant-loop-after : goal.invariant-loop-after
invariant-loop-after l =
    (length (words_of l.line) ≡ l.count + length (words_of l.rest)) × (l.count + length l.rest ≤ length l.line)

abbrev pub decreases-loop-after : goal.decreases-loop-after
decreases-loop-after l = length l.rest
