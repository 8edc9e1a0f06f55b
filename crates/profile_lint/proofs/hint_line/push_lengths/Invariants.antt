use Rattle.std.proofs.Common.{◌≡◌, ◌++◌, flat_map, take}
use Rattle.profile_lint.specs.HintLines.{length_word}
use Rattle.profile_lint.proofs.hint_line.push_lengths.Given as goal

abbrev pub invariant-loop-length : goal.invariant-loop-length
invariant-loop-length g l = l.out.items ≡ l.initial.out.items ++ flat_map length_word (take l.length-index l.lengths)
