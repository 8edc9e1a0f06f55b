use Rattle.std.proofs.Common.{◌≡◌, ◌++◌, flat_map, take}
use Rattle.profile_lint.specs.HintLines.{hint_line}
use Rattle.profile_lint.proofs.lint.push_hints.Given as goal

abbrev pub invariant-loop-hint : goal.invariant-loop-hint
invariant-loop-hint g l = l.lines.items ≡ l.initial.lines.items ++ flat_map (hint_line l.word) (take l.hint-index l.found)
