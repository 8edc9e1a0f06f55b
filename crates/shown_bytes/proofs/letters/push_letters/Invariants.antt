use Rattle.std.proofs.Common.{◌≡◌, ◌++◌}
use Rattle.std.specs.List.{flat_map}
use Rattle.shown_bytes.specs.Shown.{shown_letter}
use Rattle.shown_bytes.proofs.letters.push_letters.Given as goal

abbrev pub invariant-loop-letter : goal.invariant-loop-letter
invariant-loop-letter g l = l.out.items ≡ l.initial.out.items ++ flat_map shown_letter l.yielded
