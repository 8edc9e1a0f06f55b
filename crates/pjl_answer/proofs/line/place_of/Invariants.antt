use Rattle.std.proofs.Common.{◌≡◌, ◌+◌, ◌==◌, drop}
use Rattle.std.specs.List.{position_or_len}
use Rattle.pjl_answer.proofs.line.place_of.Given as goal

abbrev pub invariant-loop-i : goal.invariant-loop-i
invariant-loop-i l = position_or_len (λ b. b == l.byte) l.text ≡ l.i + position_or_len (λ b. b == l.byte) (drop l.i l.text)
