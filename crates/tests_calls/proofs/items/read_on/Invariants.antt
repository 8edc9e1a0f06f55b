use Rattle.std.proofs.Common.{◌≡◌, ◌+◌, length}
use Rattle.pcl_lexer.specs.Reading.{left}
use Rattle.tests_calls.proofs.items.read_on.Given as goal

abbrev pub invariant-loop-place : goal.invariant-loop-place
invariant-loop-place g l =
    (l.lexer.ended ≡ l.initial.lexer.ended) × (l.lexer.place + length l.lexer.rest ≡ l.initial.lexer.place + length l.initial.lexer.rest)

abbrev pub decreases-loop-place : goal.decreases-loop-place
decreases-loop-place g l = left l.lexer.context l.lexer.rest
