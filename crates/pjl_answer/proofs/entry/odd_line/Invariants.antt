use Rattle.std.proofs.Common.{◌≡◌, ◌+◌, ◌≤◌, length}
use Rattle.std.specs.Str.Lines.{lines}
use Rattle.pjl_answer.specs.Answer.{odd_line, odd_line_from}
use Rattle.pjl_answer.proofs.entry.odd_line.Given as goal

abbrev pub invariant-loop-line : goal.invariant-loop-line
invariant-loop-line l =
    (odd_line l.answer ≡ odd_line_from l.number (lines l.rest)) × (l.number + length l.rest ≤ 1 + length l.answer)

abbrev pub decreases-loop-line : goal.decreases-loop-line
decreases-loop-line l = length l.rest
