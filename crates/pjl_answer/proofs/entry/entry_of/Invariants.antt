use Rattle.std.proofs.Common.{◌≡◌, ◌+◌, ◌≤◌, length}
use Rattle.std.specs.Str.Lines.{lines}
use Rattle.pjl_answer.specs.Answer.{entry_from, entry_of}
use Rattle.pjl_answer.proofs.entry.entry_of.Given as goal

abbrev pub invariant-loop-line : goal.invariant-loop-line
invariant-loop-line l =
    (entry_of l.answer l.variable ≡ entry_from l.variable l.number (lines l.rest)) × (l.number + length l.rest ≤ 1 + length l.answer)

abbrev pub decreases-loop-line : goal.decreases-loop-line
decreases-loop-line l = length l.rest
