use Rattle.std.proofs.Common.{◌≡◌, ◌++◌, length}
use Rattle.std.specs.List.{flat_map}
use Rattle.std.specs.Str.Lines.{lines}
use Rattle.pjl_answer.specs.Text.{line_after}
use Rattle.pjl_answer.proofs.text.push_lines.Given as goal

abbrev pub invariant-loop-line : goal.invariant-loop-line
invariant-loop-line g l =
    l.initial.text.items ++ flat_map (line_after l.base l.answer) (lines l.old)
    ≡ l.text.items ++ flat_map (line_after l.base l.answer) (lines l.rest)

abbrev pub decreases-loop-line : goal.decreases-loop-line
decreases-loop-line g l = length l.rest
