use Rattle.std.proofs.Common.{◌≡◌, length}
use Rattle.std.specs.Str.Lines.{lines}
use Rattle.pjl_answer.specs.Text.{behind_warnings}
use Rattle.pjl_answer.proofs.text.behind_warnings.Given as goal

abbrev pub invariant-loop-line : goal.invariant-loop-line
invariant-loop-line l = behind_warnings (lines l.text) ≡ behind_warnings (lines l.rest)

abbrev pub decreases-loop-line : goal.decreases-loop-line
decreases-loop-line l = length l.rest
