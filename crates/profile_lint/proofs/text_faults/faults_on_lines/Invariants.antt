use Rattle.std.proofs.Common.{◌≡◌, ◌+◌, ◌≤◌, ◌++◌, length}
use Rattle.std.specs.Str.Lines.{lines}
use Rattle.profile_lint.specs.Faults.{draft_past_lines, faults_on_lines}
use Rattle.profile_lint.proofs.text_faults.faults_on_lines.Given as goal

abbrev pub invariant-loop-line : goal.invariant-loop-line
invariant-loop-line g l =
    (l.faults.items ++ faults_on_lines l.format l.draft l.number (lines l.rest) ≡ faults_on_lines l.format l.initial.draft 2 (lines l.text))
    × (draft_past_lines l.format l.draft (lines l.rest) ≡ draft_past_lines l.format l.initial.draft (lines l.text))
    × (l.number + length l.rest ≤ 2 + length l.text)

abbrev pub decreases-loop-line : goal.decreases-loop-line
decreases-loop-line g l = length l.rest
