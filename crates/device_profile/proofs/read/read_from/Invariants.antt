use Rattle.std.proofs.Common.{◌≡◌, ◌+◌, ◌≤◌, length}
use Rattle.std.specs.Str.Lines.{lines}
use Rattle.device_profile.specs.Draft.{no_draft}
use Rattle.device_profile.specs.Text.{draft_of_lines}
use Rattle.device_profile.proofs.read.read_from.Given as goal

abbrev pub invariant-loop-line : goal.invariant-loop-line
invariant-loop-line g l =
    (draft_of_lines l.format (no_draft l.format) 2 (lines l.text) ≡ draft_of_lines l.format l.draft l.line_number (lines l.rest))
    × (l.line_number + length l.rest ≤ 2 + length l.text)

abbrev pub decreases-loop-line : goal.decreases-loop-line
decreases-loop-line g l = length l.rest
