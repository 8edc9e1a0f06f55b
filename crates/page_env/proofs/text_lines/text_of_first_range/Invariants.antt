use Rattle.std.proofs.Common.{◌≡◌, ◌≤◌, length, take}
use Rattle.page_env.specs.TextLines.{CanGoIn, inked_count}
use Rattle.page_env.proofs.text_lines.text_of_first_range.Given as goal

abbrev pub invariant-loop : goal.invariant-loop
invariant-loop g l =
    (l.known.all ≤ length l.bytes)
    × CanGoIn l.face.codes (take l.known.all l.bytes)
    × (l.known.inked ≡ inked_count (take l.known.all l.bytes))
