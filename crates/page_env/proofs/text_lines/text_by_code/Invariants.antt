use Rattle.std.proofs.Common.{◌≡◌, ◌≤◌, take}
use Rattle.page_env.specs.TextLines.{CanGoIn, inked_count}
use Rattle.page_env.proofs.text_lines.text_by_code.Given as goal

abbrev pub invariant-loop-all : goal.invariant-loop-all
invariant-loop-all g l =
    CanGoIn l.face.codes (take l.all l.bytes) × (l.inked ≡ inked_count (take l.all l.bytes)) × (l.inked ≤ l.all)
