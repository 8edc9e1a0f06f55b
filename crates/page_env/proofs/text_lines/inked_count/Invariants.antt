use Rattle.std.proofs.Common.{◌≡◌, ◌≤◌, take}
use Rattle.page_env.specs.TextLines.{inked_count}
use Rattle.page_env.proofs.text_lines.inked_count.Given as goal

abbrev pub invariant-loop-code : goal.invariant-loop-code
invariant-loop-code l = (l.count ≡ inked_count (take l.code-index l.bytes)) × (l.count ≤ l.code-index)
