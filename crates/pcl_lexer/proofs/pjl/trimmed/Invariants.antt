use Rattle.std.proofs.Common.{◌≡◌, ◌≤◌, length, take}
use Rattle.pcl_items.specs.PjlLines.Reader.{trimmed}
use Rattle.pcl_lexer.proofs.pjl.trimmed.Given as goal

abbrev pub invariant-loop-len : goal.invariant-loop-len
invariant-loop-len l = (l.len ≤ length l.bytes) × (trimmed (take l.len l.bytes) ≡ trimmed l.bytes)

abbrev pub decreases-loop-len : goal.decreases-loop-len
decreases-loop-len l = l.len
