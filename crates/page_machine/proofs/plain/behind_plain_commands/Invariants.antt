use Rattle.std.proofs.Common.{◌≤◌, length}
use Rattle.page_machine.specs.PlainMacros.{ArePlain}
use Rattle.page_machine.proofs.plain.behind_plain_commands.Given as goal

abbrev pub decreases-loop-item : goal.decreases-loop-item
decreases-loop-item l = length l.body

abbrev pub invariant-loop-item : goal.invariant-loop-item
invariant-loop-item l = (ArePlain l.body → ArePlain l.fn.body) × (length l.body ≤ length l.fn.body)
