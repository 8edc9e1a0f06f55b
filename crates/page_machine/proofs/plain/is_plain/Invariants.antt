use Rattle.std.proofs.Common.{length}
use Rattle.page_machine.specs.PlainMacros.{ArePlain}
use Rattle.page_machine.proofs.plain.is_plain.Given as goal

abbrev pub decreases-loop-left : goal.decreases-loop-left
decreases-loop-left l = length l.body

abbrev pub invariant-loop-left : goal.invariant-loop-left
invariant-loop-left l = ArePlain l.body → ArePlain l.fn.body
