use Rattle.web_module.proofs.Cutting.{IsCut}
use Rattle.web_module.proofs.printers.Printers.read.Given as goal

abbrev pub invariant-loop-i : goal.invariant-loop-i
invariant-loop-i g l = IsCut l.lengths l.fn.texts l.i l.left l.printers
