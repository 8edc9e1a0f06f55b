use Rattle.pcl_lexer.specs.Reading.{left}
use Rattle.preflight.proofs.Loops.{CheckGoesOn}
use Rattle.preflight.proofs.checking.Checking.execute_plot.Given as goal

abbrev pub invariant-loop-self : goal.invariant-loop-self
invariant-loop-self g l = CheckGoesOn l.initial.self l.self

abbrev pub decreases-loop-self : goal.decreases-loop-self
decreases-loop-self g l = left l.self.lexer.context l.self.lexer.rest
