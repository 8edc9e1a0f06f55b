use Rattle.pcl_lexer.specs.Reading.{left}
use Rattle.preflight.proofs.Loops.{CheckGoesOn}
use Rattle.preflight.proofs.checking.Checking.execute_rows.Given as goal

abbrev pub invariant-loop-row : goal.invariant-loop-row
invariant-loop-row g l = CheckGoesOn l.initial.self l.self

abbrev pub decreases-loop-row : goal.decreases-loop-row
decreases-loop-row g l = left l.self.lexer.context l.self.lexer.rest
