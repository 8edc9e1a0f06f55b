use Rattle.pcl_lexer.specs.Reading.{left}
use Rattle.preflight.specs.Carriers.Loops.{ExecutesOn}
use Rattle.preflight.proofs.checking.Checking.execute_decided.Given as goal

abbrev pub invariant-loop-is_open : goal.invariant-loop-is_open
invariant-loop-is_open g l = ExecutesOn l.initial.self l.self l.is_open

abbrev pub decreases-loop-is_open : goal.decreases-loop-is_open
decreases-loop-is_open g l = left l.self.lexer.context l.self.lexer.rest
