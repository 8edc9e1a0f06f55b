use Rattle.pcl_lexer.specs.Reading.{left}
use Rattle.preflight.specs.Carriers.Lockstep.{machines_of}
use Rattle.preflight.specs.Carriers.Loops.{Knows}
use Rattle.preflight.proofs.Loops.{CheckGoesOn}
use Rattle.preflight.proofs.checking.Checking.execute_pcl.Given as goal

abbrev pub invariant-loop-is_open : goal.invariant-loop-is_open
invariant-loop-is_open g l = record {
  knows : Knows l.known l.measure (machines_of l.self.machines);
  goes : CheckGoesOn l.initial.self l.self;
}

abbrev pub decreases-loop-is_open : goal.decreases-loop-is_open
decreases-loop-is_open g l = left l.self.lexer.context l.self.lexer.rest
