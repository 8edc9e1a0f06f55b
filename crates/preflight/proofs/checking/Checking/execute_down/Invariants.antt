use Rattle.std.specs.Prelude.{◌≡◌}
use Rattle.pcl_items.specs.declared.frame.Motion.TheVariants.{Down}
use Rattle.pcl_lexer.specs.declared.frame.Gap.TheVariants.{Straight}
use Rattle.pcl_lexer.specs.Lexing.Contexts.{Numbered, Even}
use Rattle.pcl_lexer.specs.Reading.{left}
use Rattle.preflight.specs.Carriers.Lockstep.{machines_of}
use Rattle.preflight.specs.Carriers.PairsInStep.{FirstDraws}
use Rattle.preflight.proofs.Loops.{CheckGoesOn}
use Rattle.preflight.proofs.checking.Checking.execute_down.Given as goal

abbrev pub invariant-loop-read : goal.invariant-loop-read
invariant-loop-read g l = record {
  draws : FirstDraws l.bounds (machines_of l.self.machines);
  goes : CheckGoesOn l.initial.self l.self;
  down : l.self.lexer.context ≡ Numbered (Even Down) Straight 0;
}

abbrev pub decreases-loop-read : goal.decreases-loop-read
decreases-loop-read g l = left l.self.lexer.context l.self.lexer.rest
