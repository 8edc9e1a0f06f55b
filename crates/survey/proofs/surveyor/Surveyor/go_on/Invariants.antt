use Rattle.std.proofs.Common.{◌≡◌, ◌+◌, ◌*◌, false, length, if◌then◌else◌}
use Rattle.survey.specs.Carriers.Steps.{due}
use Rattle.survey.specs.Carriers.Surveying.{Surveyed}
use Rattle.survey.specs.Survey.{Waits}
use Rattle.survey.proofs.surveyor.Surveyor.go_on.Given as goal

abbrev pub invariant-loop-goes : goal.invariant-loop-goes
invariant-loop-goes g l = record {
  surveyed : Surveyed l.whole l.initial.self l.self;
  waits : l.goes ≡ false → Waits l.whole l.self.standing l.self.rest;
  total : l.self.place + length l.self.rest ≡ l.initial.self.place + length l.initial.self.rest;
}

-- the last step takes nothing, but goes on no more
abbrev pub decreases-loop-goes : goal.decreases-loop-goes
decreases-loop-goes g l = 2 * due l.self.standing l.self.rest + (if l.goes then 1 else 0)
