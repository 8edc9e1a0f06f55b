use Rattle.std.proofs.Common.{IsFalse}
use Rattle.streams.specs.Driving.{IsUnderWay}
use Rattle.streams.proofs.driver.read_job.Given as goal

abbrev pub invariant-loop : goal.invariant-loop
invariant-loop g l = record {
  way : IsUnderWay g.C.Consumer.goes_on (l.initial.consumer, l.initial.outlet) (l.consumer, l.outlet) (g.S.Source.state l.initial.reader)
      (g.S.Source.state l.reader) l.counter;
  working : IsFalse (g.S.Source.state l.reader).failed;
}
