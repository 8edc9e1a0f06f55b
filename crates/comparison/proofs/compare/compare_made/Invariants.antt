use Rattle.std.proofs.Common.{◌≡◌, IsFalse, take}
use Rattle.sinks.specs.Owned.{event_of}
use Rattle.comparison.proofs.SoFar.{ComparesFront}
use Rattle.comparison.proofs.compare.compare_made.Given as goal

abbrev pub invariant-loop-event : goal.invariant-loop-event
invariant-loop-event g l = record {
  working : IsFalse (g.T.Source.state l.new_job).failed;
  number : l.second.run.number ≡ l.initial.second.run.number;
  level : ComparesFront (g.T.Source.state l.initial.new_job) (g.T.Source.state l.new_job) l.initial.spot l.spot l.place event_of
      (take l.event-index l.events) l.initial.second l.second;
}
