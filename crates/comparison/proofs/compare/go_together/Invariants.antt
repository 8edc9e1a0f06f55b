use Rattle.std.proofs.Common.{◌≡◌, [], IsFalse, None}
use Rattle.comparison.specs.Running.{work}
use Rattle.comparison.specs.Together.{StandBehind}
use Rattle.comparison.proofs.compare.go_together.Given as goal

abbrev pub invariant-pieces : goal.invariant-pieces
invariant-pieces g l = record {
  old_working : IsFalse (g.S.Source.state l.old_job).failed;
  new_working : IsFalse (g.T.Source.state l.new_job).failed;
  none : l.both.events ≡ [];
  number : l.both.number ≡ l.initial.both.number;
  stand : StandBehind (g.S.Source.state l.initial.old_job) (g.S.Source.state l.old_job) (g.T.Source.state l.initial.new_job)
      (g.T.Source.state l.new_job) l.initial.both l.both l.initial.spot l.spot None;
}

abbrev pub decreases-pieces : goal.decreases-pieces
decreases-pieces g l = work l.both
