use Rattle.std.proofs.Common.{◌≡◌, IsFalse}
use Rattle.comparison.specs.Comparing.{FollowsOn}
use Rattle.comparison.specs.Running.{work}
use Rattle.comparison.proofs.follower.Follower.come_to_text.Given as goal

abbrev pub invariant-steps : goal.invariant-steps
invariant-steps g l = record {
  working : IsFalse (g.S.Source.state l.source).failed;
  number : l.self.run.number ≡ l.initial.self.run.number;
  run : FollowsOn (g.S.Source.state l.initial.source) (g.S.Source.state l.source) l.initial.self l.self;
}

abbrev pub decreases-steps : goal.decreases-steps
decreases-steps g l = work l.self.run
