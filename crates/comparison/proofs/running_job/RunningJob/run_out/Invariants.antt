use Rattle.std.proofs.Common.{◌≡◌, IsFalse, false}
use Rattle.comparison.specs.Running.{RunsOut, is_open, work}
use Rattle.comparison.proofs.running_job.RunningJob.run_out.Given as goal

abbrev pub invariant-steps : goal.invariant-steps
invariant-steps g l = record {
  working : IsFalse (g.S.Source.state l.source).failed;
  number : l.self.number ≡ l.initial.self.number;
  same : is_open l.initial.self.progress ≡ false → l.self ≡ l.initial.self;
  run : RunsOut (g.S.Source.state l.initial.source) (g.S.Source.state l.source) l.initial.self l.self;
}

abbrev pub decreases-steps : goal.decreases-steps
decreases-steps g l = work l.self
