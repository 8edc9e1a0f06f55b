use Rattle.std.proofs.Common.{◌≡◌, IsFalse}
use Rattle.device_profile.specs.declared.panel.Panel.{Panel}
use Rattle.device_profile.specs.Printer.{Printer}
use Rattle.streams.specs.Source.{SourceState}
use Rattle.comparison.specs.Comparing.{GoAlike}
use Rattle.comparison.specs.Running.{work}
use Rattle.comparison.proofs.compare.compare_events.Given as goal

abbrev pub invariant-steps : goal.invariant-steps
invariant-steps g l = record {
  old_working : IsFalse (g.S.Source.state l.old_job).failed;
  new_working : IsFalse (g.T.Source.state l.new_job).failed;
  old_number : l.first.number ≡ l.initial.first.number;
  new_number : l.second.run.number ≡ l.initial.second.run.number;
  alike : (printer : Printer) (panel : Panel) (old_first new_first : SourceState) →
      GoAlike printer panel old_first (g.S.Source.state l.initial.old_job) new_first (g.T.Source.state l.initial.new_job)
      l.initial.first l.initial.spot l.initial.second →
      GoAlike printer panel old_first (g.S.Source.state l.old_job) new_first (g.T.Source.state l.new_job) l.first l.spot l.second;
}

abbrev pub decreases-steps : goal.decreases-steps
decreases-steps g l = work l.first
