use Rattle.std.proofs.Common.{◌≡◌, IsFalse, drop, map}
use Rattle.requests.specs.declared.status.Status.{Status}
use Rattle.many_jobs.specs.JobChecks.{Work, work}
use Rattle.compare_command.specs.declared.golden.Ending.TheVariants.{Agrees}
use Rattle.compare_command.specs.Golden.{LeavesPairs, golden_for, names_of}
use Rattle.compare_command.proofs.golden.compare_pairs.Given as goal

-- what is left of the pairs from here on is what is left of all
abbrev pub invariant-loop-pair : goal.invariant-loop-pair
invariant-loop-pair g l = record {
  working : IsFalse (g.O.Outlet.state l.stdout).failed;
  start : g.J.Jobs.start l.jobs ≡ g.J.Jobs.start l.initial.jobs;
  onward : (status : Status) (new : Work) →
      LeavesPairs (golden_for l.asked) l.printers.fleet.items (map (λ name. name.items) l.printers.names.items)
      (g.J.Jobs.start l.initial.jobs) (map names_of (drop l.pair-index l.pairs)) l.ending status
      (work (g.O.Outlet.state l.stdout) (g.J.Jobs.ended l.jobs)) new →
      LeavesPairs (golden_for l.asked) l.printers.fleet.items (map (λ name. name.items) l.printers.names.items)
      (g.J.Jobs.start l.initial.jobs) (map names_of l.pairs) Agrees status
      (work (g.O.Outlet.state l.initial.stdout) (g.J.Jobs.ended l.initial.jobs)) new;
}
