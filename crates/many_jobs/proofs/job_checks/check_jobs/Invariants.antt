use Rattle.std.proofs.Common.{◌≡◌, IsFalse, flat_map, map, take}
use Rattle.many_jobs.specs.Asked.{told_by}
use Rattle.many_jobs.specs.JobChecks.{TellsAll, due_of, work}
use Rattle.many_jobs.proofs.job_checks.check_jobs.Given as goal

abbrev pub invariant-loop-name : goal.invariant-loop-name
invariant-loop-name g l = record {
  working : IsFalse (g.O.Outlet.state l.stdout).failed;
  start : g.J.Jobs.start l.jobs ≡ g.J.Jobs.start l.initial.jobs;
  told : TellsAll l.printers (told_by l.telling) (flat_map (due_of l.printers) (map (λ name. name.now) (take l.name-index l.names)))
      (g.J.Jobs.start l.initial.jobs) l.ending
      (work (g.O.Outlet.state l.initial.stdout) (g.J.Jobs.ended l.initial.jobs)) (work (g.O.Outlet.state l.stdout) (g.J.Jobs.ended l.jobs));
}
