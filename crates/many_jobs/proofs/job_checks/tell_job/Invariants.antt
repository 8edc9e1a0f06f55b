use Rattle.std.proofs.Common.{◌≡◌, IsFalse, map}
use Rattle.std.specs.List.{range_with_len}
use Rattle.many_jobs.specs.Asked.{told_by}
use Rattle.many_jobs.specs.JobChecks.{TellsAll, keyed, work}
use Rattle.many_jobs.proofs.job_checks.tell_job.Given as goal

abbrev pub invariant-loop-number : goal.invariant-loop-number
invariant-loop-number g l = record {
  working : IsFalse (g.O.Outlet.state l.stdout).failed;
  start : g.J.Jobs.start l.jobs ≡ g.J.Jobs.start l.initial.jobs;
  told : TellsAll l.printers (told_by l.telling) (map (keyed l.name) (range_with_len 0 l.number)) (g.J.Jobs.start l.initial.jobs) l.ending
      (work (g.O.Outlet.state l.initial.stdout) (g.J.Jobs.ended l.initial.jobs)) (work (g.O.Outlet.state l.stdout) (g.J.Jobs.ended l.jobs));
}
