use Rattle.std.proofs.Common.{rules, ◌∙◌}
use Rattle.many_jobs.specs.Asked.{told_by}
use Rattle.many_jobs.proofs.JobChecks.{jobs_cut, jobs_more, where_err}
use Rattle.many_jobs.proofs.job_checks.check_jobs.Goals as goal

pub returns-in_err-told-clause-front : goal.returns-in_err-told-clause-front
returns-in_err-told-clause-front g c =
    where_err c.from_residual.result _
    (jobs_cut c.args.printers.now (told_by c.args.telling.now) (g.J.Jobs.start c.args.jobs.now) (λ name. name.now) c.args.names.now
    c.loop-name.name-index _ _ _ _ _ (search rules) _ c.loop-name.invariant.start c.loop-name.invariant.told c.in_err-told.ensures.front)

pub loop-name-preserved : goal.loop-name-preserved
loop-name-preserved g c = record {
  working = c.in_ok-told.ensures.write;
  start = c.tell_job.ensures.start ∙ c.loop-name.invariant.start;
  told = rw c.worse-ending.ensures
      (jobs_more c.args.printers.now (told_by c.args.telling.now) (g.J.Jobs.start c.args.jobs.now)
      (λ name. name.now) c.args.names.now c.loop-name.name-index _ _ _ _ _ _
      (search rules) _ c.loop-name.invariant.start c.loop-name.invariant.told c.in_ok-told.ensures.told);
}
