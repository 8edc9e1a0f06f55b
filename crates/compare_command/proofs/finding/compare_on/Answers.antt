use Rattle.std.proofs.Common.{◌∙◌}
use Rattle.compare_command.proofs.Compared.{jobs_compared, jobs_stopped}
use Rattle.compare_command.proofs.finding.compare_on.Goals as goal

pub returns-clause-compared : goal.returns-clause-compared
returns-clause-compared g c =
    jobs_compared c.compare_two-answer.result c.args.manner (g.J.Jobs.start c.args.jobs.now) c.args.asked.now.old_name.now
    c.args.asked.now.new_name.now c.as_bytes-old_name.result.now c.as_bytes-new_name.result.now c.args.number c.args.profile.now
    _ _ _ _ _ _ _ c.as_bytes-old_name.ensures.value c.as_bytes-new_name.ensures.value c.job-old_job.ensures.start
    c.job-new_job.ensures.start c.end.ensures.ended c.end-2.ensures.ended c.compare_two-answer.ensures.compared

pub returns-clause-stopped : goal.returns-clause-stopped
returns-clause-stopped g c =
    jobs_stopped c.compare_two-answer.result c.args.asked.now.old_name.now c.args.asked.now.new_name.now
    c.as_bytes-old_name.result.now c.as_bytes-new_name.result.now _ _ _ _ _ c.as_bytes-old_name.ensures.value
    c.as_bytes-new_name.ensures.value c.end.ensures.ended c.end-2.ensures.ended c.compare_two-answer.ensures.stopped

pub returns-clause-start : goal.returns-clause-start
returns-clause-start g c = c.end-2.ensures.start ∙ c.end.ensures.start
