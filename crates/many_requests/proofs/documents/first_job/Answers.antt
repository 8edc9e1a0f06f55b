use Rattle.std.proofs.Common.{◌∙◌}
use Rattle.many_requests.proofs.LookFacts.{found_behind}
use Rattle.many_requests.proofs.documents.first_job.Goals as goal

pub loop-job-preserved : goal.loop-job-preserved
loop-job-preserved g c = c.is_at.ensures.quiet c.if-is_at.false ∙ c.loop-job.invariant

pub returns-then-is_at-clause-found : goal.returns-then-is_at-clause-found
returns-then-is_at-clause-found g c =
    found_behind _ c.args.used.now c.loop-job.used c.is_at.new.used c.loop-job.invariant (c.is_at.ensures.told c.if-is_at.true)

pub returns-clause-found : goal.returns-clause-found
returns-clause-found g c = c.loop-job.invariant
