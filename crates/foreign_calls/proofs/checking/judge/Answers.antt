use Rattle.std.proofs.Common.{Some, ap}
use Rattle.foreign_calls.proofs.Known.{judged_known, passes_known}
use Rattle.foreign_calls.proofs.checking.judge.Goals as goal

pub returns-clause-right : goal.returns-clause-right
returns-clause-right g c =
    let said = c.check_job_within.ensures in
    judged_known _ _ c.args.fleet.now c.args.job.now c.check_job_within.result
    (ap (λ inner. Some inner.now) c.new-source.ensures.inner)
    said.exact said.headline said.told said.paged said.placed said.asked

pub returns-clause-items : goal.returns-clause-items
returns-clause-items g c = λ failed.
    passes_known _ _ c.args.fleet.now c.args.job.now (c.check_job_within.ensures.items failed)
    (ap (λ inner. Some inner.now) c.new-source.ensures.inner)

pub returns-clause-within : goal.returns-clause-within
returns-clause-within g c = c.check_job_within.ensures.within
