use Rattle.std.proofs.Common.{ap, arith, ◌∙◌}
use Rattle.comparison.specs.Running.{RunState, is_open}
use Rattle.comparison.proofs.running_job.RunningJob.may_read.Goals as goal

pub returns-clause-small : goal.returns-clause-small
returns-clause-small g c =
    let reads = ap (λ (s : RunState). s.reads) c.self.view_is in
    let total = ap (λ (s : RunState). s.total) c.self.view_is in
    let ready = c.self.invariant (ap (λ (s : RunState). is_open s.progress) c.self.view_is ∙ c.requires) in
    omega (arith, reads, total, ready.3)
