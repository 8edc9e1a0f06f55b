use Rattle.std.proofs.Common.{◌≡◌, Option, Result, IfOk, Ok, ap, subst, ◌∙◌}
use Rattle.verdict.specs.declared.failure.Failure.{Failure}
use Rattle.comparison.specs.declared.compare.Unread.{Unread}
use Rattle.comparison.specs.Running.{failure_of}
use Rattle.comparison.proofs.Ends.{both_right, new_fails}
use Rattle.comparison.proofs.compare.finish_new.Goals as goal

pub returns-in-Ok-Some-clause-compared : goal.returns-in-Ok-Some-clause-compared
returns-in-Ok-Some-clause-compared g c =
    let is = c.in-Ok-Some.is ∙ ap Ok c.in-Ok-Some.field-0-is in
    let new' = c.failure_of.new.job in
    new_fails (g.T.Source.state c.args.new_job.now) (g.T.Source.state c.failure_of.new.source) c.args.second.now new' c.args.found
    c.in-Ok-Some.ensures.run c.failure_of.ensures.number c.in-Ok-Some.failure
    (subst (λ (r : Result (Option Failure) Unread). IfOk r (λ failure. failure ≡ failure_of new'.progress)) is c.failure_of.ensures.failure)

pub returns-in-Ok-None-clause-compared : goal.returns-in-Ok-None-clause-compared
returns-in-Ok-None-clause-compared g c =
    let is = c.in-Ok-None.is ∙ ap Ok c.in-Ok-None.field-0-is in
    let new' = c.failure_of.new.job in
    both_right (g.T.Source.state c.args.new_job.now) (g.T.Source.state c.failure_of.new.source) c.args.second.now new' c.args.found
    c.in-Ok-None.ensures.run c.failure_of.ensures.number
    (subst (λ (r : Result (Option Failure) Unread). IfOk r (λ failure. failure ≡ failure_of new'.progress)) is c.failure_of.ensures.failure)
    c.in-Ok-None.ensures.over
