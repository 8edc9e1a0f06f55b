use Rattle.std.proofs.Common.{◌≡◌, Option, Result, IfOk, Ok, ap, subst, sym, ◌∙◌}
use Rattle.verdict.specs.declared.failure.Failure.{Failure}
use Rattle.comparison.specs.Running.{failure_of}
use Rattle.page_comparison.specs.declared.differences.PagesError.{PagesError}
use Rattle.page_comparison.proofs.Ending.{new_fails_new, new_fails_old}
use Rattle.page_comparison.proofs.compare.new_fails.Goals as goal

pub returns-in-Ok-Some-clause-right : goal.returns-in-Ok-Some-clause-right
returns-in-Ok-Some-clause-right g c =
    let is = c.in-Ok-Some.is ∙ ap Ok c.in-Ok-Some.field-0-is in
    let old' = c.last_failure.new.first in
    let fails =
    subst (λ (r : Result (Option Failure) PagesError). IfOk r (λ failure. failure ≡ failure_of old'.run.progress)) is
    c.last_failure.ensures.failure in
    new_fails_old (g.S.Source.state c.args.old_job.now) (g.S.Source.state c.last_failure.new.old_job) c.args.first.now old'.run
    c.in-Ok-Some.ensures.run c.last_failure.ensures.number c.args.failure c.in-Ok-Some.own (sym fails)

pub returns-in-Ok-None-clause-right : goal.returns-in-Ok-None-clause-right
returns-in-Ok-None-clause-right g c =
    let is = c.in-Ok-None.is ∙ ap Ok c.in-Ok-None.field-0-is in
    let old' = c.last_failure.new.first in
    let fails =
    subst (λ (r : Result (Option Failure) PagesError). IfOk r (λ failure. failure ≡ failure_of old'.run.progress)) is
    c.last_failure.ensures.failure in
    new_fails_new (g.S.Source.state c.args.old_job.now) (g.S.Source.state c.last_failure.new.old_job) c.args.first.now old'.run
    c.in-Ok-None.ensures.run c.last_failure.ensures.number c.args.failure c.in-Ok-None.ensures.over (sym fails)
