use Rattle.std.proofs.Common.{◌≡◌, Option, Result, IfOk, Ok, ap, subst, sym, ◌∙◌}
use Rattle.std.proofs.lemmas.Result.{IfOk-weaker}
use Rattle.verdict.specs.declared.failure.Failure.{Failure}
use Rattle.comparison.specs.declared.compare.Unread.{Unread}
use Rattle.comparison.specs.Comparing.{EndsRight, NewEndsRight}
use Rattle.comparison.specs.Running.{failure_of}
use Rattle.comparison.proofs.Ends.{errors_of_new, old_ends, old_fails, read_no_new, read_no_old}
use Rattle.comparison.proofs.compare.finish.Goals as goal

pub returns-in-Ok-Some-clause-compared : goal.returns-in-Ok-Some-clause-compared
returns-in-Ok-Some-clause-compared g c =
    let is = c.in-Ok-Some.is ∙ ap Ok c.in-Ok-Some.field-0-is in
    let old' = c.failure_of.new.job in
    old_fails (g.S.Source.state c.args.old_job.now) (g.S.Source.state c.failure_of.new.source) (g.T.Source.state c.args.new_job.now)
    c.args.first.now old' c.args.second.now c.args.found c.in-Ok-Some.ensures.run c.failure_of.ensures.number c.in-Ok-Some.failure
    (subst (λ (r : Result (Option Failure) Unread). IfOk r (λ failure. failure ≡ failure_of old'.progress)) is c.failure_of.ensures.failure)

pub returns-in-Ok-None-clause-compared : goal.returns-in-Ok-None-clause-compared
returns-in-Ok-None-clause-compared g c =
    let is = c.in-Ok-None.is ∙ ap Ok c.in-Ok-None.field-0-is in
    let old' = c.failure_of.new.job in
    let old_now = g.S.Source.state c.args.old_job.now in
    let old_now' = g.S.Source.state c.failure_of.new.source in
    let new_now = g.T.Source.state c.args.new_job.now in
    let new_now' = g.T.Source.state c.finish_new.new.new_job in
    IfOk-weaker c.finish_new.result (NewEndsRight new_now new_now' c.args.second.now c.args.found)
    (EndsRight old_now old_now' new_now new_now' c.args.first.now c.args.second.now c.args.found)
    (old_ends old_now old_now' new_now c.args.first.now old' c.args.second.now c.args.found c.in-Ok-None.ensures.run
    c.failure_of.ensures.number
    (subst (λ (r : Result (Option Failure) Unread). IfOk r (λ failure. failure ≡ failure_of old'.progress)) is c.failure_of.ensures.failure)
    c.in-Ok-None.ensures.over new_now')
    c.finish_new.ensures.compared

pub returns-in-Ok-None-clause-old_read : goal.returns-in-Ok-None-clause-old_read
returns-in-Ok-None-clause-old_read g c = c.in-Ok-None.ensures.read ∙ sym (read_no_old c.finish_new.result c.finish_new.ensures.err)

pub returns-in-Ok-None-clause-err : goal.returns-in-Ok-None-clause-err
returns-in-Ok-None-clause-err g c = errors_of_new c.finish_new.result c.finish_new.ensures.err

pub returns-in-Err-clause-new_read : goal.returns-in-Err-clause-new_read
returns-in-Err-clause-new_read g c = c.requires.new_job ∙ sym (read_no_new c.in-Err.unread c.in-Err.ensures.err.0)
