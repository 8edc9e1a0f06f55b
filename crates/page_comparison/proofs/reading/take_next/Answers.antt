use Rattle.std.proofs.Common.{◌∙◌}
use Rattle.std.proofs.lemmas.Result.{err_from_is_err_and}
use Rattle.page_comparison.specs.Pages.{made_page}
use Rattle.page_comparison.proofs.PageSteps.{next_taken}
use Rattle.page_comparison.proofs.reading.take_next.Goals as goal

pub take_event-requires : goal.take_event-requires
take_event-requires g c = c.in_ok-come.ensures.came

pub returns-clause-taken : goal.returns-clause-taken
returns-clause-taken g c =
    next_taken (g.S.Source.state c.args.source.now) (g.S.Source.state c.come.new.source) c.args.job.now c.come.new.job
    c.take_event.new.job (made_page c.args.page.now) (made_page c.take_event.new.page) c.in_ok-come.ensures.run
    c.in_ok-came.came c.in_ok-came.ensures.taken

pub returns-clause-number : goal.returns-clause-number
returns-clause-number g c = c.take_event.ensures.number ∙ c.come.ensures.number

pub returns-in_err-came-clause-number : goal.returns-in_err-came-clause-number
returns-in_err-came-clause-number g c = c.take_event.ensures.number ∙ c.come.ensures.number

pub returns-in_err-came-clause-failed : goal.returns-in_err-came-clause-failed
returns-in_err-came-clause-failed g c =
    let same = err_from_is_err_and c.from_residual-in_err-came.result c.from_residual-in_err-came.ensures.1 in
    rw (same.1, same.2) c.in_ok-come.ensures.failed

pub returns-in_err-came-clause-err : goal.returns-in_err-came-clause-err
returns-in_err-came-clause-err g c =
    let same = err_from_is_err_and c.from_residual-in_err-came.result c.from_residual-in_err-came.ensures.1 in rw (same.1, same.2) (tt, tt)

pub returns-in_err-come-clause-failed : goal.returns-in_err-come-clause-failed
returns-in_err-come-clause-failed g c =
    let same = err_from_is_err_and c.from_residual.result c.from_residual.ensures.1 in
    rw (same.1, same.2) c.in_err-come.ensures.failed

pub returns-in_err-come-clause-err : goal.returns-in_err-come-clause-err
returns-in_err-come-clause-err g c =
    let same = err_from_is_err_and c.from_residual.result c.from_residual.ensures.1 in
    rw (same.1, same.2) c.in_err-come.ensures.err

pub returns-clause-few : goal.returns-clause-few
returns-clause-few g c = c.in_ok-came.ensures.few
