use Rattle.std.proofs.Common.{◌≡◌, ◌≤◌, Bool, Option, Some, ap, arith, false, length, refl, subst, sym, true, ◌∙◌}
use Rattle.std.proofs.lemmas.Result.{err_from_is_err_and}
use Rattle.page_comparison.specs.Pages.{MadePage, made_page}
use Rattle.page_comparison.specs.Reading.{TakesNext}
use Rattle.page_comparison.proofs.PageSteps.{collects_more, collects_none, read_ended, read_over}
use Rattle.page_comparison.proofs.reading.fill_page.Goals as goal

pub loop-init : goal.loop-init
loop-init g c = record {
  working = c.requires.working;
  number = refl;
  few = subst (λ (p : MadePage). length p.marks ≤ 0) (sym c.new-page.ensures) (omega arith);
  collects = λ printer panel first taken h.
      collects_none printer panel first (g.S.Source.state c.args.source.now) taken c.args.job.now (made_page c.new-page.result)
      c.new-page.ensures h;
}

pub loop-preserved : goal.loop-preserved
loop-preserved g c =
    let so_far = c.loop.invariant in
    let now = g.S.Source.state c.loop.source in
    let now' = g.S.Source.state c.take_next.new.source in
    let page = made_page c.loop.page in
    let page' = made_page c.take_next.new.page in
    let goes_on : c.in-Some-true.field-0 ≡ true = cc in
    let took =
    subst (λ (came : Option Bool). TakesNext now now' c.loop.job c.take_next.new.job page page' came)
    (c.in-Some-true.is ∙ ap Some goes_on)
    c.in_ok-came.ensures.taken in
    record {
      working = c.in_ok-came.ensures.failed;
      number = c.take_next.ensures.number ∙ so_far.number;
      few = omega (arith, c.in_ok-came.ensures.few, so_far.few);
      collects = λ printer panel first taken h.
          collects_more printer panel first now now' taken c.loop.job c.take_next.new.job page page'
          (so_far.collects printer panel first taken h) took;
    }

pub returns-in-None-clause-read : goal.returns-in-None-clause-read
returns-in-None-clause-read g c = λ printer panel first taken h.
    let now = g.S.Source.state c.loop.source in
    let now' = g.S.Source.state c.take_next.new.source in
    let page = made_page c.loop.page in
    let page' = made_page c.take_next.new.page in
    read_over printer panel first now now' taken c.loop.job c.take_next.new.job page page'
    (c.loop.invariant.collects printer panel first taken h) c.args.job.now c.requires.unended
    (subst (λ (came : Option Bool). TakesNext now now' c.loop.job c.take_next.new.job page page' came) c.in-None.is
    c.in_ok-came.ensures.taken)

pub returns-in-None-clause-few : goal.returns-in-None-clause-few
returns-in-None-clause-few g c = omega (arith, c.in_ok-came.ensures.few, c.loop.invariant.few, c.loop-test.true)

pub returns-in-None-clause-number : goal.returns-in-None-clause-number
returns-in-None-clause-number g c = c.take_next.ensures.number ∙ c.loop.invariant.number

pub returns-in-None-clause-failed : goal.returns-in-None-clause-failed
returns-in-None-clause-failed g c = c.in_ok-came.ensures.failed

pub returns-in-Some-false-clause-read : goal.returns-in-Some-false-clause-read
returns-in-Some-false-clause-read g c = λ printer panel first taken h.
    let now = g.S.Source.state c.loop.source in
    let now' = g.S.Source.state c.take_next.new.source in
    let page = made_page c.loop.page in
    let page' = made_page c.take_next.new.page in
    let ends : c.in-Some-false.field-0 ≡ false = cc in
    read_ended printer panel first now now' taken c.loop.job c.take_next.new.job page page'
    (c.loop.invariant.collects printer panel first taken h) c.args.job.now c.requires.unended
    (subst (λ (came : Option Bool). TakesNext now now' c.loop.job c.take_next.new.job page page' came)
    (c.in-Some-false.is ∙ ap Some ends)
    c.in_ok-came.ensures.taken)

pub returns-in-Some-false-clause-few : goal.returns-in-Some-false-clause-few
returns-in-Some-false-clause-few g c = omega (arith, c.in_ok-came.ensures.few, c.loop.invariant.few, c.loop-test.true)

pub returns-in-Some-false-clause-number : goal.returns-in-Some-false-clause-number
returns-in-Some-false-clause-number g c = c.take_next.ensures.number ∙ c.loop.invariant.number

pub returns-in-Some-false-clause-failed : goal.returns-in-Some-false-clause-failed
returns-in-Some-false-clause-failed g c = c.in_ok-came.ensures.failed

pub returns-in_err-came-clause-failed : goal.returns-in_err-came-clause-failed
returns-in_err-came-clause-failed g c =
    let same = err_from_is_err_and c.from_residual.result c.from_residual.ensures.1 in
    rw (same.1, same.2) c.in_err-came.ensures.failed

pub returns-in_err-came-clause-err : goal.returns-in_err-came-clause-err
returns-in_err-came-clause-err g c =
    let same = err_from_is_err_and c.from_residual.result c.from_residual.ensures.1 in
    rw (same.1, same.2) c.in_err-came.ensures.err

pub returns-in_err-came-clause-number : goal.returns-in_err-came-clause-number
returns-in_err-came-clause-number g c = c.take_next.ensures.number ∙ c.loop.invariant.number
