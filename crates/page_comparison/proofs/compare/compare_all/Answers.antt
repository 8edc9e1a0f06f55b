use Rattle.std.proofs.Common.{ap, refl, sym, ◌∙◌}
use Rattle.std.proofs.lemmas.Bool.{and_parts}
use Rattle.std.proofs.lemmas.Result.{IfOk-weaker, err_from_is_err_and}
use Rattle.comparison.specs.declared.compare.Which.TheVariants.{Old}
use Rattle.page_comparison.specs.Comparison.{told_pages}
use Rattle.page_comparison.specs.Kept.{Kept}
use Rattle.page_comparison.specs.Pages.{made_page}
use Rattle.page_comparison.specs.Reading.{NewFailsRight, PagesCompare}
use Rattle.page_comparison.proofs.Ending.{go_further, go_none, no_read_of_new, no_read_of_old, old_fails, own_errors, own_no_new}
use Rattle.page_comparison.proofs.Ending.{pages_over}
use Rattle.page_comparison.proofs.Keeping.{page_idle}
use Rattle.page_comparison.proofs.compare.compare_all.Goals as goal

pub loop-page-init : goal.loop-page-init
loop-page-init g c = record {
  old_working = c.requires.old_job;
  new_working = c.requires.new_job;
  old_number = refl;
  new_number = refl;
  idle = ap (λ (k : Kept). k.differs) c.new-listing.ensures;
  goes = λ printer panel old_first new_first of_old of_new.
      go_none c.args.nearness c.args.most printer panel old_first (g.S.Source.state c.args.old_job.now) new_first
      (g.T.Source.state c.args.new_job.now) c.args.first.now c.args.second.now c.new-listing.result c.none-counts.result
      c.new-listing.ensures c.none-counts.ensures of_old of_new;
}

pub loop-page-preserved : goal.loop-page-preserved
loop-page-preserved g c =
    let so_far = c.loop-page.invariant in
    let old_now = g.S.Source.state c.loop-page.old_job in
    let old_now' = g.S.Source.state c.read_page.new.source in
    let new_now = g.T.Source.state c.loop-page.new_job in
    let new_now' = g.T.Source.state c.read_page-in-loop-page.new.source in
    let one = made_page c.in_ok-one.one in
    let other = made_page c.in_ok-other.other in
    let kept_is = c.in_ok-compare_page.ensures in
    record {
      old_working = c.in_ok-one.ensures.failed;
      new_working = c.in_ok-other.ensures.failed;
      old_number = c.read_page.ensures.number ∙ so_far.old_number;
      new_number = c.read_page-in-loop-page.ensures.number ∙ so_far.new_number;
      idle =
          ap (λ (k : Kept). k.differs) kept_is
          ∙ page_idle c.args.nearness c.loop-page.page one other c.loop-page.listing;
      goes = λ printer panel old_first new_first of_old of_new.
          let go = so_far.goes printer panel old_first new_first of_old of_new in
          go_further c.args.nearness c.args.most printer panel old_first old_now old_now' new_first new_now new_now' c.loop-page.first
          c.read_page.new.job c.loop-page.second c.read_page-in-loop-page.new.job c.loop-page.page c.loop-page.listing
          c.compare_page.new.listing c.loop-page.counts c.count_page-counts.result one other go
          (c.in_ok-one.ensures.read printer panel old_first go.old_taken go.old_followed)
          (c.in_ok-other.ensures.read printer panel new_first go.new_taken go.new_followed) so_far.idle kept_is
          c.count_page-counts.ensures;
    }

pub returns-in-Some-clause-compared : goal.returns-in-Some-clause-compared
returns-in-Some-clause-compared g c = λ printer panel number old_first new_first of_old of_new old_number new_number.
    let so_far = c.loop-page.invariant in
    let go = so_far.goes printer panel old_first new_first of_old of_new in
    old_fails c.args.nearness c.args.most number printer panel old_first (g.S.Source.state c.loop-page.old_job) new_first
    (g.T.Source.state c.loop-page.new_job) c.loop-page.first.run c.loop-page.second.run _ _ go.old_followed.has_run
    go.new_followed.has_run (so_far.old_number ∙ old_number) (so_far.new_number ∙ new_number) c.in-Some.failure
    (sym c.in-Some.ensures)

pub returns-then-are_over-clause-compared : goal.returns-then-are_over-clause-compared
returns-then-are_over-clause-compared g c = λ printer panel number old_first new_first of_old of_new old_number new_number.
    let so_far = c.loop-page.invariant in
    let go = so_far.goes printer panel old_first new_first of_old of_new in
    let over = and_parts _ _ (sym c.are_over.ensures ∙ c.if-are_over.true) in
    pages_over c.args.nearness c.args.most number printer panel old_first (g.S.Source.state c.loop-page.old_job) new_first
    (g.T.Source.state c.loop-page.new_job) c.loop-page.first c.loop-page.second c.loop-page.page c.loop-page.listing
    c.loop-page.counts go (so_far.old_number ∙ old_number) (so_far.new_number ∙ new_number) over.0 over.1 (sym c.in-None.ensures)
    (sym c.in-None-failure.ensures) (told_pages c.into_comparison.result) c.into_comparison.ensures

pub returns-in-Some-failure-clause-compared : goal.returns-in-Some-failure-clause-compared
returns-in-Some-failure-clause-compared g c =
    let so_far = c.loop-page.invariant in
    let old_now = g.S.Source.state c.loop-page.old_job in
    let old_now' = g.S.Source.state c.new_fails.new.old_job in
    let new_now = g.T.Source.state c.loop-page.new_job in
    IfOk-weaker c.new_fails.result
    (λ comparison. NewFailsRight old_now old_now' c.loop-page.first c.in-Some-failure.own (told_pages comparison))
    (λ comparison. PagesCompare c.args.nearness c.args.most (g.S.Source.state c.args.old_job.now) old_now'
    (g.T.Source.state c.args.new_job.now) new_now c.args.first.now c.args.second.now (told_pages comparison))
    (λ comparison right printer panel number old_first new_first of_old of_new old_number new_number.
    let go = so_far.goes printer panel old_first new_first of_old of_new in
    right c.args.nearness c.args.most number printer panel old_first new_first new_now c.loop-page.second go.old_taken go.new_taken
    go.old_followed go.new_followed (so_far.old_number ∙ old_number) (so_far.new_number ∙ new_number) (sym c.in-Some-failure.ensures))
    c.new_fails.ensures.right

-- ---- which job could not be read

pub returns-in-Some-failure-clause-new_read : goal.returns-in-Some-failure-clause-new_read
returns-in-Some-failure-clause-new_read g c =
    c.loop-page.invariant.new_working ∙ sym (own_no_new c.new_fails.result c.new_fails.ensures.err)

pub returns-in-Some-failure-clause-err : goal.returns-in-Some-failure-clause-err
returns-in-Some-failure-clause-err g c = own_errors Old c.new_fails.result c.new_fails.ensures.err

pub returns-in_err-one-clause-old_read : goal.returns-in_err-one-clause-old_read
returns-in_err-one-clause-old_read g c =
    let same = err_from_is_err_and c.from_residual.result c.from_residual.ensures.1 in
    rw (same.1, same.2) c.in_err-one.ensures.failed

pub returns-in_err-one-clause-new_read : goal.returns-in_err-one-clause-new_read
returns-in_err-one-clause-new_read g c =
    let same = err_from_is_err_and c.from_residual.result c.from_residual.ensures.1 in
    rw (same.1, same.2)
    (c.loop-page.invariant.new_working ∙ sym (no_read_of_new c.in_err-one.field-0.0 c.in_err-one.ensures.err.0))

pub returns-in_err-one-clause-err : goal.returns-in_err-one-clause-err
returns-in_err-one-clause-err g c =
    let same = err_from_is_err_and c.from_residual.result c.from_residual.ensures.1 in
    rw (same.1, same.2) c.in_err-one.ensures.err.1

pub returns-in_err-other-clause-old_read : goal.returns-in_err-other-clause-old_read
returns-in_err-other-clause-old_read g c =
    let same = err_from_is_err_and c.from_residual-in_err-other.result c.from_residual-in_err-other.ensures.1 in
    rw (same.1, same.2)
    (c.in_ok-one.ensures.failed ∙ sym (no_read_of_old c.in_err-other.field-0.0 c.in_err-other.ensures.err.0))

pub returns-in_err-other-clause-new_read : goal.returns-in_err-other-clause-new_read
returns-in_err-other-clause-new_read g c =
    let same = err_from_is_err_and c.from_residual-in_err-other.result c.from_residual-in_err-other.ensures.1 in
    rw (same.1, same.2) c.in_err-other.ensures.failed

pub returns-in_err-other-clause-err : goal.returns-in_err-other-clause-err
returns-in_err-other-clause-err g c =
    let same = err_from_is_err_and c.from_residual-in_err-other.result c.from_residual-in_err-other.ensures.1 in
    rw (same.1, same.2) c.in_err-other.ensures.err.1

pub returns-in_err-compare_page-clause-old_read : goal.returns-in_err-compare_page-clause-old_read
returns-in_err-compare_page-clause-old_read g c =
    let same = err_from_is_err_and c.from_residual-in_err-compare_page.result c.from_residual-in_err-compare_page.ensures.1 in
    rw (same.1, same.2) c.in_ok-one.ensures.failed

pub returns-in_err-compare_page-clause-new_read : goal.returns-in_err-compare_page-clause-new_read
returns-in_err-compare_page-clause-new_read g c =
    let same = err_from_is_err_and c.from_residual-in_err-compare_page.result c.from_residual-in_err-compare_page.ensures.1 in
    rw (same.1, same.2) c.in_ok-other.ensures.failed

pub returns-in_err-compare_page-clause-err : goal.returns-in_err-compare_page-clause-err
returns-in_err-compare_page-clause-err g c =
    let same = err_from_is_err_and c.from_residual-in_err-compare_page.result c.from_residual-in_err-compare_page.ensures.1 in
    rw (same.1, same.2) tt
