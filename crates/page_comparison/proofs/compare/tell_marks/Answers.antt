use Rattle.std.proofs.Common.{◌≡◌, Bool, ap, sym, ◌∙◌}
use Rattle.std.proofs.lemmas.Result.{on_ok_weaker}
use Rattle.page_comparison.specs.AnyOrder.{all_in_any_order}
use Rattle.page_comparison.specs.Comparison.{marks_compared}
use Rattle.page_comparison.specs.InOrder.{all_in_order}
use Rattle.page_comparison.specs.Kept.{kept_all}
use Rattle.page_comparison.specs.Pages.{made_marks, made_page}
use Rattle.page_comparison.proofs.compare.tell_marks.Goals as goal

pub returns-then-any_order : goal.returns-then-any_order
returns-then-any_order g c =
    let setting = c.args.setting.now in
    let old = (made_page c.args.one.now).marks in
    let new = (made_page c.args.other.now).marks in
    let kept = c.args.listing.now in
    on_ok_weaker c.tell_in_any_order.result
    (λ (told :
    c.tell_in_any_order.new.listing
    ≡ kept_all (all_in_any_order setting (made_marks c.as_slice-old.result.now) (made_marks c.as_slice-new.result.now)) kept).
    told
    ∙ (λ i. kept_all
    (all_in_any_order setting (made_marks (c.as_slice-old.ensures.value i)) (made_marks (c.as_slice-new.ensures.value i))) kept)
    ∙ ap (λ (t : Bool). kept_all (marks_compared t setting old new) c.args.listing.now) (sym c.if-any_order.true))
    c.tell_in_any_order.ensures

pub returns-else-any_order : goal.returns-else-any_order
returns-else-any_order g c =
    let setting = c.args.setting.now in
    let old = (made_page c.args.one.now).marks in
    let new = (made_page c.args.other.now).marks in
    let kept = c.args.listing.now in
    on_ok_weaker c.tell_in_order.result
    (λ (told :
    c.tell_in_order.new.listing
    ≡ kept_all (all_in_order setting (made_marks c.as_slice-old.result.now) (made_marks c.as_slice-new.result.now)) kept).
    told
    ∙ (λ i. kept_all
    (all_in_order setting (made_marks (c.as_slice-old.ensures.value i)) (made_marks (c.as_slice-new.ensures.value i))) kept)
    ∙ ap (λ (t : Bool). kept_all (marks_compared t setting old new) c.args.listing.now) (sym c.if-any_order.false))
    c.tell_in_order.ensures
