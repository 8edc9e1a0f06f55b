use Rattle.std.proofs.Common.{◌≡◌, ◌+◌, List, ap, sym, ◌∙◌}
use Rattle.std.proofs.lemmas.Result.{on_ok_weaker}
use Rattle.page_comparison.specs.declared.bag.Matched.{Matched}
use Rattle.page_comparison.specs.declared.differences.PageChange.TheVariants.{OnlyInOld}
use Rattle.page_comparison.specs.declared.differences.PageDifference.{PageDifference}
use Rattle.page_comparison.specs.declared.standing.Standing.{Standing}
use Rattle.page_comparison.specs.AnyOrder.{stand_at}
use Rattle.page_comparison.specs.Kept.{kept_with}
use Rattle.page_comparison.specs.Told.{difference_at}
use Rattle.page_comparison.proofs.Steps.{few_marks}
use Rattle.page_comparison.proofs.any_order.tell_unmatched.Goals as goal

pub returns : goal.returns
returns g c =
    let setting = c.args.setting.now in
    let place = c.args.mark.now.place in
    let stands =
    c.standing-at.ensures ∙ ap (λ n. stand_at setting.page c.args.number (n + 1)) (sym (few_marks c.args.new.now)) in
    let is =
    c.difference.ensures ∙ ap (λ (at : Standing). difference_at at place setting.new_end OnlyInOld) stands in
    on_ok_weaker c.tell.result
    (λ (told : c.tell.new.self ≡ kept_with c.difference.result c.args.listing.now) (earlier : List Matched).
    told ∙ ap (λ (d : PageDifference). kept_with d c.args.listing.now) is)
    c.tell.ensures
