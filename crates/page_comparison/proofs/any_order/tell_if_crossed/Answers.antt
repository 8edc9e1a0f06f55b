use Rattle.std.proofs.Common.{◌≡◌, ◌+◌, ◌∷◌, Bool, [], ap, drop, if◌then◌else◌, sym, ◌∙◌}
use Rattle.std.proofs.lemmas.Result.{on_ok_weaker}
use Rattle.page_comparison.specs.declared.differences.PageChange.TheVariants.{Covers}
use Rattle.page_comparison.specs.declared.differences.PageDifference.{PageDifference}
use Rattle.page_comparison.specs.AnyOrder.{stand_at}
use Rattle.page_comparison.specs.Kept.{kept_all, kept_with}
use Rattle.page_comparison.specs.Pages.{made_marks}
use Rattle.page_comparison.specs.Told.{difference_at, next_place}
use Rattle.page_comparison.proofs.Steps.{rest_marks}
use Rattle.page_comparison.proofs.any_order.tell_if_crossed.Goals as goal

pub returns : goal.returns
returns g c =
    let setting = c.args.setting.now in
    let place = c.args.place in
    let new = made_marks c.args.new.now in
    let here = c.args.mark.now.place in
    let told : PageDifference =
    difference_at (stand_at setting.page c.args.number (place + 1)) here (next_place setting.new_end (drop place new)) Covers in
    let next = c.next_place-new_place.ensures ∙ ap (next_place setting.new_end) (rest_marks c.args.new.now place) in
    let is : c.difference.result ≡ told =
    c.difference.ensures ∙ (λ i. difference_at (c.standing-at.ensures i) here (next i) Covers) in
    on_ok_weaker c.tell.result
    (λ (kept : c.tell.new.self ≡ kept_with c.difference.result c.args.listing.now).
    kept
    ∙ (ap (λ (d : PageDifference). kept_with d c.args.listing.now) is
    ∙ ap (λ (t : Bool). kept_all (if t then told ∷ [] else []) c.args.listing.now) (sym c.if-not-crossed.false)))
    c.tell.ensures
