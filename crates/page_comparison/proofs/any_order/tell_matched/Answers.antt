use Rattle.std.proofs.Common.{◌≡◌, ◌+◌, ◌++◌, ◌∷◌, Bool, [], ap, drop, if◌then◌else◌, slice_set, true, ◌∙◌}
use Rattle.std.specs.List.{list_any}
use Rattle.std.proofs.lemmas.Result.{on_ok_weaker}
use Rattle.comparison.proofs.Ends.{on_ok_always}
use Rattle.page_comparison.specs.declared.differences.PageChange.TheVariants.{Covers}
use Rattle.page_comparison.specs.declared.differences.PageDifference.{PageDifference}
use Rattle.page_comparison.specs.declared.footprint.Footprint.{Footprint}
use Rattle.page_comparison.specs.AnyOrder.{Matching, is_crossed, stand_at}
use Rattle.page_comparison.specs.Kept.{kept_all}
use Rattle.page_comparison.specs.Pages.{made_mark, made_marks}
use Rattle.page_comparison.specs.Told.{difference_at, next_place}
use Rattle.page_comparison.proofs.any_order.tell_matched.Goals as goal

pub returns-clause-told : goal.returns-clause-told
returns-clause-told g c =
    let setting = c.args.setting.now in
    let place = c.args.place in
    let new = made_marks c.args.new.now in
    let mark = made_mark c.args.mark.now in
    let told : PageDifference =
    difference_at (stand_at setting.page c.args.number (place + 1)) mark.place (next_place setting.new_end (drop place new)) Covers in
    let crossed =
    c.is_crossed-crossed.ensures
    ∙ ap (λ (f : Footprint). list_any (is_crossed place f) c.args.bag.now.earlier) c.footprint_of-footprint.ensures in
    on_ok_always c.take.result
    (c.in_ok-tell_if_crossed.ensures
    ∙ ap (λ (t : Bool). kept_all (if t then told ∷ [] else []) c.args.listing.now) crossed)

pub returns-clause-matched : goal.returns-clause-matched
returns-clause-matched g c =
    let bag = c.args.bag.now in
    let matching : Footprint → Matching =
    λ f. record {
      taken = slice_set bag.taken c.args.place true;
      earlier = bag.earlier ++ record { new = c.args.place; footprint = f } ∷ [];
    } in
    on_ok_weaker c.take.result
    (λ (took : c.take.new.self ≡ matching c.footprint_of-footprint.result).
    took ∙ ap matching c.footprint_of-footprint.ensures) c.take.ensures
