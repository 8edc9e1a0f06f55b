use Rattle.std.proofs.Common.{◌≡◌, List, None, Option, Some, ℕ, ap, ◌∙◌}
use Rattle.std.proofs.lemmas.Result.{on_ok_weaker}
use Rattle.comparison.proofs.Ends.{on_ok_always}
use Rattle.page_comparison.specs.declared.bag.Matched.{Matched}
use Rattle.page_comparison.specs.AnyOrder.{mark_told, matched_with}
use Rattle.page_comparison.specs.Kept.{Kept, kept_all}
use Rattle.page_comparison.specs.Pages.{made_mark, made_marks}
use Rattle.page_comparison.proofs.any_order.tell_mark.Goals as goal

pub returns-in-None-clause-told : goal.returns-in-None-clause-told
returns-in-None-clause-told g c =
    let new = made_marks c.args.new.now in
    let mark = made_mark c.args.mark.now in
    let told_by : Option ℕ → Kept =
    λ found. kept_all (mark_told c.args.setting.now new c.args.number mark c.args.bag.now.earlier found) c.args.listing.now in
    on_ok_weaker c.tell_unmatched.result
    (λ (told : (earlier : List Matched) → c.tell_unmatched.new.listing
    ≡ kept_all (mark_told c.args.setting.now new c.args.number mark earlier None) c.args.listing.now).
    told c.args.bag.now.earlier ∙ ap told_by c.in-None.ensures.free)
    c.tell_unmatched.ensures

pub returns-in-None-clause-matched : goal.returns-in-None-clause-matched
returns-in-None-clause-matched g c =
    on_ok_always c.tell_unmatched.result
    (ap (λ (found : Option ℕ). matched_with (made_mark c.args.mark.now) found c.args.bag.now) c.in-None.ensures.free)

pub returns-in-Some-clause-told : goal.returns-in-Some-clause-told
returns-in-Some-clause-told g c =
    let new = made_marks c.args.new.now in
    let mark = made_mark c.args.mark.now in
    let told_by : Option ℕ → Kept =
    λ found. kept_all (mark_told c.args.setting.now new c.args.number mark c.args.bag.now.earlier found) c.args.listing.now in
    on_ok_weaker c.tell_matched.result
    (λ (told : c.tell_matched.new.listing ≡ told_by (Some c.in-Some.place)). told ∙ ap told_by c.in-Some.ensures.free)
    c.tell_matched.ensures.told

pub returns-in-Some-clause-matched : goal.returns-in-Some-clause-matched
returns-in-Some-clause-matched g c =
    let mark = made_mark c.args.mark.now in
    on_ok_weaker c.tell_matched.result
    (λ (matched : c.tell_matched.new.bag ≡ matched_with mark (Some c.in-Some.place) c.args.bag.now).
    matched ∙ ap (λ (found : Option ℕ). matched_with mark found c.args.bag.now) c.in-Some.ensures.free)
    c.tell_matched.ensures.matched
