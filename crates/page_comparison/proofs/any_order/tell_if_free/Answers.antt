use Rattle.std.proofs.Common.{◌≡◌, ◌∷◌, Bool, [], ap, sym, ◌∙◌}
use Rattle.std.proofs.lemmas.Result.{on_ok_weaker}
use Rattle.page_comparison.specs.declared.differences.PageChange.TheVariants.{OnlyInNew}
use Rattle.page_comparison.specs.declared.differences.PageDifference.{PageDifference}
use Rattle.page_comparison.specs.declared.standing.Standing.{Standing}
use Rattle.page_comparison.specs.AnyOrder.{free_told}
use Rattle.page_comparison.specs.Kept.{kept_all, kept_with}
use Rattle.page_comparison.specs.Pages.{made_mark}
use Rattle.page_comparison.specs.Told.{difference_at}
use Rattle.page_comparison.proofs.any_order.tell_if_free.Goals as goal

pub returns-then-taken : goal.returns-then-taken
returns-then-taken g c =
    let mark = made_mark c.args.mark.now in
    ap (λ (t : Bool). kept_all (free_told c.args.setting.now c.args.old_mark c.args.number (mark ∷ []) (t ∷ [])) c.args.listing.now)
    (sym c.if-taken.true)

pub returns : goal.returns
returns g c =
    let mark = made_mark c.args.mark.now in
    let setting = c.args.setting.now in
    let is =
    c.difference.ensures
    ∙ ap (λ (at : Standing). difference_at at setting.old_end mark.place OnlyInNew) c.standing-at.ensures in
    on_ok_weaker c.tell.result
    (λ (kept : c.tell.new.self ≡ kept_with c.difference.result c.args.listing.now).
    kept
    ∙ (ap (λ (d : PageDifference). kept_with d c.args.listing.now) is
    ∙ ap (λ (t : Bool). kept_all (free_told setting c.args.old_mark c.args.number (mark ∷ []) (t ∷ [])) c.args.listing.now)
    (sym c.if-taken.false)))
    c.tell.ensures
