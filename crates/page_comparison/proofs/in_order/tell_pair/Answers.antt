use Rattle.std.proofs.Common.{◌≡◌, ◌∷◌, Bool, [], ap, if◌then◌else◌, sym, ◌∙◌}
use Rattle.std.proofs.lemmas.Result.{on_ok_weaker}
use Rattle.page_comparison.specs.declared.differences.PageChange.{PageChange}
use Rattle.page_comparison.specs.declared.differences.PageDifference.{PageDifference}
use Rattle.page_comparison.specs.Kept.{kept_all, kept_with}
use Rattle.page_comparison.specs.Marks.{changed}
use Rattle.page_comparison.specs.Pages.{MadeMark, made_mark}
use Rattle.page_comparison.specs.Told.{difference_at}
use Rattle.page_comparison.proofs.in_order.tell_pair.Goals as goal

pub returns-then-is_near : goal.returns-then-is_near
returns-then-is_near g c =
    let a : MadeMark = made_mark c.args.one.now in
    let b : MadeMark = made_mark c.args.other.now in
    let told : PageDifference = difference_at c.args.at a.place b.place (changed a b) in
    ap (λ (t : Bool). kept_all (if t then [] else told ∷ []) c.args.listing.now) (sym c.if-is_near.true ∙ c.is_near.ensures)

pub returns : goal.returns
returns g c =
    let a : MadeMark = made_mark c.args.one.now in
    let b : MadeMark = made_mark c.args.other.now in
    let told : PageDifference = difference_at c.args.at a.place b.place (changed a b) in
    let is : c.difference.result ≡ told =
    c.difference.ensures
    ∙ ap (λ (change : PageChange). difference_at c.args.at a.place b.place change) c.changed-change.ensures in
    on_ok_weaker c.tell.result
    (λ (kept : c.tell.new.self ≡ kept_with c.difference.result c.args.listing.now).
    kept
    ∙ (ap (λ (d : PageDifference). kept_with d c.args.listing.now) is
    ∙ ap (λ (t : Bool). kept_all (if t then [] else told ∷ []) c.args.listing.now)
    (sym c.if-is_near.false ∙ c.is_near.ensures)))
    c.tell.ensures
