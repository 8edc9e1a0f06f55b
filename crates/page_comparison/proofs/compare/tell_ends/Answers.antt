use Rattle.std.proofs.Common.{◌≡◌, ◌+◌, ◌∷◌, Bool, [], ap, if◌then◌else◌, length, sym, ◌∙◌}
use Rattle.std.proofs.lemmas.Result.{on_ok_weaker}
use Rattle.page_comparison.specs.declared.differences.PageChange.{PageChange}
use Rattle.page_comparison.specs.declared.differences.PageDifference.{PageDifference}
use Rattle.page_comparison.specs.AnyOrder.{stand_at}
use Rattle.page_comparison.specs.Comparison.{end_change}
use Rattle.page_comparison.specs.Kept.{kept_all, kept_with}
use Rattle.page_comparison.specs.Pages.{made_page}
use Rattle.page_comparison.specs.Told.{difference_at}
use Rattle.page_comparison.proofs.Steps.{few_marks}
use Rattle.page_comparison.proofs.compare.tell_ends.Goals as goal

pub returns-then-are_same_ends : goal.returns-then-are_same_ends
returns-then-are_same_ends g c =
    let one = made_page c.args.one.now in
    let other = made_page c.args.other.now in
    let told : PageDifference =
    difference_at (stand_at c.args.page (length one.marks + 1) (length other.marks + 1)) one.place other.place
    (end_change one.end other.end) in
    ap (λ (t : Bool). kept_all (if t then [] else told ∷ []) c.args.listing.now)
    (sym c.if-are_same_ends.true ∙ c.are_same_ends.ensures)

pub returns : goal.returns
returns g c =
    let one = made_page c.args.one.now in
    let other = made_page c.args.other.now in
    let told : PageDifference =
    difference_at (stand_at c.args.page (length one.marks + 1) (length other.marks + 1)) one.place other.place
    (end_change one.end other.end) in
    let one_long : c.len.result ≡ length one.marks =
    c.len.ensures ∙ c.args.one.now.marks.ok.0 ∙ sym (few_marks c.args.one.now.marks.items) in
    let other_long : c.len-2.result ≡ length other.marks =
    c.len-2.ensures ∙ c.args.other.now.marks.ok.0 ∙ sym (few_marks c.args.other.now.marks.items) in
    let is : c.difference.result ≡ told =
    c.difference.ensures
    ∙ ((λ i. difference_at (stand_at c.args.page (one_long i + 1) (other_long i + 1)) one.place other.place c.end_change-change.result)
    ∙ ap
    (λ (change : PageChange).
    difference_at (stand_at c.args.page (length one.marks + 1) (length other.marks + 1)) one.place other.place change)
    c.end_change-change.ensures) in
    on_ok_weaker c.tell.result
    (λ (kept : c.tell.new.self ≡ kept_with c.difference.result c.args.listing.now).
    kept
    ∙ (ap (λ (d : PageDifference). kept_with d c.args.listing.now) is
    ∙ ap (λ (t : Bool). kept_all (if t then [] else told ∷ []) c.args.listing.now)
    (sym c.if-are_same_ends.false ∙ c.are_same_ends.ensures)))
    c.tell.ensures
