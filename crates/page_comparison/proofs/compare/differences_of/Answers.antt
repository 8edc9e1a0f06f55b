use Rattle.std.proofs.Common.{ap, ◌∙◌}
use Rattle.page_comparison.specs.Comparison.{page_differences}
use Rattle.page_comparison.specs.Kept.{Kept, kept_all}
use Rattle.page_comparison.specs.Pages.{made_page}
use Rattle.page_comparison.proofs.Keeping.{first_kept}
use Rattle.page_comparison.proofs.compare.differences_of.Goals as goal

pub returns : goal.returns
returns g c =
    let pair = c.args.pair.now in
    let all = page_differences c.args.nearness pair.number (made_page pair.old) (made_page pair.new) in
    c.into_listed.ensures
    ∙ (ap (λ (kept : Kept). kept.listed) (c.in_ok-tell_page.ensures ∙ ap (kept_all all) c.new-listing.ensures) ∙ first_kept _ all)
