use Rattle.std.proofs.Common.{ap, ◌∙◌}
use Rattle.page_comparison.specs.Kept.{page_over}
use Rattle.page_comparison.specs.Pages.{made_pair}
use Rattle.page_comparison.proofs.compare.compare_page.Goals as goal

pub returns : goal.returns
returns g c = c.in_ok-end_page.ensures ∙ ap (page_over (made_pair c.args.pair)) c.in_ok-tell_page.ensures
