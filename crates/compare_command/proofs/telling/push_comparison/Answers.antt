use Rattle.std.proofs.Common.{OnOk, subst, sym, ◌≡◌, ◌++◌}
use Rattle.comparison.specs.declared.difference.Comparison.{Comparison}
use Rattle.page_comparison.specs.declared.differences.PageDifference.{PageDifference}
use Rattle.compare_command.specs.Telling.{comparison_text, listed_text, told_by}
use Rattle.compare_command.proofs.telling.push_comparison.Goals as goal

pub returns-in-Differs : goal.returns-in-Differs
returns-in-Differs c =
    let telling = told_by c.args.telling.now in
    subst
    (λ (comparison : Comparison). OnOk c.push_difference.result (c.push_difference.new.text.items
    ≡ c.args.text.now.items ++ comparison_text telling c.args.number comparison))
    (sym c.in-Differs.is)
    (subst
    (λ (difference : PageDifference). OnOk c.push_difference.result (c.push_difference.new.text.items
    ≡ c.args.text.now.items ++ listed_text telling c.args.number difference))
    c.difference_of.ensures c.push_difference.ensures)
