use Rattle.std.proofs.Common.{ap, ◌∙◌}
use Rattle.page_comparison.specs.InOrder.{go_alike}
use Rattle.page_comparison.specs.Pages.{made_marks}
use Rattle.page_comparison.proofs.Turns.{first_and_rest}
use Rattle.page_comparison.proofs.turn.go_alike.Goals as goal

pub returns-in-len1-up : goal.returns-in-len1-up
returns-in-len1-up g c =
    c.alike_from.ensures
    ∙ ap (λ l. go_alike c.args.within l (made_marks c.args.new.now))
    (first_and_rest c.args.old.now c.one-item.result c.in-len1-up.len_at_least c.one-item.is)
