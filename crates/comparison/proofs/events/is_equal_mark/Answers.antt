use Rattle.std.proofs.Common.{ap, sym, ◌∙◌}
use Rattle.page_machine.specs.Event.{Marked}
use Rattle.comparison.proofs.events.is_equal_mark.Goals as goal

pub returns : goal.returns
returns g c =
    let lent = ap Marked c.lent-mark.ensures in
    (λ h. c.is_marked.ensures.0 h ∙ lent, λ e. c.is_marked.ensures.1 (e ∙ sym lent))
