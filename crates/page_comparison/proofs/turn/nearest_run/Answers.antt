use Rattle.std.proofs.Common.{Option, ap, unwrap_or, ◌∙◌}
use Rattle.page_comparison.specs.declared.turn.Turn.{Turn}
use Rattle.page_comparison.specs.InOrder.{leaving}
use Rattle.page_comparison.proofs.turn.nearest_run.Goals as goal

pub returns-in-Some-clause-turn : goal.returns-in-Some-clause-turn
returns-in-Some-clause-turn g c = ap (λ (found : Option Turn). unwrap_or found (leaving 1 1)) c.in-Some.ensures.found

pub returns-in-None-clause-turn : goal.returns-in-None-clause-turn
returns-in-None-clause-turn g c =
    c.leaving.ensures ∙ ap (λ (found : Option Turn). unwrap_or found (leaving 1 1)) c.in-None.ensures.found
