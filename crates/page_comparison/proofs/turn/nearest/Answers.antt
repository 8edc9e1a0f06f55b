use Rattle.std.proofs.Common.{Bool, Option, ap, sym, unwrap_or, ◌∙◌}
use Rattle.page_comparison.specs.declared.turn.Turn.{Turn}
use Rattle.page_comparison.specs.InOrder.{is_resumed, leaving, nearest}
use Rattle.page_comparison.specs.Pages.{made_marks}
use Rattle.page_comparison.proofs.Finding.{way_among_runs, way_found}
use Rattle.page_comparison.proofs.turn.nearest.Goals as goal

pub returns-in-Some-clause-turn : goal.returns-in-Some-clause-turn
unfolding nearest
returns-in-Some-clause-turn g c =
    let p : Turn → Bool = is_resumed c.args.within (made_marks c.args.old.now) (made_marks c.args.new.now) in
    ap (λ (found : Option Turn). unwrap_or found (leaving 1 1)) (way_found p c.in-Some.turn c.in-Some.ensures.found)

pub returns-in-None-clause-turn : goal.returns-in-None-clause-turn
unfolding nearest
returns-in-None-clause-turn g c =
    let p : Turn → Bool = is_resumed c.args.within (made_marks c.args.old.now) (made_marks c.args.new.now) in
    c.nearest_run.ensures.turn
    ∙ ap (λ (found : Option Turn). unwrap_or found (leaving 1 1)) (way_among_runs p c.in-None.ensures.found)
