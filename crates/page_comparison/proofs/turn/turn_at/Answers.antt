use Rattle.std.proofs.Common.{Bool, true, ap, if◌then◌else◌, sym, ◌∙◌}
use Rattle.page_comparison.specs.declared.turn.Turn.{Turn}
use Rattle.page_comparison.specs.InOrder.{nearest}
use Rattle.page_comparison.specs.Pages.{made_marks}
use Rattle.page_comparison.proofs.turn.turn_at.Goals as goal

pub returns-then-is_near-clause-turn : goal.returns-then-is_near-clause-turn
returns-then-is_near-clause-turn g c =
    let alike : Turn = record { old = 1; new = 1; same = true } in
    let other : Turn = nearest c.args.within (made_marks c.args.old.now) (made_marks c.args.new.now) in
    let chosen : Bool → Turn = λ b. if b then alike else other in
    ap chosen (sym c.if-is_near.true ∙ c.is_near.ensures)

pub returns-clause-turn : goal.returns-clause-turn
returns-clause-turn g c =
    let alike : Turn = record { old = 1; new = 1; same = true } in
    let other : Turn = nearest c.args.within (made_marks c.args.old.now) (made_marks c.args.new.now) in
    let chosen : Bool → Turn = λ b. if b then alike else other in
    c.nearest.ensures.turn ∙ ap chosen (sym c.if-is_near.false ∙ c.is_near.ensures)
