use Rattle.std.proofs.Common.{◌≡◌, ap, arith, length, sym, ◌∙◌}
use Rattle.page_comparison.specs.InOrder.{leaving}
use Rattle.page_comparison.proofs.Turns.{turn_no_old}
use Rattle.page_comparison.proofs.turn.next_turn.Goals as goal

pub turn_from-requires-clause-first : goal.turn_from-requires-clause-first
turn_from-requires-clause-first g c = c.one-item.is

pub returns-in-empty-clause-turn : goal.returns-in-empty-clause-turn
returns-in-empty-clause-turn g c =
    let none : length c.args.old.now ≡ 0 = omega arith in
    c.leaving.ensures
    ∙ (ap (λ n. leaving n (length c.args.new.now)) (sym none) ∙ turn_no_old c.args.within c.args.old.now c.args.new.now none)
