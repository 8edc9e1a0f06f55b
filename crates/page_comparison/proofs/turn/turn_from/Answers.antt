use Rattle.std.proofs.Common.{◌≡◌, ap, arith, length, sym, ◌∙◌}
use Rattle.page_comparison.specs.InOrder.{leaving}
use Rattle.page_comparison.proofs.Turns.{turn_heads, turn_no_new}
use Rattle.page_comparison.proofs.turn.turn_from.Goals as goal

pub returns-in-empty-clause-turn : goal.returns-in-empty-clause-turn
returns-in-empty-clause-turn g c =
    let none : length c.args.new.now ≡ 0 = omega arith in
    c.leaving.ensures
    ∙ (ap (leaving (length c.args.old.now)) (sym none) ∙ turn_no_new c.args.within c.args.old.now c.args.new.now none)

pub returns-in-len1-up-clause-turn : goal.returns-in-len1-up-clause-turn
returns-in-len1-up-clause-turn g c =
    c.turn_at.ensures.turn
    ∙ sym
    (turn_heads c.args.within c.args.old.now c.args.new.now c.args.one.now c.other-item.result c.requires.some
    c.in-len1-up.len_at_least c.requires.first c.other-item.is)
