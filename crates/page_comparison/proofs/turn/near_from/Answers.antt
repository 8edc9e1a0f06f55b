use Rattle.std.proofs.Common.{◌≡◌, arith, length, sym, ◌∙◌}
use Rattle.page_comparison.proofs.Turns.{near_heads, near_no_new}
use Rattle.page_comparison.proofs.turn.near_from.Goals as goal

pub returns-in-empty : goal.returns-in-empty
returns-in-empty g c =
    let none : length c.args.new.now ≡ 0 = omega arith in near_no_new c.args.within c.args.old.now c.args.new.now none

pub returns-in-len1-up : goal.returns-in-len1-up
returns-in-len1-up g c =
    c.is_near.ensures
    ∙ sym
    (near_heads c.args.within c.args.old.now c.args.new.now c.args.one.now c.other-item.result c.requires.some
    c.in-len1-up.len_at_least c.requires.first c.other-item.is)
