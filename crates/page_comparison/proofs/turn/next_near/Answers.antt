use Rattle.std.proofs.Common.{◌≡◌, arith, length}
use Rattle.page_comparison.proofs.Turns.{near_no_old}
use Rattle.page_comparison.proofs.turn.next_near.Goals as goal

pub near_from-requires-clause-first : goal.near_from-requires-clause-first
near_from-requires-clause-first g c = c.one-item.is

pub returns-in-empty : goal.returns-in-empty
returns-in-empty g c =
    let none : length c.args.old.now ≡ 0 = omega arith in near_no_old c.args.within c.args.old.now c.args.new.now none
