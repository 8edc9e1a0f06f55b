use Rattle.std.proofs.Common.{◌+◌, length, ◌∙◌}
use Rattle.page_comparison.proofs.Turns.{turn_end, turn_more, turn_none, turns_all}
use Rattle.page_comparison.proofs.in_order.tell_in_order.Goals as goal

pub loop-init : goal.loop-init
loop-init g c =
    turn_none c.args.setting.now (length c.args.old.now + length c.args.new.now) c.first-at.result c.args.old.now c.args.new.now
    c.args.listing.now

pub loop-preserved : goal.loop-preserved
loop-preserved g c =
    turn_more c.args.setting.now (length c.args.old.now + length c.args.new.now) c.loop.counter c.loop-test.true
    c.loop.one.now c.loop.other.now
    c.next_turn-turn.result c.loop.at c.behind-at.result c.loop.listing c.tell_turn.new.listing _ c.next_turn-turn.ensures.turn
    c.in_ok-tell_turn.ensures c.behind-at.ensures c.loop.invariant

pub returns : goal.returns
returns g c =
    turn_end c.args.setting.now (length c.args.old.now + length c.args.new.now) c.loop.counter c.loop-test.false
    c.loop.one.now c.loop.other.now
    c.loop.at c.loop.listing _ c.loop.invariant
    ∙ turns_all c.args.setting.now c.args.old.now c.args.new.now c.first-at.result c.args.listing.now c.first-at.ensures
