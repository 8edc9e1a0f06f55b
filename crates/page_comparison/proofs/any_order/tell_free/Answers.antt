use Rattle.page_comparison.proofs.Free.{free_told_end, free_told_more}
use Rattle.page_comparison.proofs.any_order.tell_free.Goals as goal

pub loop-index-preserved : goal.loop-index-preserved
loop-index-preserved g c =
    free_told_more c.args.setting.now c.args.new.now c.args.old_mark c.args.bag.now.taken c.loop-index.index c.index-new-index.result
    c.is_taken-taken.result c.loop-index-test.true c.index-new-index.is c.is_taken-taken.ensures c.loop-index.listing
    c.tell_if_free.new.listing _ c.in_ok-tell_if_free.ensures c.loop-index.invariant

pub returns : goal.returns
returns g c =
    free_told_end c.args.setting.now c.args.new.now c.args.old_mark c.args.bag.now.taken c.loop-index.index c.loop-index-test.false
    c.loop-index.listing _ c.loop-index.invariant
