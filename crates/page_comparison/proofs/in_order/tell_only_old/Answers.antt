use Rattle.page_comparison.proofs.Steps.{only_old_end, only_old_more}
use Rattle.page_comparison.proofs.in_order.tell_only_old.Goals as goal

pub loop-mark-preserved : goal.loop-mark-preserved
loop-mark-preserved g c =
    only_old_more c.args.new_place c.args.marks.now c.loop-mark.mark-index c.mark-item.result c.loop-mark-test.true c.mark-item.is
    c.loop-mark.at c.behind-at.result c.behind-at.ensures c.difference.result c.difference.ensures c.loop-mark.listing
    c.tell.new.self _ c.in_ok-tell.ensures c.loop-mark.invariant

pub returns : goal.returns
returns g c =
    only_old_end c.args.new_place c.args.marks.now c.loop-mark.mark-index c.loop-mark-test.false c.loop-mark.at c.loop-mark.listing _
    c.loop-mark.invariant
