use Rattle.profile_lint.proofs.Each.{one_more}
use Rattle.profile_lint.proofs.whole.sizes_of.Goals as goal

pub loop-row-preserved : goal.loop-row-preserved
loop-row-preserved g c =
    one_more (λ row. row.size) c.args.rows.now c.loop-row.row-index c.row-item.result
    c.loop-row.sizes.items c.push_new.new.numbers.items
    c.loop-row-test.true c.row-item.is c.loop-row.invariant c.in_ok-push_new.ensures
