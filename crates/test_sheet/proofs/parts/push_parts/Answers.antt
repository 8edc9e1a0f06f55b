use Rattle.test_sheet.proofs.PartsInTurn.{next_part}
use Rattle.test_sheet.proofs.parts.push_parts.Goals as goal

pub loop-part-preserved : goal.loop-part-preserved
loop-part-preserved g c =
    next_part c.args.parts.now c.loop-part.part-index c.part-item.result c.loop-part.text.items c.push_part.new.text.items _
    c.loop-part-test.true c.part-item.is c.loop-part.invariant c.in_ok-push_part.ensures
