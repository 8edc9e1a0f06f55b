use Rattle.std.proofs.Common.{arith}
use Rattle.page_env.proofs.TextRooms.{count_more}
use Rattle.page_env.proofs.text_lines.inked_count.Goals as goal

pub loop-code-preserved : goal.loop-code-preserved
loop-code-preserved c =
    let more = count_more c.args.bytes.now c.loop-code.code-index 0 c.loop-code-test.true in
    let h = c.loop-code.invariant in
    grind (arith, more, h.0, h.1, c.from-count.ensures)
