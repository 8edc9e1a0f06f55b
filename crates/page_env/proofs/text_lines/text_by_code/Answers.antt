use Rattle.std.proofs.Common.{sym, ◌∙◌, arith}
use Rattle.page_env.proofs.TextGoes.{of_ranges_more}
use Rattle.page_env.proofs.TextRooms.{count_more}
use Rattle.page_env.proofs.text_lines.text_by_code.Goals as goal

pub loop-all-preserved : goal.loop-all-preserved
loop-all-preserved g c =
    let more = count_more c.args.bytes.now c.loop-all.all 0 c.loop-all-test.true in
    let h = c.loop-all.invariant in (
      of_ranges_more c.args.face.now.codes c.loop-all.all _ c.args.bytes.now c.loop-all-test.true h.0
          (sym c.is_text.ensures ∙ c.if-not-is_text.false),
      grind (arith, more, h.1, h.2, c.from-inked.ensures),
      grind (arith, more, h.1, h.2, c.from-inked.ensures),
    )
