use Rattle.std.proofs.Common.{subst, arith}
use Rattle.std.proofs.lemmas.List.{take_rest}
use Rattle.page_env.specs.TextMeasure.{AreLinesFrom}
use Rattle.page_env.proofs.TextRooms.{glyphs_fit, lines_more}
use Rattle.page_env.proofs.text_lines.TextMeasure.lines_ahead.Goals as goal

pub overflow_add-lines-in-Some : goal.overflow_add-lines-in-Some
overflow_add-lines-in-Some g c =
    let next =
    subst (λ rest. AreLinesFrom c.args.self.now c.loop-next.lines.end rest c.in-Some.next)
    (take_rest c.args.bytes.now c.loop-next.lines.count) c.in-Some.ensures.lines in
    let fit = glyphs_fit c.args.self.now c.args.from c.args.bytes.now c.loop-next.lines c.in-Some.next c.loop-next.invariant next in
    omega (arith, fit)

pub loop-next-preserved : goal.loop-next-preserved
loop-next-preserved g c =
    let next =
    subst (λ rest. AreLinesFrom c.args.self.now c.loop-next.lines.end rest c.in-Some.next)
    (take_rest c.args.bytes.now c.loop-next.lines.count) c.in-Some.ensures.lines in
    lines_more c.args.self.now c.args.from c.args.bytes.now c.loop-next.lines c.in-Some.next c.loop-next.invariant next
