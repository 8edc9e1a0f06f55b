use Rattle.std.proofs.Common.{subst, arith}
use Rattle.std.proofs.lemmas.List.{take_rest}
use Rattle.page_env.specs.TextMeasure.{AreLinesFrom}
use Rattle.page_env.proofs.TextRooms.{glyphs_fit, lines_more}
use Rattle.page_env.proofs.text_lines.line_ahead.Goals as goal

pub overflow_add-result-2 : goal.overflow_add-result-2
overflow_add-result-2 g c =
    let end =
    subst (λ rest. AreLinesFrom c.args.measure.now c.in_ok-text.text.end rest c.in-Some.end)
    (take_rest c.args.bytes.now c.in_ok-text.text.count) c.in-Some.ensures.lines in
    let fit = glyphs_fit c.args.measure.now c.args.place c.args.bytes.now c.in_ok-text.text c.in-Some.end c.in_ok-text.ensures.lines end in
    omega (arith, fit)

pub returns-clause-lines : goal.returns-clause-lines
returns-clause-lines g c =
    let end =
    subst (λ rest. AreLinesFrom c.args.measure.now c.in_ok-text.text.end rest c.in-Some.end)
    (take_rest c.args.bytes.now c.in_ok-text.text.count) c.in-Some.ensures.lines in
    lines_more c.args.measure.now c.args.place c.args.bytes.now c.in_ok-text.text c.in-Some.end c.in_ok-text.ensures.lines end
