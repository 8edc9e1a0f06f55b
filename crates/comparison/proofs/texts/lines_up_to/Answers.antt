use Rattle.std.proofs.Common.{arith}
use Rattle.std.proofs.lemmas.List.{length-take-le}
use Rattle.sinks.proofs.TextLines.{lines_of_more}
use Rattle.comparison.proofs.texts.lines_up_to.Goals as goal

pub returns-clause-lines : goal.returns-clause-lines
returns-clause-lines g c =
    lines_of_more c.args.measure.now c.args.from.now c.args.bytes.now c.args.count c.lines_ahead.result c.lines_ahead.ensures
    (omega (arith, c.requires.few, c.requires.lines.short))

pub returns-clause-few : goal.returns-clause-few
returns-clause-few g c =
    omega (
      arith,
      c.lines_ahead.ensures.short,
      length-take-le c.args.count c.args.bytes.now (omega (arith, c.requires.few, c.requires.lines.short)),
    )
