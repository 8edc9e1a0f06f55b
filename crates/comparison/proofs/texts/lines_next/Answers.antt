use Rattle.std.proofs.Common.{arith, refl}
use Rattle.comparison.proofs.SameLines.{go_next}
use Rattle.comparison.proofs.texts.lines_next.Goals as goal

pub returns : goal.returns
returns g c = (
  c.in_ok-measure.measure.look,
  c.in_ok-measure.from,
  go_next c.args.job.now c.in_ok-measure.measure c.in_ok-measure.from c.in_ok-measure.from c.ahead.result.now c.lines_ahead-lines.result
      c.in_ok-measure.ensures refl c.ahead.ensures (omega (arith, c.if-lines-eq0.false)) c.lines_ahead-lines.ensures,
)
