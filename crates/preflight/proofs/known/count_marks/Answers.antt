use Rattle.std.proofs.Common.{◌∙◌}
use Rattle.preflight.proofs.FormsInStep.{no_marks}
use Rattle.preflight.proofs.known.count_marks.Goals as goal

pub returns-then-marks-eq0 : goal.returns-then-marks-eq0
returns-then-marks-eq0 c = λ shapes count. no_marks shapes c.args.counts.now (count ∙ c.if-marks-eq0.true)
