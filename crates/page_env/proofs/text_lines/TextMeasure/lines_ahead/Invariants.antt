use Rattle.std.proofs.Common.{◌-◌, length}
use Rattle.page_env.specs.TextMeasure.{AreLinesFrom}
use Rattle.page_env.proofs.text_lines.TextMeasure.lines_ahead.Given as goal

abbrev pub invariant-loop-next : goal.invariant-loop-next
invariant-loop-next g l = AreLinesFrom l.self l.fn.from l.bytes l.lines

abbrev pub decreases-loop-next : goal.decreases-loop-next
decreases-loop-next g l = length l.bytes - l.lines.count
