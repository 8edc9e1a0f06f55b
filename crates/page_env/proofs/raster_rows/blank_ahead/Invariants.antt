use Rattle.std.specs.Prelude.{length, ◌-◌}
use Rattle.page_env.proofs.Blanks.{AreBlank}
use Rattle.page_env.proofs.raster_rows.blank_ahead.Given as goal

abbrev pub invariant-loop-ahead : goal.invariant-loop-ahead
invariant-loop-ahead l = AreBlank l.bytes l.ahead

abbrev pub decreases-loop-ahead : goal.decreases-loop-ahead
decreases-loop-ahead l = length l.bytes - l.ahead
