use Rattle.std.specs.Prelude.{reverse, length, ◌-◌, ◌≤◌}
use Rattle.page_env.proofs.Blanks.{AreBlank}
use Rattle.page_env.proofs.raster_rows.blank_behind.Given as goal

abbrev pub invariant-loop-behind : goal.invariant-loop-behind
invariant-loop-behind l = record { within : l.behind ≤ length l.bytes; blank : AreBlank (reverse l.bytes) l.behind }

abbrev pub decreases-loop-behind : goal.decreases-loop-behind
decreases-loop-behind l = length l.bytes - l.behind
