use Rattle.std.proofs.Common.{subst, arith}
use Rattle.std.specs.Prelude.{◌+ℤ◌, ◌≤ℤ◌}
use Rattle.std.proofs.lemmas.Int.{ints, to_z-of_z}
use Rattle.page_env.specs.TextMeasure.{TextMeasure}
use Rattle.page_env.proofs.text_lines.line_down.Goals as goal

pub from_ticks-requires : goal.from_ticks-requires
from_ticks-requires g c =
    let down = c.measure.invariant in (
      grind (arith, ints, to_z-of_z, c.ticks.ensures, c.ticks-2.ensures, down),
      grind (arith, ints, to_z-of_z, c.ticks.ensures, c.ticks-2.ensures, c.ticks-3.ensures, c.if-y-ticks.false),
    )

pub returns-clause-line : goal.returns-clause-line
returns-clause-line g c =
    subst (λ (m : TextMeasure). (c.args.place.y +ℤ m.look.line) ≤ℤ m.bounds.foot) c.measure.view_is
    (grind (arith, ints, to_z-of_z, c.ticks.ensures, c.ticks-2.ensures, c.ticks-3.ensures, c.if-y-ticks.false))
