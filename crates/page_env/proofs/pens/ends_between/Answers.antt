use Rattle.std.proofs.Common.{rules, arith, ◌≡◌, ◌&&◌, pos, true}
use Rattle.std.specs.Prelude.{◌+ℤ◌, ◌-ℤ◌}
use Rattle.std.specs.Int.{int_min, int_max}
use Rattle.std.proofs.lemmas.Int.{ints}
use Rattle.tick_length.specs.Length.{IsInRange}
use Rattle.page_env.specs.Places.{is_between}
use Rattle.page_env.proofs.Ends.{ends_in_range}
use Rattle.page_env.proofs.pens.ends_between.Goals as goal

pub length_at-requires : goal.length_at-requires
length_at-requires c =
    let low = c.args.low in
    let high = c.args.high in
    let fit : (is_between low high (int_min c.args.a c.args.b -ℤ pos c.args.half)
    && is_between low high (int_max c.args.a c.args.b +ℤ pos c.args.half))
    ≡ true =
    search rules in
    let near : IsInRange c.args.a =
    (ends_in_range low high c.args.a c.args.b c.args.half c.ticks.ensures.in_range c.ticks-2.ensures.in_range fit).0 in
    grind (arith, ints, near, c.from.ensures)
