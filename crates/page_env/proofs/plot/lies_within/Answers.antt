use Rattle.std.proofs.Common.{rules, arith, ◌≡◌, true}
use Rattle.std.proofs.lemmas.Int.{ints}
use Rattle.page_env.specs.Places.{is_between}
use Rattle.page_env.proofs.TextRuns.{between_low, between_high}
use Rattle.page_env.proofs.plot.lies_within.Goals as goal

pub returns-then-lies_between-clause-near : goal.returns-then-lies_between-clause-near
returns-then-lies_between-clause-near c = λ yes.
    let box = c.args.bounds.now in
    let x : is_between box.low.x box.high.x c.args.place.x ≡ true = search rules in
    let y : is_between box.low.y box.high.y c.args.place.y ≡ true = search rules in
    let low_x = between_low box.low.x box.high.x c.args.place.x x in
    let high_x = between_high box.low.x box.high.x c.args.place.x x in
    let low_y = between_low box.low.y box.high.y c.args.place.y y in
    let high_y = between_high box.low.y box.high.y c.args.place.y y in (
      (
        omega (arith, ints, low_x, c.ticks.ensures.in_range, c.ticks.ensures.value),
        omega (arith, ints, high_x, c.ticks-2.ensures.in_range, c.ticks-2.ensures.value),
      ),
      (
        omega (arith, ints, low_y, c.ticks-then-lies_between.ensures.in_range, c.ticks-then-lies_between.ensures.value),
        omega (arith, ints, high_y, c.ticks-then-lies_between-2.ensures.in_range, c.ticks-then-lies_between-2.ensures.value),
      ),
    )
