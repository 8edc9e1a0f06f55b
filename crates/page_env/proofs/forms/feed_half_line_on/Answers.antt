use Rattle.std.proofs.Common.{◌≡◌, ◌/◌, ◌+ℤ◌, pos, false, arith}
use Rattle.std.specs.Prelude.{int_lt}
use Rattle.std.proofs.lemmas.Int.{ints}
use Rattle.tick_length.specs.declared.unit.Unit.TheVariants.{FortyEighthInch}
use Rattle.page_env.specs.Places.{ticks_in}
use Rattle.page_env.proofs.FormFacts.{half_line_goes}
use Rattle.page_env.proofs.forms.feed_half_line_on.Goals as goal

pub returns-clause-goes : goal.returns-clause-goes
returns-clause-goes c = λ yes printer has.
    let y = c.from_ticks.result in
    let leads : y ≡ c.in-Some.here +ℤ pos (ticks_in FortyEighthInch c.in-Known.vmi / 2) =
    omega (arith, ints, c.from_ticks.ensures, c.ticks.ensures.value, c.ticks_in-by.ensures.value, c.ticks_in-by.ensures.small) in
    let within : int_lt c.foot_on.result y ≡ false = grind (arith, ints, c.from_ticks.ensures, c.if-foot_on-y.false) in
    half_line_goes printer c.args.page.now c.args.bounds.now has c.in-Known.vmi c.in-Some.here y c.foot_on.result c.in-Known.is c.in-Some.is
    leads c.foot_on.ensures.value within
