use Rattle.std.proofs.Common.{arith, ◌≡◌, ◌∙◌, ◌+◌, ◌^◌, ap, ℤ, Option, Some, None, ◌-ℤ◌}
use Rattle.std.specs.Prelude.{SomeIff, IfSome}
use Rattle.std.specs.Int.{w64, cast_signed, cast_unsigned}
use Rattle.std.proofs.lemmas.Int.{ints, to_z-of_z}
use Rattle.tick_length.specs.Length.{IsInRange}
use Rattle.page_env.specs.Numbers.{IsWithin}
use Rattle.page_env.specs.TextMeasure.{TextMeasure}
use Rattle.page_env.proofs.text_lines.last_place.Goals as goal

some_is : (o : Option ℤ) (P : Type 0) (v w : ℤ) → SomeIff o P v → v ≡ w → IfSome o (λ x. x ≡ w)
some_is None P v w h e = tt
some_is (Some x) P v w h e = h.1 ∙ e

fits : (z : ℤ) → IsWithin (2 ^ 62) z → cast_signed w64 (cast_unsigned w64 z) ≡ z
fits z h = grind (arith, ints, to_z-of_z, h)

near : (edge origin advance : ℤ) → IsInRange edge → IsWithin (2 ^ 60 + 2 ^ 50) origin → IsInRange advance →
    IsWithin (2 ^ 62) (edge -ℤ origin) × IsWithin (2 ^ 62) ((edge -ℤ origin) -ℤ advance)
near edge origin advance e o a = ((omega (arith, ints), omega (arith, ints)), (omega (arith, ints), omega (arith, ints)))

pub returns-clause-value : goal.returns-clause-value
returns-clause-value g c =
    let m = c.measure.inside in
    let edge : ℤ = m.bounds.area.right in
    let origin : ℤ = m.look.origin.x in
    let advance : ℤ = m.look.advance in
    let cast : ℤ → ℤ = λ z. cast_signed w64 (cast_unsigned w64 z) in
    let edge_is : cast c.ticks.result ≡ edge = grind (arith, to_z-of_z, c.ticks.ensures) in
    let origin_is : cast c.ticks-2.result ≡ origin = grind (arith, to_z-of_z, c.ticks-2.ensures) in
    let advance_is : cast c.ticks-3.result ≡ advance = grind (arith, to_z-of_z, c.ticks-3.ensures) in
    let small = near edge origin advance c.ticks.ensures.in_range c.ticks-2.ensures.in_range c.ticks-3.ensures.in_range in
    some_is c.from_ticks.result _ _
    ((c.args.measure.now.bounds.area.right -ℤ c.args.measure.now.look.origin.x) -ℤ c.args.measure.now.look.advance) c.from_ticks.ensures
    (ap (λ z. cast (cast (z -ℤ cast c.ticks-2.result) -ℤ cast c.ticks-3.result)) edge_is
    ∙ ap (λ z. cast (cast (edge -ℤ z) -ℤ cast c.ticks-3.result)) origin_is
    ∙ ap (λ z. cast (z -ℤ cast c.ticks-3.result)) (fits (edge -ℤ origin) small.0)
    ∙ ap (λ z. cast ((edge -ℤ origin) -ℤ z)) advance_is
    ∙ fits ((edge -ℤ origin) -ℤ advance) small.1
    ∙ ap (λ (n : TextMeasure). (n.bounds.area.right -ℤ n.look.origin.x) -ℤ n.look.advance) c.measure.view_is)
