use Rattle.std.proofs.Common.{◌≡◌, ◌≤◌, ◌*◌, ◌^◌, ◌∙◌, arith}
use Rattle.std.specs.Int.{w64}
use Rattle.std.proofs.lemmas.Int.{ints, to_z-of_z, to_z_pos}
use Rattle.std.proofs.lemmas.Nat.{mul-le}
use Rattle.page_env.specs.Mark.{pixel_of}
use Rattle.page_env.proofs.Ends.{pixel_small}
use Rattle.page_env.proofs.raster_rows.rows_below.Goals as goal

few : (c : goal.After-ticks) → c.from.result * c.from-2.result ≤ 2 ^ 61
few c =
    let rows : c.from.result ≤ 2 ^ 32 = omega (arith, c.from.ensures, c.ranges) in
    let pixel : c.from-2.result ≤ 2 ^ 29 = omega (arith, c.from-2.ensures, c.pixel_of.ensures, pixel_small c.args.resolution) in
    omega (arith, mul-le c.from.result c.from-2.result (2 ^ 32) (2 ^ 29) rows pixel)

pub overflow_add-result : goal.overflow_add-result
overflow_add-result c =
    let by = to_z_pos w64 (c.from.result * c.from-2.result) (omega (arith, few c)) in
    grind (arith, ints, c.ticks.ensures, by, few c)

pub returns-clause-value : goal.returns-clause-value
returns-clause-value c =
    let by = to_z_pos w64 (c.from.result * c.from-2.result) (omega (arith, few c)) in
    let same : c.from.result * c.from-2.result ≡ c.args.rows * pixel_of c.args.resolution =
    λ i. c.from.ensures i * (c.from-2.ensures ∙ c.pixel_of.ensures) i in
    grind (arith, ints, to_z-of_z, c.ticks.ensures, by, few c, same)
