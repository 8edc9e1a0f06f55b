use Rattle.std.proofs.Common.{◌^◌, ◌*◌, ◌≤◌, arith}
use Rattle.std.specs.Int.{w64}
use Rattle.std.proofs.lemmas.Int.{ints, to_z-of_z, to_z_pos}
use Rattle.std.proofs.lemmas.Nat.{mul-le}
use Rattle.page_env.proofs.text_lines.fit_columns.Goals as goal

pub overflow_mul-by : goal.overflow_mul-by
overflow_mul-by c =
    let small = mul-le c.args.count c.args.column 255 (2 ^ 50) c.requires (omega (arith, c.if-column-gt-WIDEST_COLUMN.false)) in
    omega (arith, small)

pub returns-then-end-ticks-clause-columns : goal.returns-then-end-ticks-clause-columns
returns-then-end-ticks-clause-columns c = λ h.
    let narrow : c.args.column ≤ 2 ^ 50 = omega (arith, c.if-column-gt-WIDEST_COLUMN.false) in
    let small = mul-le c.args.count c.args.column 255 (2 ^ 50) c.requires narrow in
    let by = to_z_pos w64 (c.args.count * c.args.column) (omega (arith, small)) in
    let one = to_z_pos w64 c.args.column (omega (arith, narrow)) in (
      grind (arith, ints, to_z-of_z, c.ticks.ensures, c.ticks-2.ensures, c.if-end-ticks.true, by, small),
      grind (arith, ints, to_z-of_z, c.ticks.ensures, c.ticks-then-end-ticks.ensures, h, by, one, small, narrow),
    )
