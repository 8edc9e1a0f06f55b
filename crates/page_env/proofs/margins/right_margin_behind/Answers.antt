use Rattle.std.proofs.Common.{rules, arith}
use Rattle.std.proofs.lemmas.Int.{ints}
use Rattle.page_env.proofs.Products.{product_with_one_fits}
use Rattle.page_env.proofs.margins.right_margin_behind.Goals as goal

pub overflow_add-right : goal.overflow_add-right
overflow_add-right c = grind (arith, ints, c.from-2.ensures, c.ranges)

pub overflow_mul-right : goal.overflow_mul-right
overflow_mul-right c =
    let fits =
    product_with_one_fits c.from.result c.from-2.result c.args.column c.args.columns c.from.ensures c.from-2.ensures
    (omega (arith, c.ranges.column.fits))
    (omega (arith, c.ranges.columns.fits)) in
    first_of (search (rules, fits.0, fits.1), grind (arith, ints, c.from.ensures, c.from-2.ensures, c.ranges))
