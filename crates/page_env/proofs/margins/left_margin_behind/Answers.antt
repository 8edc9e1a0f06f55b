use Rattle.std.proofs.Common.{rules, arith}
use Rattle.std.proofs.lemmas.Int.{ints}
use Rattle.page_env.proofs.Products.{product_fits}
use Rattle.page_env.proofs.margins.left_margin_behind.Goals as goal

pub overflow_mul-left : goal.overflow_mul-left
overflow_mul-left c =
    let fits =
    product_fits c.from.result c.from-2.result c.args.column c.args.columns c.from.ensures c.from-2.ensures
    (omega (arith, c.ranges.column.fits))
    (omega (arith, c.ranges.columns.fits)) in
    first_of (search (rules, fits.0, fits.1), grind (arith, ints, c.from.ensures, c.from-2.ensures, c.ranges))
