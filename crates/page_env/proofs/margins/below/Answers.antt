use Rattle.std.proofs.Common.{rules, arith}
use Rattle.std.proofs.lemmas.Int.{ints}
use Rattle.page_env.proofs.Products.{product_fits}
use Rattle.page_env.proofs.margins.below.Goals as goal

pub overflow_mul-result : goal.overflow_mul-result
overflow_mul-result c =
    let fits =
    product_fits c.from-2.result c.from-3.result c.args.line c.args.lines c.from-2.ensures c.from-3.ensures (omega (arith, c.requires))
    (omega (arith, c.ranges.lines.fits)) in
    first_of (search (rules, fits.0, fits.1), grind (arith, ints, c.from-2.ensures, c.from-3.ensures, c.requires, c.ranges.lines))
