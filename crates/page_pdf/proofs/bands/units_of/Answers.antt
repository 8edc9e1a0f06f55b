use Rattle.std.proofs.Common.{◌*◌, ◌≤◌, ◌^◌, arith}
use Rattle.std.proofs.lemmas.Nat.{mul-le}
use Rattle.page_pdf.proofs.bands.units_of.Goals as goal

pub overflow_mul-result : goal.overflow_mul-result
overflow_mul-result c =
    let product : c.args.pixels * c.args.pixel ≤ 2 ^ 67 * 96 =
    mul-le c.args.pixels c.args.pixel (2 ^ 67) 96 c.requires.few c.requires.small in omega (arith, product)
