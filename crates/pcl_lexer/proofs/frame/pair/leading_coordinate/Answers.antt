use Rattle.std.proofs.Common.{◌≡◌, ◌≤◌, ◌<◌, length, get_or, take, true, Some, arith, rules}
use Rattle.pcl_lexer.specs.Frames.Number.{coordinate_by}
use Rattle.pcl_lexer.proofs.Escapes.Digits.{rest_from}
use Rattle.pcl_lexer.proofs.Frames.Pairs.{coordinate_in_front}
use Rattle.pcl_lexer.proofs.frame.pair.leading_coordinate.Goals as goal

pub returns : goal.returns
returns c =
    let sign = c.leading_sign-sign.ensures in
    let digits = c.leading_digits-digits.ensures in
    let found = c.leading_digits-digits.result in
    let rest = rest_from c.args.bytes.now c.leading_sign-sign.result.1 in
    let long : 8 ≤ length rest = search rules in
    let some : 0 < found.len = omega (arith, c.if-digits-eq0.false) in
    let short : found.len < 8 = search rules in
    let value : coordinate_by c.leading_sign-sign.result.0 found.number true ≡ Some c.in_ok-coordinate.field-0.units = search rules in
    coordinate_in_front 8 c.args.bytes.now _ _ found (get_or (take 8 rest) found.len 0) c.in_ok-coordinate.field-0
    (omega arith) sign.sign sign.len long digits.len digits.number some short (search rules) c.if-last-eq46.false value
