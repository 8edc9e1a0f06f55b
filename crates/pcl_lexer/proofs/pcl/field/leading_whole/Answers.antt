use Rattle.std.proofs.Common.{min, ap, ◌∙◌, arith}
use Rattle.pcl_lexer.specs.Escapes.Field.{decimal}
use Rattle.pcl_lexer.proofs.Escapes.Digits.{digits_in_front}
use Rattle.pcl_lexer.proofs.pcl.field.leading_whole.Goals as goal

pub returns-then-whole-lt-FEW-clause-number : goal.returns-then-whole-lt-FEW-clause-number
returns-then-whole-lt-FEW-clause-number c =
    let whole = c.leading_digits-whole.ensures in
    whole.number
    ∙ ap (λ ds. min (decimal ds) 65_536) (digits_in_front 8 c.args.bytes.now (omega (arith, whole.len, c.if-whole-lt-FEW.true)))
