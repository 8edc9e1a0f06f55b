use Rattle.std.proofs.Common.{arith}
use Rattle.pcl_lexer.proofs.Escapes.ShortFields.{short_end}
use Rattle.pcl_lexer.proofs.pcl.field.short_field.Goals as goal

pub returns-clause-end : goal.returns-clause-end
returns-clause-end c =
    let whole = c.leading_digits-whole.ensures in
    let there = c.in-Some.ensures.lookup in
    short_end c.args.bytes.now 5 _ c.in-Some.last.now _ whole.len whole.number (omega arith) (omega arith) there.3.0 there.1 (omega arith)
    (omega arith)
