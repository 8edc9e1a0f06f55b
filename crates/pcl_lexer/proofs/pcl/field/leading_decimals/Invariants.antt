use Rattle.pcl_lexer.proofs.Escapes.Digits.{AreDecimalsSoFar}
use Rattle.pcl_lexer.proofs.pcl.field.leading_decimals.Given as goal

abbrev pub invariant-loop-len : goal.invariant-loop-len
invariant-loop-len l = AreDecimalsSoFar l.whole l.bytes l.len l.ten_thousandths l.worth l.is_exact
