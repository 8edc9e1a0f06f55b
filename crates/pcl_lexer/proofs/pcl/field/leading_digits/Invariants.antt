use Rattle.pcl_lexer.proofs.Escapes.Digits.{IsNumberSoFar}
use Rattle.pcl_lexer.proofs.pcl.field.leading_digits.Given as goal

abbrev pub invariant-loop-len : goal.invariant-loop-len
invariant-loop-len l = IsNumberSoFar l.past l.bytes l.len l.number
