use Rattle.std.proofs.Common.{subst}
use Rattle.std.proofs.lemmas.Option.{IfSome_then}
use Rattle.pcl_lexer.specs.Lexing.Meaning.{IsNext, answer_of}
use Rattle.comparison.proofs.stepping.next_known.Goals as goal

pub returns-in-None-clause-some : goal.returns-in-None-clause-some
returns-in-None-clause-some g c =
    IfSome_then c.next_pair.result c.next_pair.ensures.pair
    (λ read next. subst (λ lexer. IsNext lexer (answer_of read) c.next_pair.new.self) c.in-None.ensures.none next)
