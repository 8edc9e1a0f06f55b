use Rattle.std.proofs.Common.{◌≡◌, subst}
use Rattle.std.specs.Prelude.{IfNone, IfSome}
use Rattle.pcl_lexer.specs.Lexing.Meaning.{IsNext, answer_of}
use Rattle.pcl_lexer.specs.Lexing.State.{LexerState}
use Rattle.pcl_lexer.proofs.lexer.Lexer.next_pen_move.Goals as goal

pub returns-clause-moves : goal.returns-clause-moves
returns-clause-moves g c =
    subst (λ (old : LexerState). IfSome c.next_motion.result (λ read. IsNext old (answer_of read) c.next_motion.new.self))
    c.in_default.ensures.none c.next_motion.ensures.motion

pub returns-clause-none : goal.returns-clause-none
returns-clause-none g c =
    subst (λ (old : LexerState). IfNone c.next_motion.result (c.next_motion.new.self ≡ old)) c.in_default.ensures.none
    c.next_motion.ensures.none
