-- What one answer leaves as it is.
use Rattle.std.proofs.Common.{◌≡◌, ◌+◌, length, Result, Ok, subst, false}
use Rattle.pcl_items.specs.declared.fault.LexFault.{LexFault}
use Rattle.pcl_lexer.specs.declared.lexer.lexed.Lexed.{Lexed}
use Rattle.pcl_lexer.specs.declared.lexer.lexed.Lexed.TheVariants as answers
use Rattle.pcl_lexer.specs.Lexing.State.{LexerState, WantsMore}
use Rattle.pcl_lexer.specs.Lexing.Meaning.{Allows, IsNext}

-- the number of bytes that were fed
pub total_kept : (old : LexerState) (result : Result Lexed LexFault) (new : LexerState) → IsNext old result new →
    new.place + length new.rest ≡ old.place + length old.rest
total_kept old result new next = next.total

-- where more is wanted, a piece may be fed
pub wants_more : (old : LexerState) (result : Result Lexed LexFault) (new : LexerState) → IsNext old result new →
    result ≡ Ok answers.NeedMore → (new.ended ≡ false) × WantsMore new
wants_more old result new next e = subst (λ r. Allows r new) e next.allows
