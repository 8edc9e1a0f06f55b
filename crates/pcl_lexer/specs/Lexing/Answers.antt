-- One answer of a lexer, by what stands first in its bytes.
use Rattle.std.specs.Prelude.{◌≡◌, List, [], ◌∷◌, true, false, Result, Ok, Err}
use Rattle.pcl_items.specs.declared.fault.LexFault.{LexFault}
use Rattle.pcl_lexer.specs.declared.lexer.lexed.Lexed.{Lexed}
use Rattle.pcl_lexer.specs.declared.lexer.lexed.Lexed.TheVariants as answers
use Rattle.pcl_lexer.specs.Lexing.Contexts.{item_place, MayEndAt}
use Rattle.pcl_items.specs.Items.{Placed, view, at}
use Rattle.pcl_lexer.specs.Reader.{first_of}
use Rattle.pcl_lexer.specs.Fault.{IsFault}
use Rattle.pcl_lexer.specs.Reading.{ReadsTo}
use Rattle.pcl_lexer.specs.Lexing.State.{LexerState, WantsMore}

-- the lexer goes on over these items
pub record AdvancesOver (old : LexerState) (items : List Placed) (new : LexerState) : Type 0 where
  pub reads : ReadsTo old.ended old.context old.place old.rest items new.context new.place new.rest
  pub ended : new.ended ≡ old.ended
  pub held : new.held ≡ old.held

abbrev pub Answers : LexerState → Result Lexed LexFault → LexerState → Type 0
Answers old (Ok (answers.Item place item)) new = AdvancesOver old (at place (view item) ∷ []) new
Answers old (Ok answers.NeedMore) new = AdvancesOver old [] new × (new.ended ≡ false) × WantsMore new
Answers old (Ok answers.End) new = AdvancesOver old [] new × (new.ended ≡ true) × MayEndAt new.context × (new.rest ≡ [])
Answers old (Err fault) new =
    AdvancesOver old [] new × (fault.place ≡ item_place new.context new.place)
    × IsFault new.ended (first_of new.ended new.context new.rest) new.context new.rest fault.cause
