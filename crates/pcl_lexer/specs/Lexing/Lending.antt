-- How a lexer is left, once what it lent is given back.
use Rattle.std.specs.Prelude.{Option, Result}
use Rattle.std.specs.Borrow.{MutBor, Fml, RattleType}
use Rattle.std.specs.declared.alloc.Allocator.{Ghosts}
use Rattle.std.specs.Io.BufRead.{Rests}
use Rattle.pcl_items.specs.declared.fault.LexFault.{LexFault}
use Rattle.pcl_lexer.specs.declared.lexer.lexed.Lexed.{Lexed}
use Rattle.pcl_lexer.specs.declared.lexer.PlacedRow.{PlacedRow}
use Rattle.pcl_lexer.specs.contracts.lexer.Lexer.{the_row}
use Rattle.pcl_lexer.specs.Lexing.State.{LexerState}
use Rattle.pcl_lexer.specs.Lexing.Answers.{Answers}
use Rattle.pcl_lexer.specs.Lexing.Meaning.{IsNext, IsNextRow}

module _ (A : RattleType) (alloc : Ghosts A.Denot) (lexer : MutBor LexerState) (result : Result Lexed LexFault) where
  -- by one answer
  abbrev pub Leaves : Fml
  Leaves = Rests (the_row A alloc) lexer (λ new. IsNext lexer.now result new)

  abbrev pub Steps : Fml
  Steps = Rests (the_row A alloc) lexer (λ new. Answers lexer.now result new)

-- by a row that stands next, or none
module _ (A : RattleType) (alloc : Ghosts A.Denot) (lexer : MutBor LexerState) (result : Option PlacedRow) where
  abbrev pub LeavesAtRow : Fml
  LeavesAtRow = Rests (the_row A alloc) lexer (λ new. IsNextRow lexer.now result new)
