-- Where a lexer stands.
use Rattle.std.specs.Prelude.{◌≡◌, ℕ, List, [], Bool, false}
use Rattle.pcl_lexer.specs.Lexing.Contexts.{Context, Pcl}
use Rattle.pcl_lexer.specs.Reader.{Open, first_of}

-- the bytes that are not read yet, the number of bytes before them, what stands before, whether no more
-- come, and how many bytes are kept
pub record LexerState : Type 0 where
  pub rest : List ℕ
  pub place : ℕ
  pub context : Context
  pub ended : Bool
  pub held : ℕ

abbrev pub at_start : LexerState
at_start = record { rest = []; place = 0; context = Pcl; ended = false; held = 0 }

-- the most bytes of an item that is not whole, and of a piece
abbrev pub most_open : ℕ
most_open = 32831

abbrev pub most_piece : ℕ
most_piece = 4096

abbrev pub most_held : ℕ
most_held = 36927

-- the bytes that were fed decide no further item and no fault
abbrev pub WantsMore : LexerState → Type 0
WantsMore lexer = first_of false lexer.context lexer.rest ≡ Open
