-- Text and line ends that are passed at once.
use Rattle.std.specs.Prelude.{◌≡◌, ℕ, ◌+◌, List, [], ◌++◌, length}
use Rattle.pcl_lexer.specs.Lexing.Contexts.{Context, Pcl}
use Rattle.pcl_items.specs.Items.{Placed}
use Rattle.pcl_items.specs.Lines.{line_items}
use Rattle.pcl_lexer.specs.Lexing.State.{LexerState}
use Rattle.pcl_lexer.specs.Lexing.Meaning.{HasRead, Decides}

-- the bytes that are not read yet, where an item may begin between units
abbrev pub ahead_in : Context → List ℕ → List ℕ
ahead_in Pcl rest = rest
ahead_in context rest = []

-- the bytes that a lexer has not read yet, where an item may begin
abbrev pub ahead_of : LexerState → List ℕ
ahead_of lexer = ahead_in lexer.context lexer.rest

-- these bytes were read, each as an item of its own
pub record ReadsLines (old : LexerState) (codes : List ℕ) (new : LexerState) : Type 0 where
  pub reads : (bytes : List ℕ) (items : List Placed) → HasRead old bytes items →
      HasRead new bytes (items ++ line_items old.place codes)
  pub decides : (bytes : List ℕ) (items : List Placed) → HasRead old bytes items →
      Decides old.ended bytes (items ++ line_items old.place codes)
  pub place : new.place ≡ old.place + length codes
  pub total : new.place + length new.rest ≡ old.place + length old.rest
  pub ended : new.ended ≡ old.ended
  pub begins_in_pcl : old.context ≡ Pcl
  pub ends_in_pcl : new.context ≡ Pcl
  pub held : new.held ≡ old.held
