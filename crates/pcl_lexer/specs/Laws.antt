-- Laws of the reading of bytes.
use Rattle.std.specs.Prelude.{◌≡◌, ◌≤◌, ℕ, List, ◌++◌, length, Bool, false}
use Rattle.pcl_lexer.specs.Lexing.Contexts.{Context, Pcl}
use Rattle.pcl_lexer.specs.Reader.{Open, first_of}
use Rattle.pcl_lexer.specs.Lexing.State.{most_open}
use Rattle.pcl_lexer.specs.Reading.{Reading, IsReading, IsReadFrom, reading_of}

-- the bytes have one reading, the computed one
pub record HasOneReading (bytes : List ℕ) : Type 0 where
  pub read : IsReading bytes (reading_of bytes)
  pub only : (reading : Reading) → IsReading bytes reading → reading ≡ reading_of bytes

-- what is decided stays so, whatever bytes follow
abbrev pub StaysDecided : Context → List ℕ → Type 0
StaysDecided context bytes =
    (whole : Bool) (more : List ℕ) → (first_of false context bytes ≡ Open → ⊥) →
    first_of whole context (bytes ++ more) ≡ first_of false context bytes

-- an item that is not whole has few bytes
abbrev pub OpenIsShort : Context → List ℕ → Type 0
OpenIsShort context bytes = first_of false context bytes ≡ Open → length bytes ≤ most_open

-- what is read from left to right is what the rules say, and all of it
pub record IsReadByRules (bytes : List ℕ) (reading : Reading) : Type 0 where
  pub sound : IsReadFrom Pcl 0 bytes reading → IsReading bytes reading
  pub complete : IsReading bytes reading → IsReadFrom Pcl 0 bytes reading
