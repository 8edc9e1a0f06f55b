-- What a source stands for, and what one read does.
use Rattle.std.specs.Prelude.{◌≡◌, ℕ, List, [], ◌∷◌, ◌++◌, Bool, take}
use Rattle.std.specs.Prelude.{Option, Result, Ok, Err, is_err}
use Rattle.std.specs.Io.KnownBytes.{ReadConsumes}

-- what its reads gave so far, piece by piece, where an empty piece is an end; the bytes that reads
-- will give from here on, where these are known; and whether a read has failed
pub record SourceState : Type 0 where
  pub given : List (List ℕ)
  pub remaining : Option (List ℕ)
  pub failed : Bool

-- what one read gave: a piece, which is empty at the end; where it failed, none
abbrev pub piece_of : {E : Type 0} → Result ℕ E → List ℕ → List (List ℕ)
piece_of (Ok n) buf = take n buf ∷ []
piece_of (Err e) buf = []

-- one read led from the one state to the other
pub record Reads {E : Type 0} (old new : SourceState) (result : Result ℕ E) (buf : List ℕ)
    : Type 0 where
  pub given : new.given ≡ old.given ++ piece_of result buf
  pub bytes : ReadConsumes old.remaining new.remaining result buf
  pub failed : new.failed ≡ is_err result
