-- What an outlet stands for, and what one write does.
use Rattle.std.specs.Prelude.{◌≡◌, ℕ, List, ◌++◌, length, take, Bool, true, not, ◌&&◌, ◌==◌}
use Rattle.std.specs.Prelude.{Option, Result, Ok, Err, MatchResult}
use Rattle.std.specs.Io.KnownBytes.{Appends, Keeps}

-- what it took of its writes so far; the bytes that it holds, where these are known; and whether a
-- write has failed, or took nothing of a piece that is not empty
pub record OutletState : Type 0 where
  pub taken : List ℕ
  pub contents : Option (List ℕ)
  pub failed : Bool

-- the text was taken, and nothing else
pub record Adds (old new : OutletState) (text : List ℕ) : Type 0 where
  pub taken : new.taken ≡ old.taken ++ text
  pub contents : Appends old.contents new.contents text

-- nothing was taken
pub record Stays (old new : OutletState) : Type 0 where
  pub taken : new.taken ≡ old.taken
  pub contents : Keeps old.contents new.contents

-- some front of the text was taken, and nothing else
abbrev pub AddsFront : OutletState → OutletState → List ℕ → Type 0
AddsFront old new text =
    (front : List ℕ) × (rest : List ℕ) × (text ≡ front ++ rest) × Adds old new front

-- a write failed, or took nothing of a piece that is not empty
abbrev pub write_failed : {E : Type 0} → Result ℕ E → List ℕ → Bool
write_failed (Ok n) piece = (n == 0) && not (length piece == 0)
write_failed (Err e) piece = true

-- one write led from the one state to the other: it took a front of the piece; where it failed,
-- nothing
pub record Takes {E : Type 0} (old new : OutletState) (result : Result ℕ E) (piece : List ℕ)
    : Type 0 where
  pub bytes : MatchResult result (λ n. Adds old new (take n piece)) (λ _. Stays old new)
  pub failed : new.failed ≡ write_failed result piece
