-- What the writing of a text leaves.
use Rattle.std.specs.Prelude.{◌≡◌, ℕ, List, [], ◌++◌, IsFalse, Result, Ok, Err}
use Rattle.streams.specs.Outlet.{OutletState, Adds, AddsFront}

-- some front of the text was taken, and nothing else; and all of it unless a write failed
pub record Writes (old new : OutletState) (text : List ℕ) : Type 0 where
  pub front : AddsFront old new text
  pub whole : IsFalse new.failed → Adds old new text

-- So much text was put: what was kept, and the text, is what was written, and what is kept.
pub record Puts (old new : OutletState) (kept kept' text : List ℕ) : Type 0 where
  pub front : List ℕ
  pub adds : Adds old new front
  pub split : kept ++ text ≡ front ++ kept'

-- the text that was kept was put, or some front of it was written
abbrev pub PutsKept : {T E : Type 0} → OutletState → OutletState → List ℕ → List ℕ → Result T E → Type 0
PutsKept old new kept kept' (Ok x) = Puts old new kept kept' []
PutsKept old new kept kept' (Err e) = AddsFront old new kept
