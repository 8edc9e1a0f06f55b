-- What a latched reader or writer stands for.
use Rattle.std.specs.Prelude.{ℕ, List, Bool}

-- the reader or writer itself, what its reads gave, what its writes took, and whether it has failed
pub record LatchedState (T : Type 0) : Type 0 where
  pub inner : T
  pub given : List (List ℕ)
  pub taken : List ℕ
  pub has_failed : Bool
