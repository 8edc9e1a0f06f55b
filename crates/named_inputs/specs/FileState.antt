-- What the texts on this machine stand for.
use Rattle.std.specs.Prelude.{ℕ, List, Bool}

-- the words under which texts were asked for so far, the texts that were read, what the reads of the last one gave,
-- and whether a read has failed
pub record FileState : Type 0 where
  pub named : List (List ℕ)
  pub given : List (List ℕ)
  pub reads : List (List ℕ)
  pub has_failed : Bool
