-- What reads gave, and which bytes it leaves possible.
use Rattle.std.specs.Prelude.{◌≡◌, ℕ, List, [], ◌∷◌, ◌++◌, IfSome, ⊤}
use Rattle.streams.specs.Source.{SourceState}

-- A job may be this one where reads gave these pieces: it begins with them in their order, and is
-- over where one is empty. What no read has come to may be anything.
abbrev pub MayBeBy : List (List ℕ) → List ℕ → Type 0
MayBeBy [] job = ⊤
MayBeBy ([] ∷ pieces) job = job ≡ []
MayBeBy ((byte ∷ bytes) ∷ pieces) job =
    (more : List ℕ) × (job ≡ (byte ∷ bytes) ++ more) × MayBeBy pieces more

-- Of what reads gave between old and new: every job that may be by it has this fact, and a job that
-- was known is one of these.
pub record ByReads (old new : SourceState) (P : List ℕ → Type 0) : Type 0 where
  pub pieces : List (List ℕ)
  pub given : new.given ≡ old.given ++ pieces
  pub each : (job : List ℕ) → MayBeBy pieces job → P job
  pub known : IfSome old.remaining (MayBeBy pieces)

-- a read between old and new found an end
abbrev pub HasEnd : SourceState → SourceState → Type 0
HasEnd old new =
    (front : List (List ℕ)) × (later : List (List ℕ))
    × (new.given ≡ old.given ++ (front ++ [] ∷ later))

-- these pieces are these bytes, and none is empty
pub record Spell (pieces : List (List ℕ)) (bytes : List ℕ) : Type 0 where
  pub leads : (later : List (List ℕ)) (job : List ℕ) → MayBeBy (pieces ++ later) job →
      (more : List ℕ) × (job ≡ bytes ++ more) × MayBeBy later more
  pub led : (later : List (List ℕ)) (more : List ℕ) → MayBeBy later more →
      MayBeBy (pieces ++ later) (bytes ++ more)
