-- How the history of files grows.
use Rattle.std.proofs.Common.{◌≡◌, ◌∙◌, ◌++◌, ◌∷◌, ℕ, Bool, List, [], ap, append_assoc}
use Rattle.streams.specs.Outlet.{OutletState}
use Rattle.streams.specs.Source.{SourceState}
use Rattle.streams.specs.Used.{FileUse, TextsAt, read_at, written_at}

-- one file is read, at the path that a word is
pub one_read : (used used' : List FileUse) (path at : List ℕ) (job : SourceState)
    → at ≡ path → used' ≡ used ++ read_at at job ∷ [] → used' ≡ used ++ read_at path job ∷ []
one_read used used' path at job is more = more ∙ ap (λ (p : List ℕ). used ++ read_at p job ∷ []) is

-- one file is written
pub one_written : (used used' : List FileUse) (into to : List ℕ) (file : OutletState) (put : Bool)
    → to ≡ into → used' ≡ used ++ written_at to file put ∷ [] → used' ≡ used ++ written_at into file put ∷ []
one_written used used' into to file put is more = more ∙ ap (λ (p : List ℕ). used ++ written_at p file put ∷ []) is

-- the texts of some words are read, where none was asked for before
pub texts_read : (used used' : List FileUse) (before words texts asked : List (List ℕ)) (failed : Bool)
    → before ≡ [] → words ≡ before ++ asked → used' ≡ used ++ TextsAt words texts failed ∷ []
    → used' ≡ used ++ TextsAt asked texts failed ∷ []
texts_read used used' before words texts asked failed none are more =
    more
    ∙ ap (λ (w : List (List ℕ)). used ++ TextsAt w texts failed ∷ []) (are ∙ ap (λ (b : List (List ℕ)). b ++ asked) none)

-- behind one others
pub others_behind : (used between used' : List FileUse) (one : FileUse) (others : List FileUse)
    → between ≡ used ++ one ∷ [] → used' ≡ between ++ others → used' ≡ used ++ one ∷ others
others_behind used between used' one others first more =
    more ∙ ap (λ (u : List FileUse). u ++ others) first ∙ append_assoc used (one ∷ []) others

-- behind some files one more
pub one_behind : (used between used' front : List FileUse) (other : FileUse)
    → between ≡ used ++ front → used' ≡ between ++ other ∷ [] → used' ≡ used ++ (front ++ other ∷ [])
one_behind used between used' front other first more =
    more ∙ ap (λ (u : List FileUse). u ++ other ∷ []) first ∙ append_assoc used front (other ∷ [])

-- and then another one
pub one_more : (used between used' : List FileUse) (one other : FileUse)
    → between ≡ used ++ one ∷ [] → used' ≡ between ++ other ∷ [] → used' ≡ used ++ one ∷ other ∷ []
one_more used between used' one other first more =
    more ∙ ap (λ (u : List FileUse). u ++ other ∷ []) first ∙ append_assoc used (one ∷ []) (other ∷ [])
