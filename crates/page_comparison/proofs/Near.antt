-- Tests of marks.
use Rattle.std.proofs.Common.{◌≡◌, ℕ, false, List, [], ◌∷◌, Decides, refl}
use Rattle.std.proofs.lemmas.Bool.{false≢true}
use Rattle.std.proofs.lemmas.Bool.Decides.{Decides-and, Decides-eqb, Decides-like}
use Rattle.sinks.specs.Same.{are_same_bytes}

never : {P : Type 0} → (P → ⊥) → Decides false P
never refuted = (λ h. absurd (false≢true h), λ p. absurd (refuted p))

pub bytes_decide : (xs ys : List ℕ) → Decides (are_same_bytes xs ys) (xs ≡ ys)
bytes_decide [] [] = (λ h. refl, λ e. refl)
bytes_decide [] (y ∷ ys) = never (λ e. cc)
bytes_decide (x ∷ xs) [] = never (λ e. cc)
bytes_decide (x ∷ xs) (y ∷ ys) =
    Decides-like _ (λ h. λ i. h.0 i ∷ h.1 i) (λ e. (cc, cc)) (Decides-and _ _ (Decides-eqb x y) (bytes_decide xs ys))
