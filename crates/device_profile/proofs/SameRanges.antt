-- Ranges of codes that are the same one by one.
use Rattle.std.proofs.Common.{◌≡◌, ◌==◌, ◌&&◌, Bool, false, List, [], ◌∷◌, refl, ap}
use Rattle.std.specs.Bool.{Decides}
use Rattle.std.specs.Cmp.Lexicographic.{pointwise}
use Rattle.std.proofs.lemmas.Bool.{false≢true}
use Rattle.std.proofs.lemmas.Bool.Decides.{Decides-eqb, Decides-like, Decides-and}
use Rattle.device_profile.specs.declared.font.CodeRange.{CodeRange}

abbrev is_same_range : CodeRange → CodeRange → Bool
is_same_range a b = (a.first == b.first) && (a.last == b.last)

range_decides : (a b : CodeRange) → Decides (is_same_range a b) (a ≡ b)
range_decides a b =
    Decides-like _ (λ h. λ i. record { first = h.0 i; last = h.1 i })
    (λ e. (ap (λ (r : CodeRange). r.first) e, ap (λ (r : CodeRange). r.last) e))
    (Decides-and _ _ (Decides-eqb a.first b.first) (Decides-eqb a.last b.last))

never : {P : Type 0} → (P → ⊥) → Decides false P
never refuted = (λ h. absurd (false≢true h), λ p. absurd (refuted p))

pub ranges_decide : (xs ys : List CodeRange) → Decides (pointwise is_same_range xs ys) (xs ≡ ys)
ranges_decide [] [] = (λ h. refl, λ e. refl)
ranges_decide [] (y ∷ ys) = never (λ e. cc)
ranges_decide (x ∷ xs) [] = never (λ e. cc)
ranges_decide (x ∷ xs) (y ∷ ys) =
    Decides-like _ (λ h. λ i. h.0 i ∷ h.1 i) (λ e. (cc, cc)) (Decides-and _ _ (range_decides x y) (ranges_decide xs ys))
