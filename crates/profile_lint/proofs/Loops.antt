-- What a loop over a list appends, where each element appends something.
use Rattle.std.proofs.Common.{◌≡◌, ℕ, ◌+◌, ◌<◌, ◌≤◌, List, ◌++◌, flat_map, length, take, get_or, ap, ◌∙◌}
use Rattle.std.proofs.lemmas.List.{take_all}
use Rattle.shown_bytes.proofs.Further.{further}

-- one more, which is known by itself
pub further_item : {X A : Type 0} (f : X → List A) (xs : List X) (i : ℕ) (x : X) (old before after : List A) → i < length xs
    → x ≡ get_or xs i x → before ≡ old ++ flat_map f (take i xs) → after ≡ before ++ f x → after ≡ old ++ flat_map f (take (i + 1) xs)
further_item f xs i x old before after within is_x were is =
    further f xs i x old before after within were (is ∙ ap (λ y. before ++ f y) is_x)

-- all, at the end
pub of_all : {X A : Type 0} (f : X → List A) (xs : List X) (i : ℕ) (old now : List A) → length xs ≤ i
    → now ≡ old ++ flat_map f (take i xs) → now ≡ old ++ flat_map f xs
of_all f xs i old now all is = is ∙ ap (λ ys. old ++ flat_map f ys) (take_all i xs all)
