-- What a further element of a list appends, where each appends something.
use Rattle.std.proofs.Common.{◌≡◌, ℕ, ◌+◌, ◌<◌, List, ◌++◌, flat_map, length, take, get_or, sym, ap, ◌∙◌}
use Rattle.std.proofs.lemmas.List.{flat_map_more, take_more}

-- it stands behind what the elements before it append
pub further : {X A : Type 0} (f : X → List A) (xs : List X) (i : ℕ) (d : X) (old before after : List A) → i < length xs
    → before ≡ old ++ flat_map f (take i xs) → after ≡ before ++ f (get_or xs i d) → after ≡ old ++ flat_map f (take (i + 1) xs)
further {X} {A} f xs i d old before after within were is =
    is
    ∙ ap (λ (l : List A). l ++ f (get_or xs i d)) were
    ∙ flat_map_more f old (take i xs) (get_or xs i d)
    ∙ ap (λ (ys : List X). old ++ flat_map f ys) (sym (take_more xs i d within))
