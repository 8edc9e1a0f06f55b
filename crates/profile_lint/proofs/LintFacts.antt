-- What is found in texts, one after another.
use Rattle.std.proofs.Common.{◌≡◌, ◌<◌, ◌+◌, ℕ, List, [], ◌∷◌, ◌++◌, flat_map, take, length, get_or, ap, refl, sym, ◌∙◌}
use Rattle.std.proofs.lemmas.List.{flat_map_more, take_more}
use Rattle.device_profile.specs.Printer.{Printer}
use Rattle.profile_lint.specs.Lint.{difference_text}

-- behind what comes of the elements before, what comes of one more
pub flat_more : {X A : Type 0} (f : X → List A) (xs : List X) (i : ℕ) (d : X) → i < length xs → d ≡ get_or xs i d →
    flat_map f (take i xs) ++ f d ≡ flat_map f (take (i + 1) xs)
flat_more f xs i d h is =
    ap (λ x. flat_map f (take i xs) ++ f x) is ∙ flat_map_more f [] (take i xs) (get_or xs i d) ∙ ap (flat_map f) (sym (take_more xs i d h))

-- what was found, and the first difference behind it
pub with_difference : (found found' : List ℕ) (words words' : List (List ℕ)) (printers printers' : List Printer) → found ≡ found' →
    words ≡ words' → printers ≡ printers'
    → found ++ difference_text words printers ≡ found' ++ difference_text words' printers'
with_difference found found' words words' printers printers' a b c = rw (a, b, c) refl
