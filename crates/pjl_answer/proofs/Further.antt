-- What a further element of a list gives.
use Rattle.std.proofs.Common.{◌≡◌, ℕ, ◌+◌, ◌<◌, List, [], ◌∷◌, ◌++◌, length, take, get_or, Option, None, Some, refl, sym, ap, ◌∙◌}
use Rattle.std.proofs.Common.{append_assoc}
use Rattle.std.specs.List.{cons_option, filter_map}
use Rattle.std.specs.Option.{option_to_list}
use Rattle.std.proofs.lemmas.List.{take_more}
use Rattle.std.proofs.lemmas.List.Elements.{filter_map-append}

alone : {Y : Type 0} (given : Option Y) → cons_option given [] ≡ option_to_list given
alone None = refl
alone (Some y) = refl

-- it stands behind what the elements before it give
pub further : {X Y : Type 0} (h : X → Option Y) (xs : List X) (k : ℕ) (d : X) (before old new : List Y) → k < length xs
    → old ≡ before ++ filter_map h (take k xs) → new ≡ old ++ option_to_list (h (get_or xs k d))
    → new ≡ before ++ filter_map h (take (k + 1) xs)
further {Y} h xs k d before old new within were is =
    let given : List Y = filter_map h (take k xs) in
    is
    ∙ ap (λ (l : List Y). l ++ option_to_list (h (get_or xs k d))) were
    ∙ append_assoc before given (option_to_list (h (get_or xs k d)))
    ∙ ap (λ (l : List Y). before ++ l)
    (sym (ap (filter_map h) (take_more xs k d within)
    ∙ filter_map-append h (take k xs) (get_or xs k d ∷ [])
    ∙ ap (λ (l : List Y). given ++ l) (alone (h (get_or xs k d)))))
