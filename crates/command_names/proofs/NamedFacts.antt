-- Lemmas on the text and the name of a command among texts, and among chapters.
use Rattle.std.proofs.Common.{◌≡◌, ◌<◌, ◌≤◌, ◌+◌, ℕ, List, [], ◌∷◌, ◌++◌, map, drop, length, get_or, Bool, true, false, refl, sym, ◌∙◌}
use Rattle.std.proofs.Common.{Option, Some, None, ap, if◌then◌else◌}
use Rattle.std.proofs.lemmas.List.{drop_all, drop_more}
use Rattle.std.specs.List.{flat_map}
use Rattle.std.specs.Str.{bytes_eq}
use Rattle.command_names.specs.CommandNames.{key_of, name_of, named_by, text_by}

-- The text among those from one on is this one, if it has the key, or that among those behind it.
module _ {X : Type 0} (key : List ℕ) (f : X → List ℕ) (xs : List X) (i : ℕ) (d : X) (h : i < length xs) (has : Bool)
    (is : has ≡ bytes_eq (key_of (f (get_or xs i d))) key) where
  pub text_at : has ≡ true → text_by key (map f (drop i xs)) ≡ Some (f (get_or xs i d))
  text_at holds =
      ap (λ l. text_by key (map f l)) (drop_more xs i d h)
      ∙ ap (λ b. if b then Some (f (get_or xs i d)) else text_by key (map f (drop (i + 1) xs))) (sym is ∙ holds)

  pub text_behind : has ≡ false → text_by key (map f (drop i xs)) ≡ text_by key (map f (drop (i + 1) xs))
  text_behind fails =
      ap (λ l. text_by key (map f l)) (drop_more xs i d h)
      ∙ ap (λ b. if b then Some (f (get_or xs i d)) else text_by key (map f (drop (i + 1) xs))) (sym is ∙ fails)

pub text_past : {X : Type 0} (key : List ℕ) (f : X → List ℕ) (xs : List X) (i : ℕ) → length xs ≤ i →
    text_by key (map f (drop i xs)) ≡ None
text_past key f xs i h = ap (λ l. text_by key (map f l)) (drop_all i xs h)

-- ---- among chapters

-- the name of a text that was found, or else another
abbrev name_or : Option (List ℕ) → List ℕ → List ℕ
name_or None other = other
name_or (Some text) other = name_of text

-- the name is that among the first texts, if one of them has the key, or that among the others
named_in_two : (key : List ℕ) (texts others : List (List ℕ)) →
    named_by key (texts ++ others) ≡ name_or (text_by key texts) (named_by key others)
named_in_two key [] others = refl
named_in_two key (text ∷ texts) others =
    elim (bytes_eq (key_of text) key) as (λ b.
    (if b then name_of text else named_by key (texts ++ others))
    ≡ name_or (if b then Some text else text_by key texts) (named_by key others)) [
      | true ↦ refl
      | false ↦ named_in_two key texts others
    ]

-- The name among the texts of the chapters from one on is that of the text that this one has, or that among those behind it.
module _ {X : Type 0} (key : List ℕ) (f : X → List (List ℕ)) (xs : List X) (i : ℕ) (d : X) (h : i < length xs)
    (found : Option (List ℕ)) (is : found ≡ text_by key (f (get_or xs i d))) where
  named_from : named_by key (flat_map f (drop i xs)) ≡ name_or found (named_by key (flat_map f (drop (i + 1) xs)))
  named_from =
      ap (λ l. named_by key (flat_map f l)) (drop_more xs i d h)
      ∙ (named_in_two key (f (get_or xs i d)) (flat_map f (drop (i + 1) xs))
      ∙ ap (λ o. name_or o (named_by key (flat_map f (drop (i + 1) xs)))) (sym is))

  pub named_at : (text : List ℕ) → found ≡ Some text → named_by key (flat_map f (drop i xs)) ≡ name_of text
  named_at text e = named_from ∙ ap (λ o. name_or o (named_by key (flat_map f (drop (i + 1) xs)))) e

  pub named_behind : found ≡ None → named_by key (flat_map f (drop i xs)) ≡ named_by key (flat_map f (drop (i + 1) xs))
  named_behind e = named_from ∙ ap (λ o. name_or o (named_by key (flat_map f (drop (i + 1) xs)))) e

pub named_past : {X : Type 0} (key : List ℕ) (f : X → List (List ℕ)) (xs : List X) (i : ℕ) → length xs ≤ i →
    named_by key (flat_map f (drop i xs)) ≡ []
named_past key f xs i h = ap (λ l. named_by key (flat_map f l)) (drop_all i xs h)
