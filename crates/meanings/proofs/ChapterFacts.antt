-- Lemmas on what is told of the commands of chapters, one chapter behind another.
use Rattle.std.proofs.Common.{◌≡◌, ◌<◌, ◌≤◌, ◌+◌, ℕ, List, [], ◌∷◌, ◌++◌, map, take, length, get_or, append-nil, Bool, true, refl}
use Rattle.std.proofs.Common.{◌||◌, sym, ◌∙◌, ap, subst}
use Rattle.std.specs.Prelude.{filter}
use Rattle.std.proofs.lemmas.List.{map-append, take_all}
use Rattle.std.proofs.lemmas.List.Elements.{filter-append}
use Rattle.std.proofs.lemmas.List.Folds.{concat-append, list_any-append}
use Rattle.std.specs.List.{concat, flat_map, list_any}
use Rattle.streams.specs.Outlet.{OutletState, Adds, AddsFront}
use Rattle.streams.specs.Writing.{Writes}
use Rattle.requests.proofs.Writing.{Writes-cut, pieces_more}

-- a test of the texts of chapters
pub any_of_chapters : {X : Type 0} (p : List ℕ → Bool) (f : X → List (List ℕ)) (xs : List X) →
    list_any p (flat_map f xs) ≡ list_any (λ x. list_any p (f x)) xs
any_of_chapters p f [] = refl
any_of_chapters p f (x ∷ xs) =
    list_any-append p (f x) (flat_map f xs) ∙ ap (λ b. list_any p (f x) || b) (any_of_chapters p f xs)

-- ---- what is written of texts: h, which joins what is written of two parts of them

pub lines_join : (line : List ℕ → List ℕ) (texts others : List (List ℕ)) →
    concat (map line (texts ++ others)) ≡ concat (map line texts) ++ concat (map line others)
lines_join line texts others = ap concat (map-append line texts others) ∙ concat-append (map line texts) (map line others)

pub asked_join : (p : List ℕ → Bool) (texts others : List (List ℕ)) →
    concat (filter p (texts ++ others)) ≡ concat (filter p texts) ++ concat (filter p others)
asked_join p texts others = ap concat (filter-append p texts others) ∙ concat-append (filter p texts) (filter p others)

module _ {X : Type 0} (h : List (List ℕ) → List ℕ) (empty : h [] ≡ [])
    (joins : (texts others : List (List ℕ)) → h (texts ++ others) ≡ h texts ++ h others) (f : X → List (List ℕ)) where
  by_chapters : (xs : List X) → concat (map (λ x. h (f x)) xs) ≡ h (flat_map f xs)
  by_chapters [] = sym empty
  by_chapters (x ∷ xs) = ap (λ l. h (f x) ++ l) (by_chapters xs) ∙ sym (joins (f x) (flat_map f xs))

  -- the writer failed within one more chapter
  pub chapters_cut : (xs : List X) (i : ℕ) (d : X) (a b c : OutletState) → i < length xs → c.failed ≡ true →
      Adds a b (concat (map (λ x. h (f x)) (take i xs))) → (texts : List (List ℕ)) → texts ≡ f (get_or xs i d) →
      AddsFront b c (h texts) → Writes a c (h (flat_map f xs))
  chapters_cut xs i d a b c lt failure before texts is cut =
      subst (Writes a c) (by_chapters xs)
      (Writes-cut (λ x. h (f x)) xs i d a b c lt failure before (subst (λ l. AddsFront b c (h l)) is cut))

  -- one more chapter was written whole
  pub chapters_more : (xs : List X) (i : ℕ) (d : X) (a b c : OutletState) → i < length xs →
      Adds a b (concat (map (λ x. h (f x)) (take i xs))) → (texts : List (List ℕ)) → texts ≡ f (get_or xs i d) →
      Adds b c (h texts) → Adds a c (concat (map (λ x. h (f x)) (take (i + 1) xs)))
  chapters_more xs i d a b c lt before texts is more =
      pieces_more (λ x. h (f x)) xs i d a b c lt before (subst (λ l. Adds b c (h l)) is more)

  -- all chapters were written
  pub chapters_whole : (xs : List X) (i : ℕ) (a b : OutletState) → length xs ≤ i →
      Adds a b (concat (map (λ x. h (f x)) (take i xs))) → Writes a b (h (flat_map f xs))
  chapters_whole xs i a b le all =
      let text : List ℕ = h (flat_map f xs) in
      let adds : Adds a b text =
      subst (Adds a b) (ap (λ l. concat (map (λ x. h (f x)) l)) (take_all i xs le) ∙ by_chapters xs) all in
      record { front = (text, [], sym (append-nil text), adds); whole = λ working. adds }
