-- A loop over marks that tells what is left out: how it goes on, and how it ends.
use Rattle.std.proofs.Common.{◌≡◌, ◌+◌, ◌-◌, ◌<◌, ◌≤◌, ℕ, min, List, [], ◌∷◌, ◌++◌, length, take, drop, get_or}
use Rattle.std.proofs.Common.{append-nil, ap, arith, length-drop, refl, sym, ◌∙◌}
use Rattle.std.proofs.lemmas.List.{at_drop_all, at_drop_more, drop-map, length-map, take-map, take_rest}
use Rattle.page_comparison.specs.declared.differences.PageChange.TheVariants.{OnlyInOld, OnlyInNew}
use Rattle.page_comparison.specs.declared.differences.PageDifference.{PageDifference}
use Rattle.page_comparison.specs.declared.page.PlacedMark.{PlacedMark}
use Rattle.page_comparison.specs.declared.standing.Standing.{Standing}
use Rattle.page_comparison.specs.Kept.{Kept, kept_all, kept_with}
use Rattle.page_comparison.specs.Pages.{MadeMark, made_mark, made_marks}
use Rattle.page_comparison.specs.Told.{behind, difference_at, left_out, only_new, only_old, pair_told}
use Rattle.page_comparison.proofs.Keeping.{kept_all-append}

-- ---- parts of the marks of a page

module _ {A : Type 0} where
  pub rest_marks : (xs : List (PlacedMark A)) (i : ℕ) → made_marks (take (length xs - i) (drop i xs)) ≡ drop i (made_marks xs)
  rest_marks xs i = ap made_marks (take_rest xs i) ∙ sym (drop-map made_mark i xs)

  pub front_marks : (xs : List (PlacedMark A)) (i : ℕ) → made_marks (take i xs) ≡ take i (made_marks xs)
  front_marks xs i = sym (take-map made_mark i xs)

  pub few_marks : (xs : List (PlacedMark A)) → length (made_marks xs) ≡ length xs
  few_marks xs = length-map xs made_mark

-- ---- what is told of one page

-- F tells of each mark by D, and goes on where B leads
module _ {X : Type 0} (F : Standing → List X → List PageDifference) (D : Standing → X → PageDifference) (B : Standing → Standing)
    (opens : (at : Standing) (x : X) (xs : List X) → F at (x ∷ xs) ≡ D at x ∷ F (B at) xs) (none : (at : Standing) → F at [] ≡ [])
  where
    told_more : (xs : List X) (i : ℕ) (x : X) → i < length xs → x ≡ get_or xs i x → (at at' : Standing) → at' ≡ B at →
        (d : PageDifference) → d ≡ D at x → (k k' k0 : Kept) → k' ≡ kept_with d k → kept_all (F at (drop i xs)) k ≡ k0 →
        kept_all (F at' (drop (i + 1) xs)) k' ≡ k0
    told_more xs i x inside is at at' at_is d d_is k k' k0 k_is so_far =
        let rest : List X = drop (i + 1) xs in
        let first : F at (drop i xs) ≡ D at x ∷ F (B at) rest =
        at_drop_more (F at) xs i x inside ∙ (ap (λ y. F at (y ∷ rest)) (sym is) ∙ opens at x rest) in
        ap (λ s. kept_all (F s rest) k') at_is
        ∙ (ap (kept_all (F (B at) rest)) (k_is ∙ ap (λ e. kept_with e k) d_is)
        ∙ (sym (ap (λ l. kept_all l k) first) ∙ so_far))

    told_end : (xs : List X) (i : ℕ) → length xs ≤ i → (at : Standing) (k k0 : Kept) → kept_all (F at (drop i xs)) k ≡ k0 → k ≡ k0
    told_end xs i past at k k0 so_far =
        sym (ap (λ l. kept_all l k) (at_drop_all (F at) xs i past ∙ none at)) ∙ so_far

module _ {A : Type 0} (place : ℕ) where
  abbrev old_from : Standing → List (PlacedMark A) → List PageDifference
  old_from at xs = only_old place at (made_marks xs)

  abbrev new_from : Standing → List (PlacedMark A) → List PageDifference
  new_from at xs = only_new place at (made_marks xs)

  pub only_old_more : (xs : List (PlacedMark A)) (i : ℕ) (x : PlacedMark A) → i < length xs → x ≡ get_or xs i x →
      (at at' : Standing) → at' ≡ behind 1 0 at → (d : PageDifference) → d ≡ difference_at at x.place place OnlyInOld →
      (k k' k0 : Kept) → k' ≡ kept_with d k → kept_all (only_old place at (made_marks (drop i xs))) k ≡ k0 →
      kept_all (only_old place at' (made_marks (drop (i + 1) xs))) k' ≡ k0
  only_old_more =
      told_more old_from (λ at x. difference_at at x.place place OnlyInOld) (behind 1 0) (λ at x xs. refl) (λ at. refl)

  pub only_old_end : (xs : List (PlacedMark A)) (i : ℕ) → length xs ≤ i → (at : Standing) (k k0 : Kept) →
      kept_all (only_old place at (made_marks (drop i xs))) k ≡ k0 → k ≡ k0
  only_old_end =
      told_end old_from (λ at x. difference_at at x.place place OnlyInOld) (behind 1 0) (λ at x xs. refl) (λ at. refl)

  pub only_new_more : (xs : List (PlacedMark A)) (i : ℕ) (x : PlacedMark A) → i < length xs → x ≡ get_or xs i x →
      (at at' : Standing) → at' ≡ behind 0 1 at → (d : PageDifference) → d ≡ difference_at at place x.place OnlyInNew →
      (k k' k0 : Kept) → k' ≡ kept_with d k → kept_all (only_new place at (made_marks (drop i xs))) k ≡ k0 →
      kept_all (only_new place at' (made_marks (drop (i + 1) xs))) k' ≡ k0
  only_new_more =
      told_more new_from (λ at x. difference_at at place x.place OnlyInNew) (behind 0 1) (λ at x xs. refl) (λ at. refl)

  pub only_new_end : (xs : List (PlacedMark A)) (i : ℕ) → length xs ≤ i → (at : Standing) (k k0 : Kept) →
      kept_all (only_new place at (made_marks (drop i xs))) k ≡ k0 → k ≡ k0
  only_new_end =
      told_end new_from (λ at x. difference_at at place x.place OnlyInNew) (behind 0 1) (λ at x xs. refl) (λ at. refl)

-- ---- what is told pair by pair

-- where one of the lists has no more
left_out_end : (within old_place new_place : ℕ) (at : Standing) (old new : List MadeMark) → min (length old) (length new) ≡ 0 →
    left_out within old_place new_place at old new ≡ only_old new_place at old ++ only_new old_place at new
left_out_end within old_place new_place at [] new none = refl
left_out_end within old_place new_place at (a ∷ old) [] none = sym (append-nil (only_old new_place at (a ∷ old)))
left_out_end within old_place new_place at (a ∷ old) (b ∷ new) none = absurd (omega (arith, none))

module _ {A : Type 0} (within old_place new_place : ℕ) where
  pub pair_more : (xs ys : List (PlacedMark A)) (i : ℕ) (x y : PlacedMark A) → i < length xs → i < length ys →
      x ≡ get_or xs i x → y ≡ get_or ys i y → (at at' : Standing) → at' ≡ behind 1 1 at → (k k' k0 : Kept) →
      k' ≡ kept_all (pair_told within at (made_mark x) (made_mark y)) k →
      kept_all (left_out within old_place new_place at (made_marks (drop i xs)) (made_marks (drop i ys))) k ≡ k0 →
      kept_all (left_out within old_place new_place at' (made_marks (drop (i + 1) xs)) (made_marks (drop (i + 1) ys))) k' ≡ k0
  pair_more xs ys i x y in_xs in_ys x_is y_is at at' at_is k k' k0 k_is so_far =
      let xs' : List (PlacedMark A) = drop (i + 1) xs in
      let ys' : List (PlacedMark A) = drop (i + 1) ys in
      let F : Standing → List (PlacedMark A) → List (PlacedMark A) → List PageDifference =
      λ s l m. left_out within old_place new_place s (made_marks l) (made_marks m) in
      let first : F at (drop i xs) (drop i ys) ≡ F at (x ∷ xs') (y ∷ ys') =
      at_drop_more (λ l. F at l (drop i ys)) xs i x in_xs
      ∙ (ap (λ z. F at (z ∷ xs') (drop i ys)) (sym x_is)
      ∙ (at_drop_more (λ m. F at (x ∷ xs') m) ys i y in_ys ∙ ap (λ z. F at (x ∷ xs') (z ∷ ys')) (sym y_is))) in
      ap (λ s. kept_all (F s xs' ys') k') at_is
      ∙ (ap (kept_all (F (behind 1 1 at) xs' ys')) k_is
      ∙ (sym (kept_all-append (pair_told within at (made_mark x) (made_mark y)) (F (behind 1 1 at) xs' ys') k)
      ∙ (sym (ap (λ l. kept_all l k) first) ∙ so_far)))

  -- what one list has more is told behind the pairs
  pub pairs_end : (xs ys : List (PlacedMark A)) (pairs i : ℕ) → pairs ≡ min (length xs) (length ys) → i ≡ pairs →
      (at : Standing) (k k' k'' k0 : Kept) →
      k' ≡ kept_all (only_old new_place at (made_marks (take (length xs - pairs) (drop pairs xs)))) k →
      k'' ≡ kept_all (only_new old_place at (made_marks (take (length ys - pairs) (drop pairs ys)))) k' →
      kept_all (left_out within old_place new_place at (made_marks (drop i xs)) (made_marks (drop i ys))) k ≡ k0 → k'' ≡ k0
  pairs_end xs ys pairs i pairs_are here at k k' k'' k0 of_old of_new so_far =
      let one : List MadeMark = made_marks (drop pairs xs) in
      let other : List MadeMark = made_marks (drop pairs ys) in
      let none : min (length one) (length other) ≡ 0 =
      omega (
        arith,
        pairs_are,
        few_marks (drop pairs xs),
        few_marks (drop pairs ys),
        length-drop pairs xs,
        length-drop pairs ys,
      ) in
      of_new
      ∙ ((λ j. kept_all (only_new old_place at (made_marks (take_rest ys pairs j))) k')
      ∙ (ap (kept_all (only_new old_place at other))
      (of_old ∙ (λ j. kept_all (only_old new_place at (made_marks (take_rest xs pairs j))) k))
      ∙ (sym (kept_all-append (only_old new_place at one) (only_new old_place at other) k)
      ∙ (sym (ap (λ l. kept_all l k) (left_out_end within old_place new_place at one other none))
      ∙ (ap (λ n. kept_all (left_out within old_place new_place at (made_marks (drop n xs)) (made_marks (drop n ys))) k) (sym here)
      ∙ so_far)))))
