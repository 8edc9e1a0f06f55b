-- The marks of NEW that are matched, and those that are not.
use Rattle.std.proofs.Common.{◌≡◌, ◌+◌, ◌<◌, ◌≤◌, ℕ, zero, suc, Bool, true, false, ◌&&◌, ◌||◌, List, [], ◌∷◌, ◌++◌, length}
use Rattle.std.proofs.Common.{Option, None, Some, add-zero, ap, arith, drop, get_or, if◌then◌else◌, map, max, nat_lt, option_map, refl}
use Rattle.std.proofs.Common.{replicate, set, slice_get, slice_set, sym, take, ◌==◌, ◌∙◌}
use Rattle.std.specs.List.{AllByRecursion, list_any}
use Rattle.std.proofs.lemmas.Bool.{eqb-true, le-ltb}
use Rattle.std.proofs.lemmas.List.{at_drop_all, at_drop_more, length-map, length-set}
use Rattle.std.proofs.lemmas.Option.{same_Some}
use Rattle.page_comparison.specs.declared.bag.Matched.{Matched}
use Rattle.page_comparison.specs.declared.differences.PageDifference.{PageDifference}
use Rattle.page_comparison.specs.declared.footprint.Footprint.{Footprint}
use Rattle.page_comparison.specs.declared.page.PlacedMark.{PlacedMark}
use Rattle.page_comparison.specs.declared.setting.Setting.{Setting}
use Rattle.page_comparison.specs.AnyOrder.{Matching, first_free, free_told, in_any_order, is_crossed, is_match}
use Rattle.page_comparison.specs.AnyOrder.{mark_told, matched_with, none_matched}
use Rattle.page_comparison.specs.Kept.{Kept, kept_all}
use Rattle.page_comparison.specs.Marks.{hides}
use Rattle.page_comparison.specs.Pages.{MadeMark, made_mark, made_marks}
use Rattle.page_comparison.proofs.Keeping.{kept_all-append}

-- ---- places in a list

drop_got : {X : Type 0} (xs : List X) (i : ℕ) (x : X) → slice_get xs i ≡ Some x → drop i xs ≡ x ∷ drop (i + 1) xs
drop_got [] i x e = absurd cc
drop_got (y ∷ ys) zero x e = let same : y ≡ x = same_Some y x e in ap (λ z. z ∷ ys) same
drop_got (y ∷ ys) (suc i) x e =
    let step : suc (i + 1) ≡ suc i + 1 = omega arith in drop_got ys i x e ∙ ap (λ n. x ∷ drop n (y ∷ ys)) step

moved_none : (found : Option ℕ) → option_map (λ i. i + 0) found ≡ found
moved_none None = refl
moved_none (Some i) = ap Some (add-zero i)

moved_twice : (n : ℕ) (found : Option ℕ) →
    option_map (λ i. i + 1) (option_map (λ i. i + n) found) ≡ option_map (λ i. i + (n + 1)) found
moved_twice n None = refl
moved_twice n (Some i) = let same : i + n + 1 ≡ i + (n + 1) = omega arith in ap Some same

moved_behind : (n : ℕ) (found : Option ℕ) →
    option_map (λ i. i + n) (option_map (λ i. i + 1) found) ≡ option_map (λ i. i + (n + 1)) found
moved_behind n None = refl
moved_behind n (Some i) = let same : i + 1 + n ≡ i + (n + 1) = omega arith in ap Some same

-- ---- the first mark that is free

module _ (within : ℕ) (a : MadeMark) where
  -- marks at the front that are matched are passed over
  free_behind : (n : ℕ) (new : List MadeMark) (taken : List Bool) → n ≤ length taken → length taken ≡ length new →
      take n taken ≡ replicate n true →
      first_free within a new taken ≡ option_map (λ i. i + n) (first_free within a (drop n new) (drop n taken))
  free_behind zero new taken inside long front = sym (moved_none (first_free within a new taken))
  free_behind (suc n) new [] inside long front = absurd (omega (arith, inside))
  free_behind (suc n) [] (t ∷ taken) inside long front = absurd (omega (arith, long))
  free_behind (suc n) (b ∷ new) (t ∷ taken) inside long front =
      let first : t ≡ true = cc in
      let rest : take n taken ≡ replicate n true = cc in
      let within_rest : n ≤ length taken = omega (arith, inside) in
      let long_rest : length taken ≡ length new = omega (arith, long) in
      let step : suc n ≡ n + 1 = omega arith in
      ap
      (λ s. if is_match within a b s then Some 0 else option_map (λ i. i + 1) (first_free within a new taken))
      first
      ∙ (ap (option_map (λ i. i + 1)) (free_behind n new taken within_rest long_rest rest)
      ∙ (moved_twice n (first_free within a (drop n new) (drop n taken))
      ∙ ap (λ m. option_map (λ i. i + m) (first_free within a (drop n new) (drop n taken))) (sym step)))

  module _ {A : Type 0} (xs : List (PlacedMark A)) (taken : List Bool) (p : ℕ) (x : PlacedMark A) (t : Bool) where
    free_at : p < length xs → x ≡ get_or xs p x → slice_get taken p ≡ Some t →
        first_free within a (made_marks (drop p xs)) (drop p taken)
        ≡ (if is_match within a (made_mark x) t then Some 0
        else option_map (λ i. i + 1) (first_free within a (made_marks (drop (p + 1) xs)) (drop (p + 1) taken)))
    free_at inside is got =
        at_drop_more (λ l. first_free within a (made_marks l) (drop p taken)) xs p x inside
        ∙ ((λ j. first_free within a (made_mark (sym is j) ∷ made_marks (drop (p + 1) xs)) (drop p taken))
        ∙ ap (first_free within a (made_mark x ∷ made_marks (drop (p + 1) xs))) (drop_got taken p t got))

    -- the mark at a place is no match, and the search goes on behind it
    pub free_more : p < length xs → x ≡ get_or xs p x → slice_get taken p ≡ Some t →
        is_match within a (made_mark x) t ≡ false → (found : Option ℕ) →
        found ≡ option_map (λ i. i + p) (first_free within a (made_marks (drop p xs)) (drop p taken)) →
        found ≡ option_map (λ i. i + (p + 1)) (first_free within a (made_marks (drop (p + 1) xs)) (drop (p + 1) taken))
    free_more inside is got differs found so_far =
        let rest : Option ℕ = first_free within a (made_marks (drop (p + 1) xs)) (drop (p + 1) taken) in
        so_far
        ∙ (ap (option_map (λ i. i + p))
        (free_at inside is got ∙ ap (λ m. if m then Some 0 else option_map (λ i. i + 1) rest) differs)
        ∙ moved_behind p rest)

    -- or it is one
    pub free_found : p < length xs → x ≡ get_or xs p x → slice_get taken p ≡ Some t →
        is_match within a (made_mark x) t ≡ true → (found : Option ℕ) →
        found ≡ option_map (λ i. i + p) (first_free within a (made_marks (drop p xs)) (drop p taken)) → Some p ≡ found
    free_found inside is got near found so_far =
        let rest : Option ℕ = first_free within a (made_marks (drop (p + 1) xs)) (drop (p + 1) taken) in
        let same : p ≡ 0 + p = omega arith in
        ap Some same
        ∙ sym
        (so_far
        ∙ ap (option_map (λ i. i + p))
        (free_at inside is got ∙ ap (λ m. if m then Some 0 else option_map (λ i. i + 1) rest) near))

  pub free_end : {A : Type 0} (xs : List (PlacedMark A)) (taken : List Bool) (p : ℕ) → length xs ≤ p → (found : Option ℕ) →
      found ≡ option_map (λ i. i + p) (first_free within a (made_marks (drop p xs)) (drop p taken)) → None ≡ found
  free_end xs taken p past found so_far =
      sym
      (so_far
      ∙ ap (option_map (λ i. i + p)) (at_drop_all (λ l. first_free within a (made_marks l) (drop p taken)) xs p past))

  pub free_start : {A : Type 0} (xs : List (PlacedMark A)) (taken : List Bool) (front : ℕ) → front ≤ length taken →
      length taken ≡ length xs → take front taken ≡ replicate front true →
      first_free within a (made_marks xs) taken
      ≡ option_map (λ i. i + front) (first_free within a (made_marks (drop front xs)) (drop front taken))
  free_start xs taken front inside long marked =
      free_behind front (made_marks xs) taken inside (long ∙ sym (length-map xs made_mark)) marked
      ∙ ap (λ l. option_map (λ i. i + front) (first_free within a l (drop front taken))) (drop_made front xs)
    where
      drop_made : {B : Type 0} (n : ℕ) (l : List (PlacedMark B)) → drop n (made_marks l) ≡ made_marks (drop n l)
      drop_made zero l = refl
      drop_made (suc n) [] = refl
      drop_made (suc n) (y ∷ l) = drop_made n l

-- ---- what is matched

pub matched_long : (a : MadeMark) (found : Option ℕ) (matching : Matching) →
    length (matched_with a found matching).taken ≡ length matching.taken
matched_long a None matching = refl
matched_long a (Some i) matching = length-set matching.taken i true

pub none_long : {A : Type 0} (xs : List (PlacedMark A)) → length (none_matched (made_marks xs)).taken ≡ length xs
none_long xs = length-map (made_marks xs) (λ mark. false) ∙ length-map xs made_mark

-- none is matched
pub none_marked : {A : Type 0} (xs : List (PlacedMark A)) → replicate (length xs) false ≡ map (λ mark. false) (made_marks xs)
none_marked [] = refl
none_marked (x ∷ xs) = ap (λ l. false ∷ l) (none_marked xs)

-- so many at the front are matched, where one at a place comes to be so
pub front_marked : (taken : List Bool) (front place : ℕ) → front ≤ length taken → place < length taken →
    take front taken ≡ replicate front true →
    (n : ℕ) → n ≡ (if place == front then front + 1 else front) →
    (n ≤ length (slice_set taken place true)) × (take n (slice_set taken place true) ≡ replicate n true)
front_marked taken front place inside here marked n n_is = by_test (place == front) refl
  where
    kept : (m : ℕ) (l : List Bool) (i : ℕ) → take m l ≡ replicate m true → take m (set l i true) ≡ replicate m true
    kept zero l i e = refl
    kept (suc m) [] i e = absurd cc
    kept (suc m) (t ∷ l) zero e = let rest : take m l ≡ replicate m true = cc in ap (λ r. true ∷ r) rest
    kept (suc m) (t ∷ l) (suc i) e =
        let first : t ≡ true = cc in
        let rest : take m l ≡ replicate m true = cc in
        λ j. first j ∷ kept m l i rest j

    grown_by : (m : ℕ) (l : List Bool) → m < length l → take m l ≡ replicate m true →
        take (suc m) (set l m true) ≡ replicate (suc m) true
    grown_by m [] lt e = absurd (omega (arith, lt))
    grown_by zero (t ∷ l) lt e = refl
    grown_by (suc m) (t ∷ l) lt e =
        let first : t ≡ true = cc in
        let rest : take m l ≡ replicate m true = cc in
        let inside' : m < length l = omega (arith, lt) in
        λ j. first j ∷ grown_by m l inside' rest j

    grown : (m : ℕ) (l : List Bool) → m < length l → take m l ≡ replicate m true →
        take (m + 1) (set l m true) ≡ replicate (m + 1) true
    grown m l lt e =
        let step : m + 1 ≡ suc m = omega arith in
        ap (λ n. take n (set l m true)) step ∙ (grown_by m l lt e ∙ ap (λ n. replicate n true) (sym step))

    by_test : (t : Bool) → (place == front) ≡ t →
        (n ≤ length (slice_set taken place true)) × (take n (slice_set taken place true) ≡ replicate n true)
    by_test true e =
        let same : place ≡ front = eqb-true place front e in
        let n_grown : n ≡ front + 1 = n_is ∙ ap (λ b. if b then front + 1 else front) e in
        let long = length-set taken place true in
        let room : front < length taken = omega (arith, here, same) in (
          omega (arith, n_grown, long, here, same),
          (λ j. take (n_grown j) (slice_set taken (same j) true))
              ∙ (grown front taken room marked ∙ ap (λ m. replicate m true) (sym n_grown)),
        )
    by_test false e =
        let n_same : n ≡ front = n_is ∙ ap (λ b. if b then front + 1 else front) e in
        let long = length-set taken place true in (
          omega (arith, n_same, long, inside),
          ap (λ m. take m (slice_set taken place true)) n_same
              ∙ (kept front taken place marked ∙ ap (λ m. replicate m true) (sym n_same)),
        )

-- ---- which marks are crossed

-- all that are matched stand before a place
abbrev pub AreBefore : ℕ → List Matched → Type 0
AreBefore beyond earlier = AllByRecursion (λ (m : Matched). m.new < beyond) earlier

pub before_more : (beyond beyond' : ℕ) (earlier : List Matched) (place : ℕ) (footprint : Footprint) →
    beyond' ≡ max beyond (place + 1) → AreBefore beyond earlier →
    AreBefore beyond' (earlier ++ record { new = place; footprint = footprint } ∷ [])
before_more beyond beyond' [] place footprint is h = (omega (arith, is), tt)
before_more beyond beyond' (m ∷ earlier) place footprint is h =
    (omega (arith, is, h.0), before_more beyond beyond' earlier place footprint is h.1)

-- what stands before a place crosses nothing there
pub none_crossed : (beyond place : ℕ) (footprint : Footprint) (earlier : List Matched) → beyond ≤ place + 1 → AreBefore beyond earlier →
    false ≡ list_any (is_crossed place footprint) earlier
none_crossed beyond place footprint [] few h = refl
none_crossed beyond place footprint (m ∷ earlier) few h =
    let behind : m.new ≤ place = omega (arith, few, h.0) in
    let test : nat_lt place m.new ≡ false = le-ltb place m.new behind in
    sym
    (ap (λ b. (b && hides m.footprint footprint) || list_any (is_crossed place footprint) earlier) test
    ∙ sym (none_crossed beyond place footprint earlier few h.1))

-- ---- what is told

module _ {A : Type 0} (setting : Setting) (xs : List (PlacedMark A)) where
  -- a mark of OLD more
  pub mark_more : (ys : List (PlacedMark A)) (i : ℕ) (y : PlacedMark A) → i < length ys → y ≡ get_or ys i y →
      (matching matching' : Matching) (k k' k0 : Kept) →
      k' ≡ kept_all
      (mark_told setting (made_marks xs) (i + 1) (made_mark y) matching.earlier
      (first_free setting.within (made_mark y) (made_marks xs) matching.taken)) k →
      matching' ≡ matched_with (made_mark y) (first_free setting.within (made_mark y) (made_marks xs) matching.taken) matching →
      kept_all (in_any_order setting (made_marks xs) (i + 1) matching (made_marks (drop i ys))) k ≡ k0 →
      kept_all (in_any_order setting (made_marks xs) (i + 1 + 1) matching' (made_marks (drop (i + 1) ys))) k' ≡ k0
  mark_more ys i y inside is matching matching' k k' k0 k_is m_is so_far =
      let new : List MadeMark = made_marks xs in
      let found : Option ℕ = first_free setting.within (made_mark y) new matching.taken in
      let rest : List MadeMark = made_marks (drop (i + 1) ys) in
      let first : List PageDifference = mark_told setting new (i + 1) (made_mark y) matching.earlier found in
      let later : List PageDifference = in_any_order setting new (i + 1 + 1) (matched_with (made_mark y) found matching) rest in
      let opened : in_any_order setting new (i + 1) matching (made_marks (drop i ys)) ≡ first ++ later =
      at_drop_more (λ l. in_any_order setting new (i + 1) matching (made_marks l)) ys i y inside
      ∙ ap (λ z. in_any_order setting new (i + 1) matching (made_mark z ∷ rest)) (sym is) in
      (λ j. kept_all (in_any_order setting new (i + 1 + 1) (m_is j) rest) (k_is j))
      ∙ (sym (kept_all-append first later k)
      ∙ (sym (ap (λ l. kept_all l k) opened) ∙ so_far))

  -- none more
  pub mark_end : (ys : List (PlacedMark A)) (i : ℕ) → length ys ≤ i → i ≤ length ys → (matching : Matching) (k k' k0 : Kept) →
      k' ≡ kept_all (free_told setting (length ys + 1) 1 (made_marks xs) matching.taken) k →
      kept_all (in_any_order setting (made_marks xs) (i + 1) matching (made_marks (drop i ys))) k ≡ k0 → k' ≡ k0
  mark_end ys i past within matching k k' k0 k_is so_far =
      let here : length ys ≡ i = omega (arith, past, within) in
      k_is
      ∙ (ap (λ n. kept_all (free_told setting (n + 1) 1 (made_marks xs) matching.taken) k) here
      ∙ (sym (ap (λ l. kept_all l k) (at_drop_all (λ l. in_any_order setting (made_marks xs) (i + 1) matching (made_marks l)) ys i past))
      ∙ so_far))

  -- a mark of NEW more
  pub free_told_more : (old_mark : ℕ) (taken : List Bool) (i : ℕ) (x : PlacedMark A) (t : Bool) → i < length xs →
      x ≡ get_or xs i x → slice_get taken i ≡ Some t → (k k' k0 : Kept) →
      k' ≡ kept_all (free_told setting old_mark (i + 1) (made_mark x ∷ []) (t ∷ [])) k →
      kept_all (free_told setting old_mark (i + 1) (made_marks (drop i xs)) (drop i taken)) k ≡ k0 →
      kept_all (free_told setting old_mark (i + 1 + 1) (made_marks (drop (i + 1) xs)) (drop (i + 1) taken)) k' ≡ k0
  free_told_more old_mark taken i x t inside is got k k' k0 k_is so_far =
      let rest : List MadeMark = made_marks (drop (i + 1) xs) in
      let more : List Bool = drop (i + 1) taken in
      let opened :
      free_told setting old_mark (i + 1) (made_marks (drop i xs)) (drop i taken)
      ≡ free_told setting old_mark (i + 1) (made_mark x ∷ rest) (t ∷ more) =
      at_drop_more (λ l. free_told setting old_mark (i + 1) (made_marks l) (drop i taken)) xs i x inside
      ∙ ((λ j. free_told setting old_mark (i + 1) (made_mark (sym is j) ∷ rest) (drop i taken))
      ∙ ap (free_told setting old_mark (i + 1) (made_mark x ∷ rest)) (drop_got taken i t got)) in
      ap (kept_all (free_told setting old_mark (i + 1 + 1) rest more)) k_is
      ∙ (by_taken t rest more
      ∙ (sym (ap (λ l. kept_all l k) opened) ∙ so_far))
    where
      by_taken : (s : Bool) (rest : List MadeMark) (more : List Bool) →
          kept_all (free_told setting old_mark (i + 1 + 1) rest more)
          (kept_all (free_told setting old_mark (i + 1) (made_mark x ∷ []) (s ∷ [])) k)
          ≡ kept_all (free_told setting old_mark (i + 1) (made_mark x ∷ rest) (s ∷ more)) k
      by_taken true rest more = refl
      by_taken false rest more = refl

  pub free_told_end : (old_mark : ℕ) (taken : List Bool) (i : ℕ) → length xs ≤ i → (k k0 : Kept) →
      kept_all (free_told setting old_mark (i + 1) (made_marks (drop i xs)) (drop i taken)) k ≡ k0 → k ≡ k0
  free_told_end old_mark taken i past k k0 so_far =
      sym
      (ap (λ l. kept_all l k) (at_drop_all (λ l. free_told setting old_mark (i + 1) (made_marks l) (drop i taken)) xs i past))
      ∙ so_far
