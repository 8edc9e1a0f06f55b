-- The search for where both pages go on alike.
use Rattle.std.proofs.Common.{◌≡◌, ◌+◌, ◌-◌, ◌<◌, ◌≤◌, ℕ, suc, Bool, true, false, List, [], ◌∷◌, ◌++◌, ◌&&◌, Option, None, Some}
use Rattle.std.proofs.Common.{ap, arith, cond, drop, find, leb, length, refl, sym, take, ◌∙◌}
use Rattle.std.proofs.lemmas.Bool.{le-leb, lt-leb}
use Rattle.page_comparison.specs.declared.page.PlacedMark.{PlacedMark}
use Rattle.page_comparison.specs.declared.turn.Turn.{Turn}
use Rattle.page_comparison.specs.InOrder.{go_alike, is_resumed, leaving, leavings, run_of, runs, splits, ways}
use Rattle.page_comparison.specs.Pages.{made_marks}
use Rattle.page_comparison.proofs.Steps.{few_marks, rest_marks}

-- ---- a list behind another

module _ {X : Type 0} (p : X → Bool) where
  find_behind : (xs ys : List X) → find p xs ≡ None → find p (xs ++ ys) ≡ find p ys
  find_behind [] ys e = refl
  find_behind (x ∷ xs) ys e = by_test (p x) (λ h. find_behind xs ys h) e
    where
      by_test : (t : Bool) → (find p xs ≡ None → find p (xs ++ ys) ≡ find p ys) → cond t (Some x) (find p xs) ≡ None →
          cond t (Some x) (find p (xs ++ ys)) ≡ find p ys
      by_test true rest h = absurd cc
      by_test false rest h = rest h

  find_before : (xs ys : List X) (y : X) → find p xs ≡ Some y → find p (xs ++ ys) ≡ Some y
  find_before [] ys y e = absurd cc
  find_before (x ∷ xs) ys y e = by_test (p x) (λ h. find_before xs ys y h) e
    where
      by_test : (t : Bool) → (find p xs ≡ Some y → find p (xs ++ ys) ≡ Some y) → cond t (Some x) (find p xs) ≡ Some y →
          cond t (Some x) (find p (xs ++ ys)) ≡ Some y
      by_test true rest h = h
      by_test false rest h = rest h

leavings_open : (together times : ℕ) → leavings together (suc times) ≡ splits 0 together ++ leavings (together + 1) times
unfolding leavings
leavings_open together times = refl

leavings_over : (together : ℕ) → leavings together 0 ≡ []
unfolding leavings
leavings_over together = refl

runs_open : (many times : ℕ) → runs many (suc times) ≡ run_of many ++ runs (many + 1) times
unfolding runs
runs_open many times = refl

runs_over : (many : ℕ) → runs many 0 ≡ []
unfolding runs
runs_over many = refl

-- L has the groups G, one behind another
module _ (G : ℕ → List Turn) (L : (from times : ℕ) → List Turn)
    (opens : (from times : ℕ) → L from (suc times) ≡ G from ++ L (from + 1) times) (over : (from : ℕ) → L from 0 ≡ [])
    (start : ℕ) (p : Turn → Bool) (before most : ℕ) (found : Option Turn) where
  next_group : before < most →
      L (before + start) (most - before) ≡ G (before + start) ++ L (before + 1 + start) (most - (before + 1))
  next_group inside =
      let more : most - before ≡ suc (most - (before + 1)) = omega (arith, inside) in
      let step : before + start + 1 ≡ before + 1 + start = omega arith in
      ap (L (before + start)) more
      ∙ (opens (before + start) (most - (before + 1)) ∙ ap (λ n. G (before + start) ++ L n (most - (before + 1))) step)

  -- in a group there is no way, and in the next one there may be
  group_more : before < most → None ≡ find p (G (before + start)) → find p (L (before + start) (most - before)) ≡ found →
      find p (L (before + 1 + start) (most - (before + 1))) ≡ found
  group_more inside none so_far =
      sym
      (ap (find p) (next_group inside)
      ∙ find_behind p (G (before + start)) (L (before + 1 + start) (most - (before + 1))) (sym none))
      ∙ so_far

  group_found : before < most → (turn : Turn) → Some turn ≡ find p (G (before + start)) →
      find p (L (before + start) (most - before)) ≡ found → Some turn ≡ found
  group_found inside turn is so_far =
      sym
      (ap (find p) (next_group inside)
      ∙ find_before p (G (before + start)) (L (before + 1 + start) (most - (before + 1))) turn (sym is))
      ∙ so_far

  group_end : most ≤ before → find p (L (before + start) (most - before)) ≡ found → None ≡ found
  group_end past so_far =
      let none : most - before ≡ 0 = omega (arith, past) in
      sym (ap (λ n. find p (L (before + start) n)) none ∙ ap (find p) (over (before + start))) ∙ so_far

module _ (p : Turn → Bool) (before most : ℕ) (found : Option Turn) where
  -- by so many together there is no way, and by one more there may be
  pub leaving_more : before < most → None ≡ find p (splits 0 (before + 1)) →
      find p (leavings (before + 1) (most - before)) ≡ found →
      find p (leavings (before + 1 + 1) (most - (before + 1))) ≡ found
  leaving_more = group_more (splits 0) leavings leavings_open leavings_over 1 p before most found

  pub leaving_found : before < most → (turn : Turn) → Some turn ≡ find p (splits 0 (before + 1)) →
      find p (leavings (before + 1) (most - before)) ≡ found → Some turn ≡ found
  leaving_found = group_found (splits 0) leavings leavings_open leavings_over 1 p before most found

  pub leaving_end : most ≤ before → find p (leavings (before + 1) (most - before)) ≡ found → None ≡ found
  leaving_end = group_end (splits 0) leavings leavings_open leavings_over 1 p before most found

  -- the same of one page alone
  pub run_more : before < most → None ≡ find p (run_of (before + 65)) → find p (runs (before + 65) (most - before)) ≡ found →
      find p (runs (before + 1 + 65) (most - (before + 1))) ≡ found
  run_more = group_more run_of runs runs_open runs_over 65 p before most found

  pub run_found : before < most → (turn : Turn) → Some turn ≡ find p (run_of (before + 65)) →
      find p (runs (before + 65) (most - before)) ≡ found → Some turn ≡ found
  run_found = group_found run_of runs runs_open runs_over 65 p before most found

  pub run_end : most ≤ before → find p (runs (before + 65) (most - before)) ≡ found → None ≡ found
  run_end = group_end run_of runs runs_open runs_over 65 p before most found

-- ---- all ways

ways_open : ways ≡ leavings 1 64 ++ runs 65 4032
unfolding ways
ways_open = refl

module _ (p : Turn → Bool) where
  pub way_found : (turn : Turn) → Some turn ≡ find p (leavings 1 64) → Some turn ≡ find p ways
  way_found turn is =
      sym (ap (find p) ways_open ∙ find_before p (leavings 1 64) (runs 65 4032) turn (sym is))

  pub way_among_runs : None ≡ find p (leavings 1 64) → find p (runs 65 4032) ≡ find p ways
  way_among_runs none =
      sym (ap (find p) ways_open ∙ find_behind p (leavings 1 64) (runs 65 4032) (sym none))

-- ---- so many together

module _ (p : Turn → Bool) (count together : ℕ) (found : Option Turn) where
  next_split : count < together →
      find p (splits count (together - count))
      ≡ cond (p (leaving count (together - count))) (Some (leaving count (together - count)))
      (find p (splits (count + 1) (together - (count + 1))))
  next_split inside =
      let more : together - count ≡ suc (together - (count + 1)) = omega (arith, inside) in
      ap (λ n. find p (splits count n)) more
      ∙ ap
      (λ n. cond (p (leaving count n)) (Some (leaving count n)) (find p (splits (count + 1) (together - (count + 1)))))
      (sym more)

  pub split_more : count < together → (t : Bool) → t ≡ p (leaving count (together - count)) → t ≡ false →
      find p (splits count (together - count)) ≡ found → find p (splits (count + 1) (together - (count + 1))) ≡ found
  split_more inside t is differs so_far =
      sym
      (next_split inside
      ∙ ap
      (λ b. cond b (Some (leaving count (together - count))) (find p (splits (count + 1) (together - (count + 1)))))
      (sym is ∙ differs))
      ∙ so_far

  pub split_found : count < together → (t : Bool) → t ≡ p (leaving count (together - count)) → t ≡ true →
      find p (splits count (together - count)) ≡ found → Some (leaving count (together - count)) ≡ found
  split_found inside t is near so_far =
      sym
      (next_split inside
      ∙ ap
      (λ b. cond b (Some (leaving count (together - count))) (find p (splits (count + 1) (together - (count + 1)))))
      (sym is ∙ near))
      ∙ so_far

  -- the last way leaves none of NEW out
  pub split_last : count ≤ together → together ≤ count → (t : Bool) → t ≡ p (leaving together 0) →
      find p (splits count (together - count)) ≡ found → cond t (Some (leaving together 0)) None ≡ found
  split_last within past t is so_far =
      let none : together - count ≡ 0 = omega (arith, past) in
      let here : count ≡ together = omega (arith, within, past) in
      ap (λ b. cond b (Some (leaving together 0)) None) is
      ∙ (sym (ap (λ n. find p (splits count n)) none ∙ ap (λ n. find p (splits n 0)) here) ∙ so_far)

-- ---- one way

module _ {A : Type 0} (within : ℕ) (xs ys : List (PlacedMark A)) (turn : Turn) where
  abbrev by_parts : Bool → Bool → Bool → Bool
  by_parts one other alike = one && other && alike

  abbrev alike : Bool
  alike = go_alike within (drop turn.old (made_marks xs)) (drop turn.new (made_marks ys))

  pub resumed_no_old : length xs < turn.old → false ≡ is_resumed within (made_marks xs) (made_marks ys) turn
  resumed_no_old few =
      sym
      (ap (λ n. by_parts (leb turn.old n) (leb turn.new (length (made_marks ys))) alike) (few_marks xs)
      ∙ ap (λ b. by_parts b (leb turn.new (length (made_marks ys))) alike) (lt-leb turn.old (length xs) few))

  pub resumed_no_new : turn.old ≤ length xs → length ys < turn.new →
      false ≡ is_resumed within (made_marks xs) (made_marks ys) turn
  resumed_no_new enough few =
      sym
      ((λ j. by_parts (leb turn.old (few_marks xs j)) (leb turn.new (few_marks ys j)) alike)
      ∙ (λ j. by_parts (le-leb turn.old (length xs) enough j) (lt-leb turn.new (length ys) few j) alike))

  pub resumed_by : turn.old ≤ length xs → turn.new ≤ length ys → (r : Bool) →
      r ≡ go_alike within (made_marks (take (length xs - turn.old) (drop turn.old xs)))
      (made_marks (take (length ys - turn.new) (drop turn.new ys))) →
      r ≡ is_resumed within (made_marks xs) (made_marks ys) turn
  resumed_by of_old of_new r is =
      is
      ∙ ((λ j. go_alike within (rest_marks xs turn.old j) (rest_marks ys turn.new j))
      ∙ sym
      ((λ j. by_parts (leb turn.old (few_marks xs j)) (leb turn.new (few_marks ys j)) alike)
      ∙ (λ j. by_parts (le-leb turn.old (length xs) of_old j) (le-leb turn.new (length ys) of_new j) alike)))
