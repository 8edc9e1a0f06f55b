-- The turns of two pages in their order.
use Rattle.std.proofs.Common.{◌≡◌, ◌+◌, ◌-◌, ◌<◌, ◌≤◌, ℕ, suc, Bool, true, false, List, [], ◌∷◌, ◌++◌, length, take, drop, get_or}
use Rattle.std.proofs.Common.{ap, arith, if◌then◌else◌, refl, sym, ◌∙◌}
use Rattle.std.proofs.lemmas.List.{nil_from_length, take_rest}
use Rattle.page_comparison.specs.declared.differences.PageDifference.{PageDifference}
use Rattle.page_comparison.specs.declared.page.PlacedMark.{PlacedMark}
use Rattle.page_comparison.specs.declared.setting.Setting.{Setting}
use Rattle.page_comparison.specs.declared.standing.Standing.{Standing}
use Rattle.page_comparison.specs.declared.turn.Turn.{Turn}
use Rattle.page_comparison.specs.InOrder.{all_in_order, in_order, leaving, nearest, next_near, turn_of, turn_told}
use Rattle.page_comparison.specs.Kept.{Kept, kept_all}
use Rattle.page_comparison.specs.Marks.{is_near_mark}
use Rattle.page_comparison.specs.Pages.{MadeMark, made_mark, made_marks}
use Rattle.page_comparison.specs.Told.{behind, first_standing, left_out, next_place}
use Rattle.page_comparison.proofs.Keeping.{kept_all-append}
use Rattle.page_comparison.proofs.Steps.{few_marks, front_marks, rest_marks}

-- ---- a turn behind another

-- a turn over near marks tells nothing
pub turn_passed : (setting : Setting) (at : Standing) (old new : List MadeMark) (turn : Turn) (k : Kept) → turn.same ≡ true →
    k ≡ kept_all (turn_told setting at old new turn) k
turn_passed setting at old new turn k same =
    let left : List PageDifference =
    left_out setting.within (next_place setting.old_end (drop turn.old old)) (next_place setting.new_end (drop turn.new new)) at
    (take turn.old old) (take turn.new new) in
    ap (λ (t : Bool). kept_all (if t then [] else left) k) (sym same)

module _ {A : Type 0} (setting : Setting) where
  pub turn_more : (turns i : ℕ) → i < turns → (xs ys : List (PlacedMark A)) (turn : Turn) (at at' : Standing) (k k' k0 : Kept) →
      turn ≡ turn_of setting.within (made_marks xs) (made_marks ys) →
      k' ≡ kept_all (turn_told setting at (made_marks xs) (made_marks ys) turn) k → at' ≡ behind turn.old turn.new at →
      kept_all (in_order setting (turns - i) at (made_marks xs) (made_marks ys)) k ≡ k0 →
      kept_all
      (in_order setting (turns - (i + 1)) at' (made_marks (take (length xs - turn.old) (drop turn.old xs)))
      (made_marks (take (length ys - turn.new) (drop turn.new ys)))) k'
      ≡ k0
  turn_more turns i inside xs ys turn at at' k k' k0 turn_is k_is at_is so_far =
      let n : ℕ = turns - (i + 1) in
      let more : turns - i ≡ suc (turns - (i + 1)) = omega (arith, inside) in
      let old : List MadeMark = made_marks xs in
      let new : List MadeMark = made_marks ys in
      let first : List PageDifference = turn_told setting at old new turn in
      let rest : List PageDifference = in_order setting n (behind turn.old turn.new at) (drop turn.old old) (drop turn.new new) in
      let opened : in_order setting (turns - i) at old new ≡ first ++ rest =
      ap (λ m. in_order setting m at old new) more
      ∙ ap
      (λ (u : Turn). turn_told setting at old new u
      ++ in_order setting n (behind u.old u.new at) (drop u.old old) (drop u.new new))
      (sym turn_is) in
      (λ j. kept_all (in_order setting n (at_is j) (rest_marks xs turn.old j) (rest_marks ys turn.new j)) k')
      ∙ (ap (kept_all rest) k_is
      ∙ (sym (kept_all-append first rest k)
      ∙ (sym (ap (λ l. kept_all l k) opened) ∙ so_far)))

  pub turn_none : (turns : ℕ) (at : Standing) (xs ys : List (PlacedMark A)) (k : Kept) →
      kept_all (in_order setting (turns - 0) at (made_marks xs) (made_marks ys)) k
      ≡ kept_all (in_order setting turns at (made_marks xs) (made_marks ys)) k
  turn_none turns at xs ys k =
      let same : turns - 0 ≡ turns = omega arith in
      ap (λ n. kept_all (in_order setting n at (made_marks xs) (made_marks ys)) k) same

  pub turn_end : (turns i : ℕ) → turns ≤ i → (xs ys : List (PlacedMark A)) (at : Standing) (k k0 : Kept) →
      kept_all (in_order setting (turns - i) at (made_marks xs) (made_marks ys)) k ≡ k0 → k ≡ k0
  turn_end turns i past xs ys at k k0 so_far =
      let none : turns - i ≡ 0 = omega (arith, past) in
      sym (ap (λ n. kept_all (in_order setting n at (made_marks xs) (made_marks ys)) k) none) ∙ so_far

  -- all turns of two pages
  pub turns_all : (xs ys : List (PlacedMark A)) (at : Standing) (k : Kept) → at ≡ first_standing setting.page →
      kept_all (in_order setting (length xs + length ys) at (made_marks xs) (made_marks ys)) k
      ≡ kept_all (all_in_order setting (made_marks xs) (made_marks ys)) k
  turns_all xs ys at k at_is =
      λ j. kept_all
      (in_order setting (sym (few_marks xs) j + sym (few_marks ys) j) (at_is j) (made_marks xs) (made_marks ys)) k

  -- what a turn leaves out
  pub turn_left : (at : Standing) (xs ys : List (PlacedMark A)) (turn : Turn) (old_place new_place : ℕ) (k k' : Kept) →
      turn.same ≡ false →
      old_place ≡ next_place setting.old_end (made_marks (take (length xs - turn.old) (drop turn.old xs))) →
      new_place ≡ next_place setting.new_end (made_marks (take (length ys - turn.new) (drop turn.new ys))) →
      k' ≡ kept_all
      (left_out setting.within old_place new_place at (made_marks (take turn.old xs)) (made_marks (take turn.new ys))) k →
      k' ≡ kept_all (turn_told setting at (made_marks xs) (made_marks ys) turn) k
  turn_left at xs ys turn old_place new_place k k' other old_is new_is k_is =
      let old : List MadeMark = made_marks xs in
      let new : List MadeMark = made_marks ys in
      let old_next : old_place ≡ next_place setting.old_end (drop turn.old old) =
      old_is ∙ ap (next_place setting.old_end) (rest_marks xs turn.old) in
      let new_next : new_place ≡ next_place setting.new_end (drop turn.new new) =
      new_is ∙ ap (next_place setting.new_end) (rest_marks ys turn.new) in
      let left : List PageDifference =
      left_out setting.within (next_place setting.old_end (drop turn.old old)) (next_place setting.new_end (drop turn.new new)) at
      (take turn.old old) (take turn.new new) in
      k_is
      ∙ ((λ j. kept_all
      (left_out setting.within (old_next j) (new_next j) at (front_marks xs turn.old j) (front_marks ys turn.new j)) k)
      ∙ ap (λ (t : Bool). kept_all (if t then [] else left) k) (sym other))

-- ---- the next turn

pub first_of : {X : Type 0} (xs : List X) (x : X) → 0 < length xs → x ≡ get_or xs 0 x → xs ≡ x ∷ drop 1 xs
first_of [] x some is = absurd (omega (arith, some))
first_of (y ∷ ys) x some is = ap (λ z. z ∷ ys) (sym is)

-- a first mark and the rest, as a pattern gives them
pub first_and_rest : {A : Type 0} (xs : List (PlacedMark A)) (x : PlacedMark A) → 0 < length xs → x ≡ get_or xs 0 x →
    made_mark x ∷ made_marks (take (length xs - 1) (drop 1 xs)) ≡ made_marks xs
first_and_rest xs x some is =
    ap (λ l. made_mark x ∷ made_marks l) (take_rest xs 1) ∙ ap made_marks (sym (first_of xs x some is))

pub no_marks : {A : Type 0} (xs : List (PlacedMark A)) → length xs ≡ 0 → made_marks xs ≡ []
no_marks xs none = ap made_marks (nil_from_length xs none)

module _ {A : Type 0} (within : ℕ) (xs ys : List (PlacedMark A)) where
  pub turn_heads : (x y : PlacedMark A) → 0 < length xs → 0 < length ys → x ≡ get_or xs 0 x → y ≡ get_or ys 0 y →
      turn_of within (made_marks xs) (made_marks ys)
      ≡ (if is_near_mark within (made_mark x) (made_mark y) then record { old = 1; new = 1; same = true }
      else nearest within (made_marks xs) (made_marks ys))
  turn_heads x y in_xs in_ys x_is y_is =
      let xs_are : xs ≡ x ∷ drop 1 xs = first_of xs x in_xs x_is in
      let ys_are : ys ≡ y ∷ drop 1 ys = first_of ys y in_ys y_is in
      let alike : Turn = record { old = 1; new = 1; same = true } in
      (λ j. turn_of within (made_marks (xs_are j)) (made_marks (ys_are j)))
      ∙ (λ j. if is_near_mark within (made_mark x) (made_mark y) then alike
      else nearest within (made_marks (sym xs_are j)) (made_marks (sym ys_are j)))

  pub turn_no_old : length xs ≡ 0 → leaving (length xs) (length ys) ≡ turn_of within (made_marks xs) (made_marks ys)
  turn_no_old none = by_marks xs none
    where
      by_marks : (l : List (PlacedMark A)) → length l ≡ 0 → leaving (length l) (length ys) ≡ turn_of within (made_marks l) (made_marks ys)
      by_marks [] e = ap (leaving 0) (sym (few_marks ys))
      by_marks (x ∷ l) e = absurd (omega (arith, e))

  pub turn_no_new : length ys ≡ 0 → leaving (length xs) (length ys) ≡ turn_of within (made_marks xs) (made_marks ys)
  turn_no_new none = by_marks xs ys none
    where
      by_marks : (l m : List (PlacedMark A)) → length m ≡ 0 →
          leaving (length l) (length m) ≡ turn_of within (made_marks l) (made_marks m)
      by_marks [] [] e = refl
      by_marks (x ∷ l) [] e = ap (λ n. leaving n 0) (sym (few_marks (x ∷ l)))
      by_marks l (y ∷ m) e = absurd (omega (arith, e))

  pub near_heads : (x y : PlacedMark A) → 0 < length xs → 0 < length ys → x ≡ get_or xs 0 x → y ≡ get_or ys 0 y →
      next_near within (made_marks xs) (made_marks ys) ≡ is_near_mark within (made_mark x) (made_mark y)
  near_heads x y in_xs in_ys x_is y_is =
      λ j. next_near within (made_marks (first_of xs x in_xs x_is j)) (made_marks (first_of ys y in_ys y_is j))

  pub near_no_old : length xs ≡ 0 → true ≡ next_near within (made_marks xs) (made_marks ys)
  near_no_old none = by_marks (made_marks xs) (made_marks ys) (no_marks xs none)
    where
      by_marks : (l m : List MadeMark) → l ≡ [] → true ≡ next_near within l m
      by_marks [] [] e = refl
      by_marks [] (b ∷ m) e = refl
      by_marks (a ∷ l) m e = cc

  pub near_no_new : length ys ≡ 0 → true ≡ next_near within (made_marks xs) (made_marks ys)
  near_no_new none = by_marks (made_marks xs) (made_marks ys) (no_marks ys none)
    where
      by_marks : (l m : List MadeMark) → m ≡ [] → true ≡ next_near within l m
      by_marks [] [] e = refl
      by_marks (a ∷ l) [] e = refl
      by_marks l (b ∷ m) e = cc
