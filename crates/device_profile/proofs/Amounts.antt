-- Lemmas on the amounts of a text.
use Rattle.std.proofs.Common.{◌≡◌, ◌≢◌, ℕ, suc, ◌+◌, ◌-◌, ◌*◌, ◌^◌, ◌<◌, ◌≤◌, List, [], ◌∷◌, ◌++◌, length, take, drop, get_or, Bool, true}
use Rattle.std.proofs.Common.{false, ◌&&◌, ◌==◌, nat_lt, nat_le, cond, if◌then◌else◌, Option, None, Some, inl, inr, refl, sym, ap, subst}
use Rattle.std.proofs.Common.{◌∙◌, arith, add-one, take-append-drop}
use Rattle.std.proofs.Math.Nat.{eq-or-lt_of_le}
use Rattle.std.proofs.Math.Seq.{drop-cons}
use Rattle.std.proofs.lemmas.Bool.{and_parts, and_right, cases_Bool, cond-false, leb-true}
use Rattle.std.proofs.lemmas.Bool.Decides.{nat_tests}
use Rattle.std.proofs.lemmas.List.{take_all, take_rest}
use Rattle.std.proofs.lemmas.List.Elements.{All-from_recursion}
use Rattle.std.proofs.lemmas.List.Splits.{slice_split_at, slice_split_none, length-slice_split, join_with_byte-slice_split}
use Rattle.std.specs.List.{slice_split, list_all, join_with_byte, AllByRecursion}
use Rattle.std.specs.Option.{option_map, option_and_then}
use Rattle.device_profile.specs.Words.{is_digit, are_digits, value_after, number_of, decimals_of, amount_of, amount_of_parts}
use Rattle.device_profile.proofs.ScanFacts.{Lacks, differs}

within_limits : (word : List ℕ) → length word ≤ 4 → are_digits 4 word ≡ are_digits 16 word
within_limits word short =
    let in_4 : nat_le (length word) 4 ≡ true = grind (arith, nat_tests) in
    let in_16 : nat_le (length word) 16 ≡ true = grind (arith, nat_tests) in
    ap (λ b. nat_lt 0 (length word) && b && list_all is_digit word) (in_4 ∙ sym in_16)

map_of_cond : (b : Bool) (f : ℕ → ℕ) (n : ℕ) → cond b (Some (f n)) None ≡ option_map f (cond b (Some n) None)
map_of_cond true f n = refl
map_of_cond false f n = refl

-- up to four decimals are a number of ten-thousandths
pub decimals_by_number : (word : List ℕ) → length word ≤ 4 →
    decimals_of word ≡ option_map (λ n. n * 10 ^ (4 - length word)) (number_of word)
unfolding number_of
decimals_by_number word short =
    ap (λ b. if b then Some (value_after 0 word * 10 ^ (4 - length word)) else None) (within_limits word short)
    ∙ map_of_cond (are_digits 16 word) (λ n. n * 10 ^ (4 - length word)) (value_after 0 word)

-- more than four digits are no decimals
pub decimals_too_long : (word : List ℕ) → 4 < length word → decimals_of word ≡ None
decimals_too_long word long =
    let beyond : nat_le (length word) 4 ≡ false = grind (arith, nat_tests) in
    let none : are_digits 4 word ≡ false = grind (arith, nat_tests, beyond) in
    cond-false (are_digits 4 word) (Some (value_after 0 word * 10 ^ (4 - length word))) None none

-- words of no digit, or of more than four, are no decimals
pub no_decimals_of : (word : List ℕ) → length word ≢ 1 → length word ≢ 2 → length word ≢ 3 → length word ≢ 4 → None ≡ decimals_of word
no_decimals_of [] one two three four = refl
no_decimals_of (x ∷ xs) one two three four = sym (decimals_too_long (x ∷ xs) (omega arith))

-- what the last of k decimals counts
pub last_place : (word : List ℕ) (k unit : ℕ) → k ≤ 4 → length word ≡ k → unit ≡ 10 ^ (4 - k) →
    (length word ≤ 4) × (unit ≡ 10 ^ (4 - length word))
last_place word k unit most is place = (omega arith, place ∙ ap (λ n. 10 ^ (4 - n)) (sym is))

-- decimals that are a number
pub some_decimals : (word : List ℕ) (unit n : ℕ) → length word ≤ 4 → unit ≡ 10 ^ (4 - length word) → number_of word ≡ Some n →
    Some (n * unit) ≡ decimals_of word
some_decimals word unit n short place number =
    sym (decimals_by_number word short ∙ ap (option_map (λ n. n * 10 ^ (4 - length word))) number ∙ ap (λ u. Some (n * u)) (sym place))

-- decimals that are no number
pub none_decimals : (word : List ℕ) → length word ≤ 4 → number_of word ≡ None → None ≡ decimals_of word
none_decimals word short number = sym (decimals_by_number word short ∙ ap (option_map (λ n. n * 10 ^ (4 - length word))) number)

-- digits have no point
digits_lack : (word : List ℕ) → list_all is_digit word ≡ true → AllByRecursion (λ b. (b == 46) ≡ false) word
digits_lack [] all = tt
digits_lack (x ∷ xs) all =
    let parts : (is_digit x ≡ true) × (list_all is_digit xs ≡ true) = and_parts (is_digit x) (list_all is_digit xs) all in
    let least : 48 ≤ x = leb-true 48 x (and_parts (nat_le 48 x) (nat_le x 57) parts.0).0 in
    (differs x 46 (λ e. omega arith), digits_lack xs parts.1)

none_for_each : (n : Option ℕ) → option_and_then (λ whole. option_map (λ d. whole * 10_000 + d) None) n ≡ None
none_for_each None = refl
none_for_each (Some n) = refl

-- where the text behind the point is no decimals, there is no amount
no_decimals : (whole rest : List ℕ) (parts : List (List ℕ)) → 0 < length parts → join_with_byte 46 parts ≡ rest → decimals_of rest ≡ None →
    amount_of_parts (whole ∷ parts) ≡ None
no_decimals whole rest [] some joined none = absurd (omega arith)
no_decimals whole rest (x ∷ []) some joined none =
    ap (λ d. option_and_then (λ n. option_map (λ m. n * 10_000 + m) d) (number_of whole)) (ap decimals_of joined ∙ none)
    ∙ none_for_each (number_of whole)
no_decimals whole rest (x ∷ y ∷ parts) some joined none = refl

abbrev with_decimals : List ℕ → List ℕ → Option ℕ
with_decimals whole rest = option_and_then (λ n. option_map (λ d. n * 10_000 + d) (decimals_of rest)) (number_of whole)

-- a second point makes the decimals wrong
behind_point : (whole rest : List ℕ) → amount_of_parts (whole ∷ slice_split (λ b. b == 46) rest) ≡ with_decimals whole rest
behind_point whole rest =
    let p : ℕ → Bool = λ b. b == 46 in
    elim (cases_Bool (list_all is_digit rest)) [
      | inl all ↦
          ap (λ parts. amount_of_parts (whole ∷ parts))
          (slice_split_none p rest (All-from_recursion (λ b. (b == 46) ≡ false) rest (digits_lack rest all)))
      | inr some ↦
          let none : decimals_of rest ≡ None =
          cond-false (are_digits 4 rest) (Some (value_after 0 rest * 10 ^ (4 - length rest))) None
          (and_right (nat_lt 0 (length rest) && nat_le (length rest) 4) (list_all is_digit rest) some) in
          no_decimals whole rest (slice_split p rest) (omega (arith, length-slice_split p rest)) (join_with_byte-slice_split 46 rest) none
          ∙ sym
          (ap (λ d. option_and_then (λ n. option_map (λ m. n * 10_000 + m) d) (number_of whole)) none ∙ none_for_each (number_of whole))
    ]

-- a text without a point is a whole amount
pub amount-whole : (word : List ℕ) → Lacks 46 word → amount_of word ≡ option_map (λ n. n * 10_000) (number_of word)
unfolding amount_of
amount-whole word none = ap amount_of_parts (slice_split_none (λ b. b == 46) word none)

-- the decimals of an amount stand behind its first point
pub amount-cut : (word : List ℕ) (n : ℕ) → n < length word → Lacks 46 (take n word) → get_or word n 0 ≡ 46 →
    amount_of word
    ≡ option_and_then (λ whole. option_map (λ d. whole * 10_000 + d) (decimals_of (take (length word - (n + 1)) (drop (n + 1) word))))
    (number_of (take n word))
unfolding amount_of
amount-cut word n within none here =
    let rest = drop (n + 1) word in
    let p : ℕ → Bool = λ b. b == 46 in
    let whole : word ≡ take n word ++ 46 ∷ rest =
    sym (take-append-drop n word)
    ∙ ap (λ l. take n word ++ l)
    (drop-cons word n 0 within ∙ ap (λ b. b ∷ drop (suc n) word) here ∙ ap (λ m. 46 ∷ drop m word) (sym (add-one n))) in
    ap amount_of whole ∙ ap amount_of_parts (slice_split_at p (take n word) 46 rest none refl) ∙ behind_point (take n word) rest
    ∙ ap (λ l. with_decimals (take n word) l) (sym (take_rest word (n + 1)))

-- where what stands before the point is no number, there is no amount
pub amount-none : (word : List ℕ) (n : ℕ) → n ≤ length word → Lacks 46 (take n word) → (n < length word → get_or word n 0 ≡ 46) →
    number_of (take n word) ≡ None → None ≡ amount_of word
amount-none word n within none here number =
    elim (eq-or-lt_of_le within) [
      | inl e ↦
          let whole : take n word ≡ word = take_all n word (omega arith) in
          sym
          (amount-whole word (subst (Lacks 46) whole none) ∙ ap (λ l. option_map (λ n. n * 10_000) (number_of l)) (sym whole)
          ∙ ap (option_map (λ n. n * 10_000)) number)
      | inr more ↦
          let rest = take (length word - (n + 1)) (drop (n + 1) word) in
          sym
          (amount-cut word n more none (here more)
          ∙ ap (option_and_then (λ whole. option_map (λ d. whole * 10_000 + d) (decimals_of rest))) number)
    ]

-- a number without a point is so many times ten thousand
pub amount-of_number : (word : List ℕ) (n whole : ℕ) → n ≡ length word → Lacks 46 (take n word) → number_of (take n word) ≡ Some whole →
    Some (whole * 10_000) ≡ amount_of word
amount-of_number word n whole end none number =
    let all : take n word ≡ word = take_all n word (omega arith) in
    sym
    (amount-whole word (subst (Lacks 46) all none) ∙ ap (λ l. option_map (λ n. n * 10_000) (number_of l)) (sym all)
    ∙ ap (option_map (λ n. n * 10_000)) number)

-- a number, a point, and what is behind it
pub amount-of_decimals : (word : List ℕ) (n whole : ℕ) → n < length word → Lacks 46 (take n word) → get_or word n 0 ≡ 46 →
    number_of (take n word) ≡ Some whole →
    amount_of word ≡ option_map (λ d. whole * 10_000 + d) (decimals_of (take (length word - (n + 1)) (drop (n + 1) word)))
amount-of_decimals word n whole within none here number =
    let rest = take (length word - (n + 1)) (drop (n + 1) word) in
    amount-cut word n within none here ∙ ap (option_and_then (λ whole. option_map (λ d. whole * 10_000 + d) (decimals_of rest))) number
