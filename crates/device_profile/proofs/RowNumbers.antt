-- The twelve numbers of a row, read one after another.
use Rattle.std.proofs.Common.{◌≡◌, ℕ, suc, ◌+◌, ◌<◌, ◌≤◌, ◌==◌, ◌&&◌, nat_le, true, false, List, [], ◌∷◌, ◌++◌, length, Option, None, Some}
use Rattle.std.proofs.Common.{if◌then◌else◌, append_assoc, length-append, zero-add, arith, sym, ap, ◌∙◌}
use Rattle.std.specs.List.{list_all, filter_map, cons_option}
use Rattle.std.proofs.lemmas.Bool.{and_left, and_right, and_parts, and_from, cond-true, cond-false, cond_both, eq-eqb, ne_eqb}
use Rattle.std.proofs.lemmas.Bool.Decides.{nat_tests}
use Rattle.std.proofs.lemmas.List.{append-nil}
use Rattle.std.proofs.lemmas.List.Folds.{list_all-append}
use Rattle.device_profile.specs.Words.{number_of}
use Rattle.device_profile.specs.Values.{is_between}
use Rattle.device_profile.specs.FaceLine.{between}
use Rattle.device_profile.specs.GeometryLine.{is_row_number, row_numbers_of}

-- these numbers, where they are twelve of so many words
abbrev twelve : ℕ → List ℕ → Option (List ℕ)
twelve words numbers = if (words == 12) && (length numbers == 12) && list_all is_row_number numbers then Some numbers else None

-- the twelve numbers, of which the first were read and the others are these words
unfoldable pub row_numbers_with : List ℕ → List (List ℕ) → Option (List ℕ)
row_numbers_with read words = twelve (length read + length words) (read ++ filter_map number_of words)

pub row_numbers-start : (words : List (List ℕ)) → row_numbers_of words ≡ row_numbers_with [] words
unfolding row_numbers_of row_numbers_with
row_numbers-start words = ap (λ n. twelve n (filter_map number_of words)) (sym (zero-add (length words)))

twelve-fewer : (words : ℕ) (numbers : List ℕ) → length numbers < words → twelve words numbers ≡ None
twelve-fewer words numbers fewer =
    let differ : ((words == 12) && (length numbers == 12)) ≡ false = grind (arith, nat_tests) in
    cond-false ((words == 12) && (length numbers == 12) && list_all is_row_number numbers) (Some numbers) None (and_left _ _ differ)

twelve-too_large : (words : ℕ) (numbers : List ℕ) → list_all is_row_number numbers ≡ false → twelve words numbers ≡ None
twelve-too_large words numbers large =
    cond-false ((words == 12) && (length numbers == 12) && list_all is_row_number numbers) (Some numbers) None (and_right _ _ large)

pub length-filter_map-le : {X Y : Type 0} (f : X → Option Y) (xs : List X) → length (filter_map f xs) ≤ length xs
length-filter_map-le f [] = omega arith
length-filter_map-le f (x ∷ xs) = elim (f x) as (λ y. length (cons_option y (filter_map f xs)) ≤ suc (length xs)) [
  | None ↦ omega (arith, length-filter_map-le f xs)
  | Some y ↦ omega (arith, length-filter_map-le f xs)
]

value-step : (read : List ℕ) (value : Option ℕ) (tail : List ℕ) (count n : ℕ) → between 0 720_000 value ≡ Some n
    → twelve (length read + suc count) (read ++ cons_option value tail) ≡ twelve (length (read ++ n ∷ []) + count) (read ++ n ∷ [] ++ tail)
value-step read None tail count n is = cc
value-step read (Some m) tail count n is =
    cond_both (is_between 0 720_000 m) (Some m) None
    (λ got.
    got ≡ Some n → twelve (length read + suc count) (read ++ m ∷ tail) ≡ twelve (length (read ++ n ∷ []) + count) (read ++ n ∷ [] ++ tail))
    (λ fits got.
    let same : m ≡ n = cc in
    let total : length read + suc count ≡ length (read ++ m ∷ []) + count = omega (arith, length-append read (m ∷ [])) in
    let numbers : read ++ m ∷ tail ≡ read ++ m ∷ [] ++ tail = sym (append_assoc read (m ∷ []) tail) in
    ap (λ t. twelve t (read ++ m ∷ tail)) total
    ∙ (ap (λ l. twelve (length (read ++ m ∷ []) + count) l) numbers
    ∙ ap (λ k. twelve (length (read ++ k ∷ []) + count) (read ++ k ∷ [] ++ tail)) same))
    (λ no got. cc)
    is

value-stop : (read : List ℕ) (value : Option ℕ) (tail : List ℕ) (count : ℕ) → length tail ≤ count → between 0 720_000 value ≡ None
    → twelve (length read + suc count) (read ++ cons_option value tail) ≡ None
value-stop read None tail count few is = twelve-fewer (length read + suc count) (read ++ tail) (omega (arith, length-append read tail))
value-stop read (Some m) tail count few is =
    cond_both (is_between 0 720_000 m) (Some m) None
    (λ got. got ≡ None → twelve (length read + suc count) (read ++ m ∷ tail) ≡ None)
    (λ fits got. cc)
    (λ no got.
    let large : is_row_number m ≡ false = grind (arith, nat_tests) in
    twelve-too_large (length read + suc count) (read ++ m ∷ tail)
    (list_all-append is_row_number read (m ∷ tail)
    ∙ and_right (list_all is_row_number read) _ (and_left (is_row_number m) (list_all is_row_number tail) large)))
    is

-- one more word gives a number
pub row_numbers-step : (read : List ℕ) (words : List (List ℕ)) (word : List ℕ) (rest : List (List ℕ)) (n : ℕ) → words ≡ word ∷ rest →
    Some n ≡ between 0 720_000 (number_of word)
    → row_numbers_with read words ≡ row_numbers_with (read ++ n ∷ []) rest
unfolding row_numbers_with
row_numbers-step read words word rest n are is =
    ap (λ w. row_numbers_with read w) are ∙ value-step read (number_of word) (filter_map number_of rest) (length rest) n (sym is)

-- one more word gives none
pub row_numbers-stop : (read : List ℕ) (words : List (List ℕ)) (word : List ℕ) (rest : List (List ℕ)) → words ≡ word ∷ rest →
    None ≡ between 0 720_000 (number_of word)
    → row_numbers_with read words ≡ None
unfolding row_numbers_with
row_numbers-stop read words word rest are is =
    ap (λ w. row_numbers_with read w) are
    ∙ value-stop read (number_of word) (filter_map number_of rest) (length rest) (length-filter_map-le number_of rest) (sym is)

twelve-other : (words : ℕ) (numbers : List ℕ) → (words ≡ 12 → ⊥) → twelve words numbers ≡ None
twelve-other words numbers other =
    cond-false ((words == 12) && (length numbers == 12) && list_all is_row_number numbers) (Some numbers) None
    (and_left _ _ (and_left (words == 12) (length numbers == 12) (ne_eqb words 12 other)))

-- the words end too soon
pub row_numbers-short : (read : List ℕ) (words : List (List ℕ)) → length read < 12 → words ≡ [] → row_numbers_with read words ≡ None
unfolding row_numbers_with
row_numbers-short read words few are =
    ap (λ w. row_numbers_with read w) are ∙ twelve-other (length read + 0) (read ++ []) (λ e. omega arith)

-- there are more words
pub row_numbers-long : (read : List ℕ) (words : List (List ℕ)) (word : List ℕ) (rest : List (List ℕ)) → length read ≡ 12 →
    words ≡ word ∷ rest → row_numbers_with read words ≡ None
unfolding row_numbers_with
row_numbers-long read words word rest all are =
    ap (λ w. row_numbers_with read w) are
    ∙ twelve-other (length read + suc (length rest)) (read ++ filter_map number_of (word ∷ rest)) (λ e. omega arith)

-- all twelve were read
pub row_numbers-all : (read : List ℕ) (words : List (List ℕ)) → length read ≡ 12 → list_all is_row_number read ≡ true → words ≡ [] →
    row_numbers_with read words ≡ Some read
unfolding row_numbers_with
row_numbers-all read words all small are =
    let whole : read ++ [] ≡ read = append-nil read in
    let total : (length read + 0 == 12) ≡ true = eq-eqb (length read + 0) 12 (omega arith) in
    ap (λ w. row_numbers_with read w) are
    ∙ (ap (λ l. twelve (length read + 0) l) whole
    ∙ cond-true ((length read + 0 == 12) && (length read == 12) && list_all is_row_number read) (Some read) None
    (and_from _ _ (and_from _ _ total (eq-eqb (length read) 12 all)) small))

-- a number within bounds is one of a row
pub is_row_number-between : (n : ℕ) (value : Option ℕ) → Some n ≡ between 0 720_000 value → is_row_number n ≡ true
is_row_number-between n None is = cc
is_row_number-between n (Some m) is =
    cond_both (is_between 0 720_000 m) (Some m) None (λ got. Some n ≡ got → is_row_number n ≡ true)
    (λ fits got.
    let same : m ≡ n = cc in
    ap is_row_number (sym same) ∙ (and_parts (nat_le 0 m) (nat_le m 720_000) fits).1)
    (λ no got. cc)
    is
