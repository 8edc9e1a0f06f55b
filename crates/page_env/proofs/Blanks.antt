-- Bytes without a black pixel, many at once.
use Rattle.std.proofs.Common.{◌≡◌, ℕ, suc, ◌+◌, ◌-◌, ◌*◌, ◌^◌, ◌<◌, ◌≤◌, ◌++◌, eqb, eq-eqb, Bool, true, false, not, cond, List, [], ◌∷◌}
use Rattle.std.proofs.Common.{map, length, take, drop, Some, None, refl, ap, sym, subst, ◌∙◌, arith}
use Rattle.std.specs.Prelude.{nat_lt, reverse}
use Rattle.std.specs.Int.{w16, leading_zeros}
use Rattle.std.specs.Int.Count.{leading_unique}
use Rattle.std.specs.List.{position, position_or_len, prefix_len}
use Rattle.std.proofs.Math.Nat.{pow-suc}
use Rattle.std.proofs.Math.Seq.{drop-append_seam, take-append_seam}
use Rattle.std.proofs.lemmas.Bool.{cond-true, cond-false, ne_eqb, lt-ltb, le-ltb, ltb-true, ltb-false}
use Rattle.std.proofs.lemmas.Option.{same_Some, none-some}
use Rattle.std.proofs.lemmas.List.{take-append-drop, drop-drop, drop-take, length-take-le, length-drop, length-map, length-reverse}
use Rattle.std.proofs.lemmas.List.{reverse-append, reverse-reverse, map-append}
use Rattle.std.proofs.lemmas.List.Folds.{prefix_len-append}
use Rattle.std.proofs.lemmas.List.Sums.{prefix_len-le-length}
use Rattle.std.proofs.lemmas.Simd.{mask_l-lt}
use lib.Lanes.{mask_l}
use Rattle.page_env.specs.Rasters.{is_black}

-- how many bytes come before the first with a black pixel
abbrev pub blank : List ℕ → ℕ
blank bytes = position_or_len is_black bytes

blank_append : (xs ys : List ℕ) → blank xs ≡ length xs → blank (xs ++ ys) ≡ length xs + blank ys
blank_append xs ys e =
    prefix_len-append (λ x. not (is_black x)) xs ys
    ∙ cond-true (eqb (blank xs) (length xs)) (length xs + blank ys) (blank xs) (eq-eqb (blank xs) (length xs) e)

blank_before : (xs ys : List ℕ) → blank xs < length xs → blank (xs ++ ys) ≡ blank xs
blank_before xs ys h =
    prefix_len-append (λ x. not (is_black x)) xs ys
    ∙ cond-false (eqb (blank xs) (length xs)) (length xs + blank ys) (blank xs)
    (ne_eqb (blank xs) (length xs) (λ e. absurd (omega (arith, h, e))))

-- ---- lanes

-- one of the first bytes is black
few_blank : (n : ℕ) (xs : List ℕ) (k : ℕ) → n ≤ length xs → k ≡ blank (take n xs) → k < n → blank xs ≡ k
few_blank n xs k room e few =
    let long : length (take n xs) ≡ n = length-take-le n xs room in
    sym (ap blank (take-append-drop n xs)) ∙ blank_before (take n xs) (drop n xs) (omega (arith, e, long, few)) ∙ sym e

-- none of them is
all_blank : (n : ℕ) (xs : List ℕ) (k : ℕ) → n ≤ length xs → k ≡ blank (take n xs) → n ≤ k → (k ≡ n) × (blank xs ≡ n + blank (drop n xs))
all_blank n xs k room e all =
    let long : length (take n xs) ≡ n = length-take-le n xs room in
    let most : blank (take n xs) ≤ length (take n xs) = prefix_len-le-length (λ x. not (is_black x)) (take n xs) in
    let full : blank (take n xs) ≡ length (take n xs) = omega (arith, e, long, most, all) in (
      omega (arith, e, long, most, all),
      sym (ap blank (take-append-drop n xs)) ∙ blank_append (take n xs) (drop n xs) full ∙ ap (λ m. m + blank (drop n xs)) long,
    )

-- so many of the first bytes are blank
abbrev pub AreBlank : List ℕ → ℕ → Type 0
AreBlank xs start = (start ≤ length xs) × (blank xs ≡ start + blank (drop start xs))

pub none_blank : (xs : List ℕ) → AreBlank xs 0
none_blank xs = (omega arith, omega arith)

module _ (n : ℕ) (xs : List ℕ) (start k : ℕ) (so_far : AreBlank xs start) (room : n ≤ length xs - start)
    (is : k ≡ blank (take n (drop start xs))) where
  here : n ≤ length (drop start xs)
  here = omega (arith, room, length-drop start xs)

  pub more_blank : n ≤ k → AreBlank xs (start + k)
  more_blank all =
      let step = all_blank n (drop start xs) k here is all in
      let same : drop n (drop start xs) ≡ drop (start + k) xs = drop-drop n start xs ∙ ap (λ m. drop (start + m) xs) (sym step.0) in
      (omega (arith, so_far.0, room, step.0), omega (arith, so_far.1, step.0, step.1, ap blank same))

  pub black_there : k < n → (blank xs ≡ start + k) × (start + k < length xs)
  black_there few = (omega (arith, so_far.1, few_blank n (drop start xs) k here is few), omega (arith, so_far.0, room, few))

-- ---- the first byte with a black pixel

pub found : (xs : List ℕ) (n : ℕ) → blank xs ≡ n → n < length xs → Some n ≡ position is_black xs
found xs n e less =
    ap Some (sym e)
    ∙ sym (cond-true (nat_lt (blank xs) (length xs)) (Some (blank xs)) None (lt-ltb (blank xs) (length xs) (omega (arith, e, less))))

found_at : (xs : List ℕ) (k : ℕ) → Some k ≡ position is_black xs → (k ≡ blank xs) × (k < length xs)
found_at xs k h = by (nat_lt (blank xs) (length xs)) refl h
  where
    by : (b : Bool) → nat_lt (blank xs) (length xs) ≡ b → Some k ≡ cond b (Some (blank xs)) None → (k ≡ blank xs) × (k < length xs)
    by true less e =
        let same : k ≡ blank xs = same_Some k (blank xs) e in
        (same, omega (arith, same, ltb-true (blank xs) (length xs) less))
    by false less e = absurd (none-some k (sym e))

found_nowhere : (xs : List ℕ) → None ≡ position is_black xs → length xs ≤ blank xs
found_nowhere xs h = by (nat_lt (blank xs) (length xs)) refl h
  where
    by : (b : Bool) → nat_lt (blank xs) (length xs) ≡ b → None ≡ cond b (Some (blank xs)) None → length xs ≤ blank xs
    by true less e = absurd (none-some (blank xs) e)
    by false less e = ltb-false (blank xs) (length xs) less

module _ (xs : List ℕ) (start : ℕ) (so_far : AreBlank xs start) where
  -- among the bytes behind those that are blank
  pub found_behind : (k : ℕ) → Some k ≡ position is_black (drop start xs) →
      (Some (start + k) ≡ position is_black xs) × (start + k < length xs)
  found_behind k h =
      let there = found_at (drop start xs) k h in
      let less : start + k < length xs = omega (arith, so_far.0, there.1, length-drop start xs) in
      (found xs (start + k) (omega (arith, so_far.1, there.0)) less, less)

  pub found_none : None ≡ position is_black (drop start xs) → None ≡ position is_black xs
  found_none h =
      let past : length xs ≤ blank xs = omega (arith, so_far.0, so_far.1, found_nowhere (drop start xs) h, length-drop start xs) in
      sym (cond-false (nat_lt (blank xs) (length xs)) (Some (blank xs)) None (le-ltb (blank xs) (length xs) past))

-- ---- from behind

mask_push_true : (ms : List Bool) → mask_l (ms ++ true ∷ []) ≡ mask_l ms + 2 ^ length ms
mask_push_true [] = refl
mask_push_true (m ∷ ms) = omega (arith, mask_push_true ms, pow-suc 2 (length ms))

mask_push_false : (ms : List Bool) → mask_l (ms ++ false ∷ []) ≡ mask_l ms
mask_push_false [] = refl
mask_push_false (m ∷ ms) = omega (arith, mask_push_false ms)

-- so many of the lowest bits hold the number, and no fewer
record IsHighest (m k : ℕ) : Type 0 where
  below : m < 2 ^ k
  above : 2 ^ k ≤ 2 * m + 1

highest_set : (ms : List Bool) → IsHighest (mask_l (ms ++ true ∷ [])) (suc (length ms))
highest_set ms =
    let is = mask_push_true ms in
    let low = mask_l-lt ms in
    let twice = pow-suc 2 (length ms) in
    record { below = omega (arith, is, low, twice); above = omega (arith, is, twice) }

-- with a lane behind the others
highest_more : (ms : List Bool) (n k : ℕ) → length ms ≡ n → IsHighest (mask_l ms) (n - k) → (b : Bool) →
    IsHighest (mask_l (ms ++ b ∷ [])) (suc n - cond (not b) (1 + k) 0)
highest_more ms n k size h true =
    let same : suc (length ms) ≡ suc n - 0 = omega (arith, size) in
    subst (λ j. IsHighest (mask_l (ms ++ true ∷ [])) j) same (highest_set ms)
highest_more ms n k size h false =
    let same : n - k ≡ suc n - (1 + k) = omega arith in
    subst (λ j. IsHighest (mask_l (ms ++ false ∷ [])) j) same (subst (λ m. IsHighest m (n - k)) (sym (mask_push_false ms)) h)

-- the highest bit is the last lane that passes the test
highest : (p : ℕ → Bool) (xs : List ℕ) → IsHighest (mask_l (map p (reverse xs))) (length xs - prefix_len (λ x. not (p x)) xs)
highest p [] = record { below = omega arith; above = omega arith }
highest p (x ∷ xs) =
    let ms : List Bool = map p (reverse xs) in
    let size : length ms ≡ length xs = length-map (reverse xs) p ∙ length-reverse xs in
    let all : map p (reverse (x ∷ xs)) ≡ ms ++ p x ∷ [] = ap (map p) (reverse-append (x ∷ []) xs) ∙ map-append p (reverse xs) (x ∷ []) in
    subst (λ l. IsHighest (mask_l l) (suc (length xs) - cond (not (p x)) (1 + prefix_len (λ y. not (p y)) xs) 0)) (sym all)
    (highest_more ms (length xs) (prefix_len (λ y. not (p y)) xs) size (highest p xs) (p x))

pub lanes_behind_last : (v : List ℕ) → length v ≡ 16 → leading_zeros w16 (mask_l (map is_black v)) ≡ blank (reverse v)
lanes_behind_last v long =
    let k = length (reverse v) - blank (reverse v) in
    let h : IsHighest (mask_l (map is_black v)) k =
    subst (λ l. IsHighest (mask_l (map is_black l)) k) (reverse-reverse v) (highest is_black (reverse v)) in
    let size : length (reverse v) ≡ 16 = length-reverse v ∙ long in
    let most : blank (reverse v) ≤ length (reverse v) = prefix_len-le-length (λ x. not (is_black x)) (reverse v) in
    sym (leading_unique 16 (mask_l (map is_black v)) (blank (reverse v)) k (omega (arith, size, most)) h.below h.above)

pub mask_is_short : (v : List ℕ) → length v ≡ 16 → mask_l (map is_black v) < 2 ^ 16
mask_is_short v long = subst (λ n. mask_l (map is_black v) < 2 ^ n) (length-map v is_black ∙ long) (mask_l-lt (map is_black v))

-- what is left of bytes in reverse where so many are left out
pub front_reverse : (xs : List ℕ) (n : ℕ) → n ≤ length xs → reverse (take (length xs - n) xs) ≡ drop n (reverse xs)
front_reverse xs n room =
    let front : List ℕ = take (length xs - n) xs in
    let last : List ℕ = drop (length xs - n) xs in
    let all : reverse xs ≡ reverse last ++ reverse front =
    sym (ap reverse (take-append-drop (length xs - n) xs)) ∙ reverse-append front last in
    let size : length (reverse last) ≡ n = omega (arith, room, length-reverse last, length-drop (length xs - n) xs) in
    sym (ap (drop n) all ∙ ap (λ m. drop m (reverse last ++ reverse front)) (sym size) ∙ drop-append_seam (reverse last) (reverse front))

-- the last bytes in reverse are the first in reverse
last_reverse : (xs : List ℕ) (n : ℕ) → n ≤ length xs → reverse (drop (length xs - n) xs) ≡ take n (reverse xs)
last_reverse xs n room =
    let front : List ℕ = take (length xs - n) xs in
    let last : List ℕ = drop (length xs - n) xs in
    let all : reverse xs ≡ reverse last ++ reverse front =
    sym (ap reverse (take-append-drop (length xs - n) xs)) ∙ reverse-append front last in
    let size : length (reverse last) ≡ n = omega (arith, room, length-reverse last, length-drop (length xs - n) xs) in
    sym (ap (take n) all ∙ ap (λ m. take m (reverse last ++ reverse front)) (sym size) ∙ take-append_seam (reverse last) (reverse front))

-- bytes before so many that are left out, in reverse
pub lanes_reverse : (n : ℕ) (xs : List ℕ) (behind : ℕ) → behind ≤ length xs → n ≤ length xs - behind →
    reverse (take n (drop (length xs - behind - n) xs)) ≡ take n (drop behind (reverse xs))
lanes_reverse n xs behind within room =
    let front : List ℕ = take (length xs - behind) xs in
    let size : length front ≡ length xs - behind = length-take-le (length xs - behind) xs (omega arith) in
    let whole : length xs - behind - n + n ≡ length xs - behind = omega (arith, room) in
    let there : drop (length front - n) front ≡ take n (drop (length xs - behind - n) xs) =
    ap (λ m. drop (m - n) front) size ∙ ap (λ m. drop (length xs - behind - n) (take m xs)) (sym whole)
    ∙ drop-take (length xs - behind - n) n xs in
    sym (ap reverse there) ∙ last_reverse front n (omega (arith, room, size)) ∙ ap (take n) (front_reverse xs behind within)
