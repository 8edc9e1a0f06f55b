-- The number of a value field, by its digits and by the equation that it meets.
use Rattle.std.proofs.Common.{◌≡◌, ℕ, suc, ◌+◌, ◌-◌, ◌*◌, ◌^◌, ◌<◌, List, [], ◌∷◌, ◌++◌, length, drop, Bool, true, refl, sym, ap, ◌∙◌}
use Rattle.std.proofs.Common.{arith}
use Rattle.std.specs.Prelude.{◌==◌, ◌&&◌, fold}
use Rattle.std.specs.List.{list_all}
use Rattle.std.specs.Char.{digit_value}
use Rattle.std.specs.Str.Parse.{AllDigits, digits_value, digits_value_after}
use Rattle.std.proofs.lemmas.Bool.{eq-eqb, eqb-true, and_from}
use Rattle.std.proofs.lemmas.Str.{digit_value_digit}
use Rattle.std.proofs.lemmas.Str.Parse.{digit_from_value}
use Rattle.std.proofs.Math.Nat.{pow-succ', mul_assoc}
use Rattle.pcl_lexer.specs.Escapes.Field.{next_digit, decimal, four}
use Rattle.pcl_items.specs.Escapes.ValueField.{IsWritten}

-- a decimal digit by its value
digit_less : (d : ℕ) → digit_value d < 10 → digit_value d ≡ d - 48
digit_less d h = let r = digit_from_value d h in omega (arith, digit_value_digit d r)

after_fold : (n : ℕ) (ds : List ℕ) → AllDigits 10 ds → fold next_digit n ds ≡ digits_value_after 10 n ds
after_fold n [] h = refl
after_fold n (d ∷ ds) h =
    let e : 10 * n + (d - 48) ≡ n * 10 + digit_value d = omega (arith, digit_less d h.0) in
    ap (λ m. fold next_digit m ds) e ∙ after_fold (n * 10 + digit_value d) ds h.1

pub after-append : (n : ℕ) (xs ys : List ℕ) → digits_value_after 10 n (xs ++ ys) ≡ digits_value_after 10 (digits_value_after 10 n xs) ys
after-append n [] ys = refl
after-append n (x ∷ xs) ys = after-append (n * 10 + digit_value x) xs ys

abbrev pub are_zeros : List ℕ → Bool
are_zeros ds = list_all (λ d. d == 48) ds

zeros-head : (d : ℕ) (b : Bool) → (d == 48) && b ≡ true → (d ≡ 48) × (b ≡ true)
zeros-head d b h = (eqb-true d 48 (grind (arith)), grind arith)

pub ten_more : (n m : ℕ) → n * 10 * 10 ^ m ≡ n * 10 ^ suc m
ten_more n m = mul_assoc n 10 (10 ^ m) ∙ ap (λ q. n * q) (sym (pow-succ' 10 m))

-- zeros write no more than so many tens
pub zeros_write : (n : ℕ) (ds : List ℕ) → are_zeros ds ≡ true → digits_value_after 10 n ds ≡ n * 10 ^ length ds
zeros_write n [] h = omega arith
zeros_write n (d ∷ ds) h =
    let z = zeros-head d (list_all (λ e. e == 48) ds) h in
    let none : digit_value d ≡ 0 = ap digit_value z.0 in
    let e : n * 10 + digit_value d ≡ n * 10 = omega arith in
    ap (λ m. digits_value_after 10 m ds) e ∙ zeros_write (n * 10) ds z.1 ∙ ten_more n (length ds)

-- and only they do
pub only_zeros : (t n : ℕ) (ds : List ℕ) → AllDigits 10 ds → t * 10 ^ length ds ≡ digits_value_after 10 n ds →
    (t ≡ n) × (are_zeros ds ≡ true)
only_zeros t n [] h e = (omega arith, refl)
only_zeros t n (d ∷ ds) h e =
    let tens : t * 10 * 10 ^ length ds ≡ digits_value_after 10 (n * 10 + digit_value d) ds = ten_more t (length ds) ∙ e in
    let r = only_zeros (t * 10) (n * 10 + digit_value d) ds h.1 tens in
    let same : t ≡ n = omega (arith, r.0, h.0) in
    let none : digit_value d ≡ 0 = omega (arith, r.0, same) in
    let zero_is : d ≡ 48 = omega (arith, digit_less d h.0, digit_from_value d h.0) in
    (same, and_from (d == 48) (list_all (λ x. x == 48) ds) (eq-eqb d 48 zero_is) r.1)

-- the digits of the whole part, and then the decimals
abbrev pub first_four : ℕ → List ℕ → ℕ
first_four n decimals = fold next_digit n (four decimals)

pub split_value : (whole decimals : List ℕ) → AllDigits 10 whole →
    digits_value 10 (whole ++ decimals) ≡ digits_value_after 10 (decimal whole) decimals
split_value whole decimals h = after-append 0 whole decimals ∙ ap (λ n. digits_value_after 10 n decimals) (sym (after_fold 0 whole h))

four_tens : (k m : ℕ) → k * 10 ^ suc (suc (suc (suc m))) ≡ 10000 * (k * 10 ^ m)
four_tens k m =
    let tens : k * 10 * 10 * 10 * 10 ≡ 10000 * k = omega arith in
    sym (ten_more k (suc (suc (suc m)))) ∙ sym (ten_more (k * 10) (suc (suc m))) ∙ sym (ten_more (k * 10 * 10) (suc m))
    ∙ sym (ten_more (k * 10 * 10 * 10) m)
    ∙ ap (λ q. q * 10 ^ m) tens ∙ mul_assoc 10000 k (10 ^ m)

four_less : (k m v : ℕ) → k * 10 ^ suc (suc (suc (suc m))) ≡ 10000 * v → k * 10 ^ m ≡ v
four_less k m v e = let both : 10000 * (k * 10 ^ m) ≡ 10000 * v = sym (four_tens k m) ∙ e in omega arith

-- what four digits write behind n
abbrev behind_four : ℕ → ℕ → ℕ → ℕ → ℕ → ℕ
behind_four n a b c d = (((n * 10 + digit_value a) * 10 + digit_value b) * 10 + digit_value c) * 10 + digit_value d

four_digits : (n a b c d : ℕ) (ds : List ℕ) → AllDigits 10 (a ∷ b ∷ c ∷ d ∷ ds) → first_four n (a ∷ b ∷ c ∷ d ∷ ds) ≡ behind_four n a b c d
four_digits n a b c d ds h = omega (arith, digit_less a h.0, digit_less b h.1.0, digit_less c h.1.1.0, digit_less d h.1.1.1.0)

-- four decimals, and zeros behind them
write_after : (n : ℕ) (ds : List ℕ) → AllDigits 10 ds → are_zeros (drop 4 ds) ≡ true →
    first_four n ds * 10 ^ length ds ≡ 10000 * digits_value_after 10 n ds
write_after n [] h z = omega arith
write_after n (a ∷ []) h z = omega (arith, digit_less a h.0)
write_after n (a ∷ b ∷ []) h z = omega (arith, digit_less a h.0, digit_less b h.1.0)
write_after n (a ∷ b ∷ c ∷ []) h z = omega (arith, digit_less a h.0, digit_less b h.1.0, digit_less c h.1.1.0)
write_after n (a ∷ b ∷ c ∷ d ∷ ds) h z =
    ap (λ k. k * 10 ^ length (a ∷ b ∷ c ∷ d ∷ ds)) (four_digits n a b c d ds h)
    ∙ four_tens (behind_four n a b c d) (length ds)
    ∙ ap (λ k. 10000 * k) (sym (zeros_write (behind_four n a b c d) ds z))

only_after : (t n : ℕ) (ds : List ℕ) → AllDigits 10 ds → t * 10 ^ length ds ≡ 10000 * digits_value_after 10 n ds →
    (t ≡ first_four n ds) × (are_zeros (drop 4 ds) ≡ true)
only_after t n [] h e = (omega arith, refl)
only_after t n (a ∷ []) h e = (omega (arith, digit_less a h.0), refl)
only_after t n (a ∷ b ∷ []) h e = (omega (arith, digit_less a h.0, digit_less b h.1.0), refl)
only_after t n (a ∷ b ∷ c ∷ []) h e = (omega (arith, digit_less a h.0, digit_less b h.1.0, digit_less c h.1.1.0), refl)
only_after t n (a ∷ b ∷ c ∷ d ∷ ds) h e =
    let less : t * 10 ^ length ds ≡ digits_value_after 10 (behind_four n a b c d) ds = four_less t (length ds) _ e in
    let r = only_zeros t (behind_four n a b c d) ds h.1.1.1.1 less in
    (r.0 ∙ sym (four_digits n a b c d ds h), r.1)

-- the number that the digits give is the one that they write, where no decimal after the fourth is other than 0
pub is_written : (whole decimals : List ℕ) → AllDigits 10 whole → AllDigits 10 decimals → list_all (λ d. d == 48) (drop 4 decimals) ≡ true →
    IsWritten (first_four (decimal whole) decimals) whole decimals
is_written whole decimals h k z = write_after (decimal whole) decimals k z ∙ ap (λ v. 10000 * v) (sym (split_value whole decimals h))

-- and it is the only one
pub only_written : (t : ℕ) (whole decimals : List ℕ) → AllDigits 10 whole → AllDigits 10 decimals → IsWritten t whole decimals →
    (t ≡ first_four (decimal whole) decimals) × (list_all (λ d. d == 48) (drop 4 decimals) ≡ true)
only_written t whole decimals h k e = only_after t (decimal whole) decimals k (e ∙ ap (λ v. 10000 * v) (split_value whole decimals h))
