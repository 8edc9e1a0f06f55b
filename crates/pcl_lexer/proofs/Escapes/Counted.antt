-- Which numbers count bytes of data.
use Rattle.std.proofs.Common.{◌≡◌, ℕ, ◌/◌, ◌%◌, ◌≤◌, Bool, true, false, Option, None, Some, refl, sym, ap, subst, ◌∙◌, arith}
use Rattle.std.specs.Prelude.{◌==◌, ◌&&◌, ◌||◌, nat_le, not}
use Rattle.std.proofs.lemmas.Bool.{eqb-true, eq-eqb, leb-true, le-leb, and_from, cond_both, cond-true}
use Rattle.pcl_items.specs.declared.number.Sign.{Sign}
use Rattle.pcl_items.specs.declared.number.Sign.TheVariants.{Absent, Plus, Minus}
use Rattle.pcl_items.specs.Escapes.Value.{Amount, Counts}
use Rattle.pcl_lexer.specs.Escapes.Ungrouped.{is_minus, count_of}
use Rattle.pcl_lexer.proofs.Escapes.Tables.{both_true}

-- the tests of the sign and the magnitude
abbrev fits_sign : Amount → Bool
fits_sign a = not (is_minus a.sign) || (a.ten_thousandths == 0)

sign_zero : (s : Sign) (b : Bool) → (not (is_minus s) || b) ≡ true → s ≡ Minus → b ≡ true
sign_zero Absent b h e = absurd cc
sign_zero Plus b h e = absurd cc
sign_zero Minus b h e = h

zero_sign : (s : Sign) (b : Bool) → (s ≡ Minus → b ≡ true) → (not (is_minus s) || b) ≡ true
zero_sign Absent b h = refl
zero_sign Plus b h = refl
zero_sign Minus b h = h refl

abbrev tests : Amount → Bool
tests a = (a.ten_thousandths % 10000 == 0) && (nat_le a.ten_thousandths 327670000 && fits_sign a)

counts_if : (a : Amount) → tests a ≡ true → Counts a (a.ten_thousandths / 10000)
counts_if a e =
    let t = both_true (a.ten_thousandths % 10000 == 0) (nat_le a.ten_thousandths 327670000 && fits_sign a) e in
    let u = both_true (nat_le a.ten_thousandths 327670000) (fits_sign a) t.1 in
    let whole = eqb-true (a.ten_thousandths % 10000) 0 t.0 in
    let low = leb-true a.ten_thousandths 327670000 u.0 in
    record {
      whole = omega (arith, whole);
      not_negative =
          λ m. let zero : a.ten_thousandths ≡ 0 = eqb-true a.ten_thousandths 0 (sign_zero a.sign (a.ten_thousandths == 0) u.1 m) in
          omega (arith, zero);
      limited = omega (arith, low);
    }

tested : (a : Amount) (n : ℕ) → Counts a n → tests a ≡ true
tested a n h =
    let whole = h.whole in
    let limited = h.limited in
    let rest : a.ten_thousandths % 10000 ≡ 0 = omega (arith, whole) in
    let low : a.ten_thousandths ≤ 327670000 = omega (arith, whole, limited) in
    and_from _ _ (eq-eqb _ _ rest) (and_from _ _ (le-leb _ _ low) (zero_sign a.sign (a.ten_thousandths == 0) (λ m.
    let none = h.not_negative m in let zero : a.ten_thousandths ≡ 0 = omega (arith, whole, none) in eq-eqb _ _ zero)))

-- a number that counts is read as its count
pub counted : (a : Amount) (n : ℕ) → Counts a n → count_of a ≡ Some n
counted a n h =
    let whole = h.whole in
    let same : a.ten_thousandths / 10000 ≡ n = omega (arith, whole) in
    cond-true (tests a) _ _ (tested a n h) ∙ ap Some same

abbrev IsCount : Amount → Option ℕ → Type 0
IsCount a None = (n : ℕ) → Counts a n → ⊥
IsCount a (Some n) = Counts a n

is_count : (a : Amount) → IsCount a (count_of a)
is_count a =
    cond_both (tests a) _ _ (IsCount a) (λ e. counts_if a e)
    (λ e n h. let t : tests a ≡ true = tested a n h in let both : true ≡ false = sym t ∙ e in absurd cc)

pub counts_of : (a : Amount) (n : ℕ) → count_of a ≡ Some n → Counts a n
counts_of a n e = subst (IsCount a) e (is_count a)

pub no_counts_of : (a : Amount) → count_of a ≡ None → (n : ℕ) → Counts a n → ⊥
no_counts_of a e = subst (IsCount a) e (is_count a)
