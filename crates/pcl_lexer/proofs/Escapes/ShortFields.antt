-- A value field of digits alone, behind which a letter stands.
use Rattle.std.proofs.Common.{◌≡◌, ◌∙◌, ℕ, ◌+◌, ◌*◌, ◌<◌, ◌≤◌, List, [], ◌∷◌, length, get_or, drop, take, Bool, true, false, Some}
use Rattle.std.proofs.Common.{refl, sym, ap, subst, arith}
use Rattle.std.specs.Prelude.{◌==◌, nat_le, min}
use Rattle.std.specs.Char.{is_ascii_digit}
use Rattle.std.proofs.lemmas.Bool.{cond-true, cond-false, eqb-true, le-leb, leb-true}
use Rattle.std.proofs.lemmas.List.{at_drop_more}
use Rattle.std.proofs.lemmas.List.Sums.{take_while-cons}
use Rattle.pcl_items.specs.declared.number.Sign.TheVariants.{Absent}
use Rattle.pcl_items.specs.Escapes.Value.{most}
use Rattle.pcl_lexer.specs.Escapes.Field.{decimal, digits, has_point, sign_at, sign_len}
use Rattle.pcl_lexer.specs.Escapes.FieldEnd.{Ended, field_end}
use Rattle.pcl_lexer.proofs.Escapes.Digits.{digits_in_front, rest_from, rest_is, within_limit, without_point}
use Rattle.pcl_lexer.proofs.Escapes.FieldEnds.{EndsAt, follows}
use Rattle.pcl_lexer.proofs.Escapes.Tables.{both_true, by_test}

-- a byte above another is not that one
is_other : (b c : ℕ) → c < b → (b == c) ≡ false
is_other b c above = by_test (b == c) (λ e. let same = eqb-true b c e in omega (arith, above, same))

no_sign : (b : ℕ) (l : List ℕ) → 45 < b → sign_at (b ∷ l) ≡ Absent
no_sign b l above = cond-false (b == 43) _ _ (is_other b 43 (omega (arith, above))) ∙ cond-false (b == 45) _ _ (is_other b 45 above)

-- nothing is signed whose digits, or none, stand before a letter
sign_absent : (l : List ℕ) (k d : ℕ) → k ≡ length (digits l) → 64 ≤ get_or l k d → sign_at l ≡ Absent
sign_absent [] k d len letter = refl
sign_absent (b ∷ l) k d len letter = go (is_ascii_digit b) refl
  where
    go : (t : Bool) → is_ascii_digit b ≡ t → sign_at (b ∷ l) ≡ Absent
    go true e =
        let t = both_true (nat_le 48 b) (nat_le b 57) e in let digit : 48 ≤ b = leb-true 48 b t.0 in no_sign b l (omega (arith, digit))
    go false e =
        let none : digits (b ∷ l) ≡ [] = take_while-cons is_ascii_digit b l ∙ cond-false (is_ascii_digit b) _ _ e in
        let here : 64 ≤ b = subst (λ n. 64 ≤ get_or (b ∷ l) n d) (len ∙ ap length none) letter in
        no_sign b l (omega (arith, here))

-- digits among the first n bytes, a letter behind them, and what they come to
pub short_end : (l : List ℕ) (n k b number : ℕ) → k ≡ length (digits (take n l)) → number ≡ min (decimal (digits (take n l))) 65536 →
    k < n → k ≤ 16 → k < length l → b ≡ get_or l k b → 64 ≤ b → number < 65536 →
    Ended (record { sign = Absent; ten_thousandths = 10000 * number }) k b ≡ field_end l
short_end l n k b number len_is number_is front short inside byte letter small =
    let place : k ≡ 0 + k = omega arith in
    let all : digits (take n l) ≡ digits l = digits_in_front n l (omega (arith, len_is, front)) in
    let len : k ≡ length (digits l) = len_is ∙ ap length all in
    let there : 64 ≤ get_or l k b = subst (λ c. 64 ≤ c) byte letter in
    let absent : sign_at l ≡ Absent = sign_absent l k b len there in
    let none : has_point (drop k l) ≡ false = at_drop_more has_point l k b inside ∙ is_other (get_or l k b) 46 (omega (arith, there)) in
    let rest : digits (rest_from l 0) ≡ digits l = ap digits (rest_is l 0) in
    let field =
    without_point l Absent 0 k number (sym absent) (ap sign_len (sym absent)) (len ∙ ap length (sym rest))
    (number_is ∙ ap (λ ds. min (decimal ds) 65536) (all ∙ sym rest)) (subst (λ m. has_point (drop m l) ≡ false) place none) in
    let at : EndsAt l k b = record {
      field = record { len = place ∙ field.len_is; short = short };
      within = inside;
      byte = byte;
    } in
    let within : within_limit Absent (10000 * number) ≡ Some (record { sign = Absent; ten_thousandths = 10000 * number }) =
    cond-true (nat_le (10000 * number) most) _ _ (le-leb (10000 * number) most (omega (arith, small))) in
    follows l k b (Some _) at (sym within ∙ field.number_is)
