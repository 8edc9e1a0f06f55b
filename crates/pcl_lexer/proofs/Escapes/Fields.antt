-- A value field as it is read, and as it is spelled.
use Rattle.std.proofs.Common.{◌≡◌, ℕ, ◌+◌, ◌<◌, ◌≤◌, List, [], ◌∷◌, ◌++◌, length, drop, take, Bool, true, false, cond, Option, None, Some}
use Rattle.std.proofs.Common.{refl, sym, ap, subst, ◌∙◌, arith}
use Rattle.std.specs.Prelude.{◌==◌, ◌&&◌, nat_le}
use Rattle.std.specs.List.{list_all, prefix_len}
use Rattle.std.specs.Char.{digit_value, is_ascii_digit}
use Rattle.std.specs.Str.Parse.{AllDigits}
use Rattle.std.proofs.lemmas.Bool.{eqb-true, and_from, le-leb, leb-true, cond_both, cond-true, cond-false}
use Rattle.std.proofs.lemmas.Str.{digit_value_digit}
use Rattle.std.proofs.lemmas.Str.Parse.{digit_from_value}
use Rattle.std.proofs.lemmas.List.{append-nil, append_assoc, length-append, drop-drop, take-append-drop}
use Rattle.std.proofs.lemmas.List.Folds.{length-prefix_len}
use Rattle.std.proofs.lemmas.List.Sums.{take_while-cons}
use Rattle.std.proofs.Math.Seq.{drop-append_seam}
use Rattle.pcl_items.specs.declared.number.Sign.{Sign}
use Rattle.pcl_items.specs.declared.number.Sign.TheVariants.{Absent, Plus, Minus}
use Rattle.pcl_items.specs.Escapes.Value.{Amount, most}
use Rattle.pcl_lexer.specs.Escapes.Field.{Field, field_at, digits, sign_at, sign_len, has_point, amount_of, decimal, ten_thousandths_of}
use Rattle.pcl_items.specs.Escapes.ValueField.{sign_text, fraction_text, decimals_of, IsWritten, IsField}
use Rattle.pcl_lexer.proofs.Escapes.Tables.{both_true}
use Rattle.pcl_lexer.proofs.Escapes.Values.{first_four, is_written, only_written}

-- ---- digits

pub digit_passes : (d : ℕ) → digit_value d < 10 → is_ascii_digit d ≡ true
digit_passes d h =
    let r = digit_from_value d h in and_from (nat_le 48 d) (nat_le d 57) (le-leb 48 d (omega arith)) (le-leb d 57 (omega arith))

pub passes_digit : (d : ℕ) → is_ascii_digit d ≡ true → digit_value d < 10
passes_digit d h =
    let t = both_true (nat_le 48 d) (nat_le d 57) h in
    let low : 48 ≤ d = leb-true 48 d t.0 in
    let high : d ≤ 57 = leb-true d 57 t.1 in
    omega (arith, digit_value_digit d (low, high))

above_no_digit : (c : ℕ) → 58 ≤ c → is_ascii_digit c ≡ false
above_no_digit c h = grind arith

digits_are : (xs : List ℕ) → AllDigits 10 (digits xs)
digits_are [] = tt
digits_are (x ∷ xs) =
    subst (AllDigits 10) (sym (take_while-cons is_ascii_digit x xs))
    (cond_both (is_ascii_digit x) _ _ (AllDigits 10) (λ e. (passes_digit x e, digits_are xs)) (λ _. tt))

digits-append : (ds : List ℕ) (c : ℕ) (rest : List ℕ) → AllDigits 10 ds → is_ascii_digit c ≡ false → digits (ds ++ c ∷ rest) ≡ ds
digits-append [] c rest h e = take_while-cons is_ascii_digit c rest ∙ cond-false (is_ascii_digit c) _ _ e
digits-append (d ∷ ds) c rest h e =
    take_while-cons is_ascii_digit d (ds ++ c ∷ rest) ∙ cond-true (is_ascii_digit d) _ _ (digit_passes d h.0)
    ∙ ap (λ t. d ∷ t) (digits-append ds c rest h.1 e)

digits_front : (xs : List ℕ) → xs ≡ digits xs ++ drop (length (digits xs)) xs
digits_front xs =
    sym (take-append-drop (prefix_len is_ascii_digit xs) xs)
    ∙ ap (λ n. take (prefix_len is_ascii_digit xs) xs ++ drop n xs) (sym (length-prefix_len is_ascii_digit xs))

-- ---- the field that is read, by its parts

abbrev pub from : List ℕ → Sign → List ℕ → Field
from l s w =
    cond (has_point (drop (sign_len s + length w) l))
    (record {
      sign = s;
      whole = w;
      decimals = digits (drop (sign_len s + length w + 1) l);
      len = sign_len s + length w + 1 + length (digits (drop (sign_len s + length w + 1) l));
    })
    (record { sign = s; whole = w; decimals = []; len = sign_len s + length w })

pub field_from : (l : List ℕ) (s : Sign) (w : List ℕ) → sign_at l ≡ s → digits (drop (sign_len s) l) ≡ w → field_at l ≡ from l s w
unfolding field_at
field_from l s w e f =
    subst (λ (v : List ℕ). field_at l ≡ from l s v) f (subst (λ (t : Sign). field_at l ≡ from l t (digits (drop (sign_len t) l))) e refl)

-- ---- what is read is spelled so

abbrev pub parts_text : Sign → List ℕ → Option (List ℕ) → List ℕ
parts_text s w o = sign_text s ++ (w ++ fraction_text o)

pub record Parts (l : List ℕ) (f : Field) : Type 0 where
  pub fraction : Option (List ℕ)
  pub decimals : f.decimals ≡ decimals_of fraction
  pub text : l ≡ parts_text f.sign f.whole fraction ++ drop f.len l
  pub len : f.len ≡ length (parts_text f.sign f.whole fraction)
  pub whole_digits : AllDigits 10 f.whole
  pub fraction_digits : AllDigits 10 (decimals_of fraction)

length-sign_text : (s : Sign) → length (sign_text s) ≡ sign_len s
length-sign_text Absent = refl
length-sign_text Plus = refl
length-sign_text Minus = refl

pub length-parts : (s : Sign) (w t : List ℕ) → length (sign_text s ++ (w ++ t)) ≡ sign_len s + length w + length t
length-parts s w t = omega (arith, length-append (sign_text s) (w ++ t), length-append w t, length-sign_text s)

by_sign : (b c : Bool) (x : ℕ) (xs : List ℕ) → (b ≡ true → x ≡ 43) → (c ≡ true → x ≡ 45) →
    x ∷ xs ≡ sign_text (cond b Plus (cond c Minus Absent)) ++ drop (sign_len (cond b Plus (cond c Minus Absent))) (x ∷ xs)
by_sign true c x xs f g = ap (λ n. n ∷ xs) (f refl)
by_sign false true x xs f g = ap (λ n. n ∷ xs) (g refl)
by_sign false false x xs f g = refl

sign_front : (l : List ℕ) → l ≡ sign_text (sign_at l) ++ drop (sign_len (sign_at l)) l
sign_front [] = refl
sign_front (x ∷ xs) = by_sign (x == 43) (x == 45) x xs (eqb-true x 43) (eqb-true x 45)

point_front : (xs : List ℕ) → has_point xs ≡ true → xs ≡ 46 ∷ drop 1 xs
point_front [] h = absurd cc
point_front (x ∷ xs) h = ap (λ n. n ∷ xs) (eqb-true x 46 h)

pub field_parts : (l : List ℕ) → Parts l (field_at l)
unfolding field_at
field_parts l =
    let s = sign_at l in
    let w = digits (drop (sign_len s) l) in
    let b = sign_len s + length w in
    let d = digits (drop (b + 1) l) in
    let behind : drop (sign_len s) l ≡ w ++ drop b l =
    digits_front (drop (sign_len s) l) ∙ ap (λ t. w ++ t) (drop-drop (length w) (sign_len s) l) in
    let front : l ≡ sign_text s ++ (w ++ drop b l) = sign_front l ∙ ap (λ t. sign_text s ++ t) behind in
    cond_both (has_point (drop b l)) _ _ (Parts l)
    (λ h.
    let more : drop b l ≡ 46 ∷ (d ++ drop (b + 1 + length d) l) =
    point_front (drop b l) h
    ∙ ap (λ t. 46 ∷ t) (drop-drop 1 b l ∙ digits_front (drop (b + 1) l) ∙ ap (λ t. d ++ t) (drop-drop (length d) (b + 1) l)) in
    record {
      fraction = Some d;
      decimals = refl;
      text =
          front ∙ ap (λ t. sign_text s ++ (w ++ t)) more
          ∙ ap (λ t. sign_text s ++ t) (sym (append_assoc w (46 ∷ d) (drop (b + 1 + length d) l)))
          ∙ sym (append_assoc (sign_text s) (w ++ 46 ∷ d) (drop (b + 1 + length d) l));
      len = omega (arith, length-parts s w (46 ∷ d));
      whole_digits = digits_are (drop (sign_len s) l);
      fraction_digits = digits_are (drop (b + 1) l);
    })
    (λ _.
    record {
      fraction = None;
      decimals = refl;
      text =
          front ∙ ap (λ t. sign_text s ++ t) (ap (λ t. t ++ drop b l) (sym (append-nil w)))
          ∙ sym (append_assoc (sign_text s) (w ++ []) (drop b l));
      len = omega (arith, length-parts s w []);
      whole_digits = digits_are (drop (sign_len s) l);
      fraction_digits = tt;
    })

some_if : (b : Bool) (x y : Amount) → cond b (Some x) None ≡ Some y → (b ≡ true) × (x ≡ y)
some_if true x y e = (refl, cc)
some_if false x y e = absurd cc

-- the field of a number that is read
pub field_spelled : (l : List ℕ) (a : Amount) → (field_at l).len ≤ 16 → amount_of (field_at l) ≡ Some a →
    (text : List ℕ) × IsField text a × (l ≡ text ++ drop (field_at l).len l) × ((field_at l).len ≡ length text)
unfolding amount_of
field_spelled l a short e =
    let f = field_at l in
    let p = field_parts l in
    let c =
    some_if (nat_le (ten_thousandths_of f) most && list_all (λ d. d == 48) (drop 4 f.decimals))
    (record { sign = f.sign; ten_thousandths = ten_thousandths_of f }) a e in
    let t = both_true (nat_le (ten_thousandths_of f) most) (list_all (λ d. d == 48) (drop 4 f.decimals)) c.0 in
    let spelled : IsField (parts_text f.sign f.whole p.fraction) (record { sign = f.sign; ten_thousandths = ten_thousandths_of f }) =
    record {
      whole = f.whole;
      fraction = p.fraction;
      shape = record { spelled = refl; digits = (p.whole_digits, p.fraction_digits) };
      short = omega (arith, p.len, short);
      written =
          subst (IsWritten (ten_thousandths_of f) f.whole) p.decimals
          (is_written f.whole f.decimals p.whole_digits (subst (AllDigits 10) (sym p.decimals) p.fraction_digits) t.1);
      limited = leb-true (ten_thousandths_of f) most t.0;
    } in
    (parts_text f.sign f.whole p.fraction, subst (IsField (parts_text f.sign f.whole p.fraction)) c.1 spelled, p.text, p.len)

-- ---- what is spelled is read so

-- what stands behind a field and does not go on with it
pub record EndsIn (s : Sign) (w : List ℕ) (o : Option (List ℕ)) (behind : List ℕ) : Type 0 where
  pub no_digit : digits behind ≡ []
  pub no_point : o ≡ None → has_point behind ≡ false
  pub no_sign : s ≡ Absent → w ≡ [] → o ≡ None → sign_at behind ≡ Absent

no_sign : (c : ℕ) (rest : List ℕ) → 46 ≤ c → sign_at (c ∷ rest) ≡ Absent
no_sign c rest h =
    let plus : (c == 43) ≡ false = grind arith in
    let minus : (c == 45) ≡ false = grind arith in
    cond-false (c == 43) _ _ plus ∙ cond-false (c == 45) _ _ minus

pub ends_at_letter : (s : Sign) (w : List ℕ) (o : Option (List ℕ)) (c : ℕ) (rest : List ℕ) → 58 ≤ c → EndsIn s w o (c ∷ rest)
ends_at_letter s w o c rest h =
    let point : (c == 46) ≡ false = grind arith in
    record {
      no_digit = take_while-cons is_ascii_digit c rest ∙ cond-false (is_ascii_digit c) _ _ (above_no_digit c h);
      no_point = λ _. point;
      no_sign = λ _ _ _. no_sign c rest (omega arith);
    }

pub ends_at_end : (s : Sign) (w : List ℕ) (o : Option (List ℕ)) → EndsIn s w o []
ends_at_end s w o = record { no_digit = refl; no_point = λ _. refl; no_sign = λ _ _ _. refl }

digits_behind : (ds behind : List ℕ) → AllDigits 10 ds → digits behind ≡ [] → digits (ds ++ behind) ≡ ds
digits_behind [] behind h e = e
digits_behind (d ∷ ds) behind h e =
    take_while-cons is_ascii_digit d (ds ++ behind) ∙ cond-true (is_ascii_digit d) _ _ (digit_passes d h.0)
    ∙ ap (λ t. d ∷ t) (digits_behind ds behind h.1 e)

sign_read : (s : Sign) (w : List ℕ) (o : Option (List ℕ)) (behind : List ℕ) → AllDigits 10 w → EndsIn s w o behind →
    sign_at (sign_text s ++ (w ++ (fraction_text o ++ behind))) ≡ s
sign_read Plus w o behind h k = refl
sign_read Minus w o behind h k = refl
sign_read Absent [] None behind h k = k.no_sign refl refl refl
sign_read Absent [] (Some ds) behind h k = refl
sign_read Absent (d ∷ w) o behind h k = let r = digit_from_value d h.0 in no_sign d (w ++ (fraction_text o ++ behind)) (omega arith)

sign_behind : (s : Sign) (l : List ℕ) → drop (sign_len s) (sign_text s ++ l) ≡ l
sign_behind Absent l = refl
sign_behind Plus l = refl
sign_behind Minus l = refl

whole_read : (s : Sign) (w : List ℕ) (o : Option (List ℕ)) (behind : List ℕ) → AllDigits 10 w → EndsIn s w o behind →
    digits (w ++ (fraction_text o ++ behind)) ≡ w
whole_read s w None behind h k = digits_behind w behind h k.no_digit
whole_read s w (Some ds) behind h k = digits-append w 46 (ds ++ behind) h refl

-- a field of its parts
abbrev pub of_parts : Sign → List ℕ → Option (List ℕ) → Field
of_parts s w o = record { sign = s; whole = w; decimals = decimals_of o; len = length (parts_text s w o) }

from_parts : (l : List ℕ) (s : Sign) (w : List ℕ) (o : Option (List ℕ)) (behind : List ℕ) →
    drop (sign_len s + length w) l ≡ fraction_text o ++ behind → AllDigits 10 (decimals_of o) → EndsIn s w o behind →
    from l s w ≡ of_parts s w o
from_parts l s w None behind e h k =
    let len : sign_len s + length w ≡ length (parts_text s w None) = omega (arith, length-parts s w []) in
    cond-false (has_point (drop (sign_len s + length w) l)) _ _ (ap has_point e ∙ k.no_point refl)
    ∙ ap (λ n. record { sign = s; whole = w; decimals = []; len = n }) len
from_parts l s w (Some ds) behind e h k =
    let decimals : digits (drop (sign_len s + length w + 1) l) ≡ ds =
    ap digits (sym (drop-drop 1 (sign_len s + length w) l) ∙ ap (drop 1) e) ∙ digits_behind ds behind h k.no_digit in
    let len : sign_len s + length w + 1 + length ds ≡ length (parts_text s w (Some ds)) = omega (arith, length-parts s w (46 ∷ ds)) in
    cond-true (has_point (drop (sign_len s + length w) l)) _ _ (ap has_point e)
    ∙ ap (λ t. record { sign = s; whole = w; decimals = t; len = sign_len s + length w + 1 + length t }) decimals
    ∙ ap (λ n. record { sign = s; whole = w; decimals = ds; len = n }) len

pub parts_read : (s : Sign) (w : List ℕ) (o : Option (List ℕ)) (rest : List ℕ) → AllDigits 10 w → AllDigits 10 (decimals_of o) →
    EndsIn s w o rest → field_at (parts_text s w o ++ rest) ≡ of_parts s w o
parts_read s w o rest h k end =
    let tail : List ℕ = fraction_text o ++ rest in
    let l : List ℕ = sign_text s ++ (w ++ tail) in
    let same : parts_text s w o ++ rest ≡ l =
    append_assoc (sign_text s) (w ++ fraction_text o) rest ∙ ap (λ t. sign_text s ++ t) (append_assoc w (fraction_text o) rest) in
    let behind : drop (sign_len s) l ≡ w ++ tail = sign_behind s (w ++ tail) in
    let whole : digits (drop (sign_len s) l) ≡ w = ap digits behind ∙ whole_read s w o rest h end in
    let left : drop (sign_len s + length w) l ≡ tail =
    sym (drop-drop (length w) (sign_len s) l) ∙ ap (drop (length w)) behind ∙ drop-append_seam w tail in
    ap field_at same ∙ field_from l s w (sign_read s w o rest h end) whole ∙ from_parts l s w o rest left k end

-- how a field is read before bytes that do not go on with it
pub record IsRead (text : List ℕ) (a : Amount) (rest : List ℕ) : Type 0 where
  pub len : (field_at (text ++ rest)).len ≡ length text
  pub amount : amount_of (field_at (text ++ rest)) ≡ Some a

pub field_read : (text : List ℕ) (a : Amount) (rest : List ℕ) (f : IsField text a) → EndsIn a.sign f.whole f.fraction rest →
    IsRead text a rest
unfolding amount_of
field_read text a rest f end =
    let same = parts_read a.sign f.whole f.fraction rest f.shape.digits.0 f.shape.digits.1 end in
    let read : field_at (text ++ rest) ≡ of_parts a.sign f.whole f.fraction = ap (λ t. field_at (t ++ rest)) f.shape.spelled ∙ same in
    let only = only_written a.ten_thousandths f.whole (decimals_of f.fraction) f.shape.digits.0 f.shape.digits.1 f.written in
    let limited : nat_le (first_four (decimal f.whole) (decimals_of f.fraction)) most ≡ true =
    le-leb (first_four (decimal f.whole) (decimals_of f.fraction)) most (subst (λ n. n ≤ most) only.0 f.limited) in
    record {
      len = ap (λ g. g.len) read ∙ ap length (sym f.shape.spelled);
      amount = ap amount_of read
          ∙ cond-true
          (nat_le (first_four (decimal f.whole) (decimals_of f.fraction)) most
          && list_all (λ d. d == 48) (drop 4 (decimals_of f.fraction)))
          _ _ (and_from _ _ limited only.1)
          ∙ ap (λ n. Some (record { sign = a.sign; ten_thousandths = n })) (sym only.0);
    }
