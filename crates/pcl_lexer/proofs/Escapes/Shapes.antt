-- The shape of a field, what ends it, and the faults of its number.
use Rattle.std.proofs.Common.{◌≡◌, ℕ, ◌<◌, ◌≤◌, List, [], ◌∷◌, ◌++◌, length, drop, Bool, true, false, cond, Option, None, Some, refl, sym}
use Rattle.std.proofs.Common.{ap, subst, ◌∙◌, arith}
use Rattle.std.specs.Prelude.{◌==◌, ◌&&◌, nat_lt, nat_le}
use Rattle.std.specs.List.{list_all}
use Rattle.std.specs.Char.{digit_value, is_ascii_digit}
use Rattle.std.specs.Str.Parse.{AllDigits}
use Rattle.std.proofs.lemmas.Bool.{eqb-true, cond-true, cond-false, and_from, leb-true, le-leb, lt-ltb, le-ltb}
use Rattle.std.proofs.lemmas.Bool as bools
use Rattle.std.proofs.lemmas.List.{append-nil, append_assoc, length-append}
use Rattle.std.proofs.lemmas.List.Sums.{take_while-cons}
use Rattle.std.proofs.Math.Seq.{drop-append_seam, drop-length}
use Rattle.pcl_items.specs.declared.number.Sign.{Sign}
use Rattle.pcl_items.specs.declared.number.Sign.TheVariants.{Absent, Plus, Minus}
use Rattle.pcl_items.specs.declared.fault.LexCause.TheVariants.{BadNumber}
use Rattle.pcl_items.specs.Escapes.Value.{Amount, most}
use Rattle.pcl_lexer.specs.Escapes.Field.{Field, field_at, amount_of, decimal, ten_thousandths_of}
use Rattle.pcl_items.specs.Escapes.ValueField.{sign_text, decimals_of, IsWritten, IsShape}
use Rattle.pcl_lexer.specs.Faults.{Ends, NumberFault, too_long, out_of_range, IsCut, cut}
use Rattle.pcl_lexer.specs.Reader.{First, Faulty}
use Rattle.pcl_lexer.proofs.Escapes.Values.{first_four, is_written, only_written}
use Rattle.pcl_lexer.proofs.Escapes.Tables.{both_true, by_test}
use Rattle.pcl_lexer.proofs.Escapes.Fields.{Parts, field_parts, parts_text, of_parts, parts_read, EndsIn, ends_at_end, ends_at_letter}
use Rattle.pcl_lexer.proofs.Escapes.Fields.{passes_digit}
use Rattle.pcl_lexer.proofs.Lexing.Decided.{field-grows}

-- ---- a shape is read up to what ends it

pub shape_read : (text : List ℕ) (s : Sign) (w : List ℕ) (o : Option (List ℕ)) (rest : List ℕ) → IsShape text s w o → EndsIn s w o rest →
    field_at (text ++ rest) ≡ of_parts s w o
shape_read text s w o rest h end = ap (λ t. field_at (t ++ rest)) h.spelled ∙ parts_read s w o rest h.digits.0 h.digits.1 end

pub shape_len : (text : List ℕ) (s : Sign) (w : List ℕ) (o : Option (List ℕ)) (rest : List ℕ) → IsShape text s w o →
    length text ≤ (field_at (text ++ rest)).len
shape_len text s w o rest h =
    let whole : field_at text ≡ of_parts s w o = ap field_at (sym (append-nil text)) ∙ shape_read text s w o [] h (ends_at_end s w o) in
    let len : (field_at text).len ≡ length text = ap (λ f. f.len) whole ∙ ap length (sym h.spelled) in
    omega (arith, field-grows text rest, len)

-- ---- what goes on with a shape

digits_more : (ds : List ℕ) (c : ℕ) → AllDigits 10 ds → digit_value c < 10 → AllDigits 10 (ds ++ c ∷ [])
digits_more [] c h k = (k, tt)
digits_more (d ∷ ds) c h k = (h.0, digits_more ds c h.1 k)

no_more_digit : (text : List ℕ) (s : Sign) (w : List ℕ) (o : Option (List ℕ)) (c : ℕ) → IsShape text s w o → Ends text c →
    digit_value c < 10 → ⊥
no_more_digit text s w None c h e k =
    e.longest s (w ++ c ∷ []) None (record {
      spelled =
          ap (λ t. t ++ c ∷ []) (h.spelled ∙ ap (λ t. sign_text s ++ t) (append-nil w)) ∙ append_assoc (sign_text s) w (c ∷ [])
          ∙ ap (λ t. sign_text s ++ t) (sym (append-nil (w ++ c ∷ [])));
      digits = (digits_more w c h.digits.0 k, tt);
    })
no_more_digit text s w (Some ds) c h e k =
    e.longest s w (Some (ds ++ c ∷ [])) (record {
      spelled =
          ap (λ t. t ++ c ∷ []) h.spelled ∙ append_assoc (sign_text s) (w ++ 46 ∷ ds) (c ∷ [])
          ∙ ap (λ t. sign_text s ++ t) (append_assoc w (46 ∷ ds) (c ∷ []));
      digits = (h.digits.0, digits_more ds c h.digits.1 k);
    })

no_more_point : (text : List ℕ) (s : Sign) (w : List ℕ) (c : ℕ) → IsShape text s w None → Ends text c → c ≡ 46 → ⊥
no_more_point text s w c h e k =
    e.longest s w (Some []) (record {
      spelled =
          ap (λ t. t ++ c ∷ []) (h.spelled ∙ ap (λ t. sign_text s ++ t) (append-nil w)) ∙ append_assoc (sign_text s) w (c ∷ [])
          ∙ ap (λ n. sign_text s ++ (w ++ n ∷ [])) k;
      digits = (h.digits.0, tt);
    })

no_sign_first : (text : List ℕ) (c : ℕ) → IsShape text Absent [] None → Ends text c → (s : Sign) → c ∷ [] ≡ sign_text s → ⊥
no_sign_first text c h e s k =
    e.longest s [] None (record { spelled = ap (λ t. t ++ c ∷ []) h.spelled ∙ k ∙ sym (append-nil (sign_text s)); digits = (tt, tt) })

pub ends_in : (text : List ℕ) (s : Sign) (w : List ℕ) (o : Option (List ℕ)) (c : ℕ) (rest : List ℕ) → IsShape text s w o → Ends text c →
    EndsIn s w o (c ∷ rest)
ends_in text s w o c rest h e = record {
  no_digit =
      take_while-cons is_ascii_digit c rest
      ∙ cond-false (is_ascii_digit c) _ _ (by_test (is_ascii_digit c) (λ t. no_more_digit text s w o c h e (passes_digit c t)));
  no_point = λ n. by_test (c == 46) (λ t. no_more_point text s w c (subst (IsShape text s w) n h) e (eqb-true c 46 t));
  no_sign = λ a b n.
      let bare : IsShape text Absent [] None =
      subst (λ (z : Sign). IsShape text z [] None) a (subst (λ (v : List ℕ). IsShape text s v None) b (subst (IsShape text s w) n h)) in
      cond-false (c == 43) _ _ (by_test (c == 43) (λ t. no_sign_first text c bare e Plus (ap (λ n. n ∷ []) (eqb-true c 43 t))))
      ∙ cond-false (c == 45) _ _ (by_test (c == 45) (λ t. no_sign_first text c bare e Minus (ap (λ n. n ∷ []) (eqb-true c 45 t))));
}

-- ---- the field that is read is the longest

pub longest : (text : List ℕ) (c : ℕ) (rest : List ℕ) → (field_at (text ++ c ∷ rest)).len ≡ length text → Ends text c
longest text c rest e = record {
  longest = λ s w o h.
      let same : (text ++ c ∷ []) ++ rest ≡ text ++ c ∷ rest = append_assoc text (c ∷ []) rest in
      let long : length (text ++ c ∷ []) ≤ (field_at (text ++ c ∷ rest)).len =
      subst (λ (l : List ℕ). length (text ++ c ∷ []) ≤ (field_at l).len) same (shape_len (text ++ c ∷ []) s w o rest h) in
      absurd (omega (arith, length-append text (c ∷ [])));
}

pub parts_shape : (l : List ℕ) (f : Field) (p : Parts l f) → IsShape (parts_text f.sign f.whole p.fraction) f.sign f.whole p.fraction
parts_shape l f p = record { spelled = refl; digits = (p.whole_digits, p.fraction_digits) }

-- ---- the faults of a number

pub long_fault : (bytes : List ℕ) → 16 < (field_at bytes).len → NumberFault bytes
long_fault bytes h =
    let p = field_parts bytes in
    subst NumberFault (sym p.text)
    (too_long (drop (field_at bytes).len bytes) (parts_shape bytes (field_at bytes) p) (omega (arith, p.len)))

none_if : (b : Bool) (x : Amount) → cond b (Some x) None ≡ None → b ≡ false
none_if true x e = absurd cc
none_if false x e = refl

past_limit : (a b : Bool) → (a && b) ≡ false → b ≡ true → a ≡ false
past_limit true b h k = absurd (bools.both_ways b h k)
past_limit false b h k = refl

pub range_fault : (bytes : List ℕ) (c : ℕ) (rest : List ℕ) → (field_at bytes).len ≤ 16 → drop (field_at bytes).len bytes ≡ c ∷ rest →
    amount_of (field_at bytes) ≡ None → NumberFault bytes
unfolding amount_of
range_fault bytes c rest short d e =
    let f = field_at bytes in
    let p = field_parts bytes in
    let text : List ℕ = parts_text f.sign f.whole p.fraction in
    let whole : bytes ≡ text ++ c ∷ rest = p.text ∙ ap (λ t. text ++ t) d in
    let len : (field_at (text ++ c ∷ rest)).len ≡ length text = ap (λ l. (field_at l).len) (sym whole) ∙ p.len in
    let test =
    none_if (nat_le (ten_thousandths_of f) most && list_all (λ d. d == 48) (drop 4 f.decimals))
    (record { sign = f.sign; ten_thousandths = ten_thousandths_of f }) e in
    subst NumberFault (sym whole) (out_of_range rest (parts_shape bytes f p) (omega (arith, p.len)) (longest text c rest len) (λ n written.
    let only =
    only_written n f.whole f.decimals p.whole_digits (subst (AllDigits 10) (sym p.decimals) p.fraction_digits)
    (subst (IsWritten n f.whole) (sym p.decimals) written) in
    let past : most < ten_thousandths_of f =
    bools.leb-false (ten_thousandths_of f) most
    (past_limit (nat_le (ten_thousandths_of f) most) (list_all (λ d. d == 48) (drop 4 f.decimals)) test only.1) in
    subst (λ (m : ℕ). most < m) (sym only.0) past))

pub cut_shape : (bytes : List ℕ) → (field_at bytes).len ≤ 16 → drop (field_at bytes).len bytes ≡ [] → IsCut bytes
cut_shape bytes short d =
    let f = field_at bytes in
    let p = field_parts bytes in
    let whole : bytes ≡ parts_text f.sign f.whole p.fraction =
    p.text ∙ ap (λ t. parts_text f.sign f.whole p.fraction ++ t) d ∙ append-nil (parts_text f.sign f.whole p.fraction) in
    subst IsCut (sym whole) (cut (parts_shape bytes f p) (omega (arith, p.len)))

-- how a fault of a number is read
abbrev pub with_field : (Field → List ℕ → First) → List ℕ → First
with_field next bytes = cond (nat_lt 16 (field_at bytes).len) (Faulty BadNumber) (next (field_at bytes) (drop (field_at bytes).len bytes))

some_none : (b : Bool) (x : Amount) → b ≡ false → cond b (Some x) None ≡ None
some_none b x e = cond-false b (Some x) None e

pub number_fault : (next : Field → List ℕ → First) (bytes : List ℕ) →
    ((f : Field) (c : ℕ) (rest : List ℕ) → amount_of f ≡ None → next f (c ∷ rest) ≡ Faulty BadNumber) → NumberFault bytes →
    with_field next bytes ≡ Faulty BadNumber
unfolding amount_of
number_fault next bytes faulty (too_long {text = text} {whole = whole} {sign = sign} {fraction = fraction} rest h long) =
    let len : 16 < (field_at (text ++ rest)).len = omega (arith, shape_len text sign whole fraction rest h) in
    cond-true (nat_lt 16 (field_at (text ++ rest)).len) _ _ (lt-ltb 16 (field_at (text ++ rest)).len len)
number_fault next bytes faulty
    (out_of_range {text = text} {whole = whole} {sign = sign} {fraction = fraction} {byte = c} rest h short e none) =
    let l : List ℕ = text ++ c ∷ rest in
    let read : field_at l ≡ of_parts sign whole fraction =
    shape_read text sign whole fraction (c ∷ rest) h (ends_in text sign whole fraction c rest h e) in
    let len : (field_at l).len ≡ length text = ap (λ f. f.len) read ∙ ap length (sym h.spelled) in
    let fits : (field_at l).len ≤ 16 = omega (arith, len, short) in
    let n : ℕ = first_four (decimal whole) (decimals_of fraction) in
    let test : (nat_le n most && list_all (λ d. d == 48) (drop 4 (decimals_of fraction))) ≡ false =
    by_test (nat_le n most && list_all (λ d. d == 48) (drop 4 (decimals_of fraction))) (λ t.
    let b = both_true (nat_le n most) (list_all (λ d. d == 48) (drop 4 (decimals_of fraction))) t in
    let low : n ≤ most = leb-true n most b.0 in
    let high : most < n = none n (is_written whole (decimals_of fraction) h.digits.0 h.digits.1 b.1) in
    absurd (omega arith)) in
    let no : amount_of (field_at l) ≡ None =
    ap amount_of read ∙ cond-false (nat_le n most && list_all (λ d. d == 48) (drop 4 (decimals_of fraction))) _ _ test in
    cond-false (nat_lt 16 (field_at l).len) _ _ (le-ltb 16 (field_at l).len fits)
    ∙ ap (λ k. next (field_at l) (drop k l)) len ∙ ap (next (field_at l)) (drop-append_seam text (c ∷ rest)) ∙ faulty (field_at l) c rest no

pub cut_read : (next : Field → List ℕ → First) (bytes : List ℕ) → IsCut bytes → (f : Field) × (with_field next bytes ≡ next f [])
cut_read next bytes (cut {text = text} {whole = whole} {sign = sign} {fraction = fraction} h short) =
    let read : field_at text ≡ of_parts sign whole fraction =
    ap field_at (sym (append-nil text)) ∙ shape_read text sign whole fraction [] h (ends_at_end sign whole fraction) in
    let len : (field_at text).len ≡ length text = ap (λ f. f.len) read ∙ ap length (sym h.spelled) in
    let fits : (field_at text).len ≤ 16 = omega (arith, len, short) in (
      field_at text,
      cond-false (nat_lt 16 (field_at text).len) _ _ (le-ltb 16 (field_at text).len fits) ∙ ap (λ k. next (field_at text) (drop k text)) len
          ∙ ap (next (field_at text)) (drop-length text),
    )

-- .. and how one is read that goes on with a byte that no field holds
pub cut_goes_on : (next : Field → List ℕ → First) (bytes : List ℕ) (c : ℕ) (rest : List ℕ) → 58 ≤ c → IsCut bytes →
    (f : Field) × (with_field next (bytes ++ c ∷ rest) ≡ next f (c ∷ rest))
cut_goes_on next bytes c rest high (cut {text = text} {whole = whole} {sign = sign} {fraction = fraction} h short) =
    let l : List ℕ = text ++ c ∷ rest in
    let read : field_at l ≡ of_parts sign whole fraction =
    shape_read text sign whole fraction (c ∷ rest) h (ends_at_letter sign whole fraction c rest high) in
    let len : (field_at l).len ≡ length text = ap (λ f. f.len) read ∙ ap length (sym h.spelled) in
    let fits : (field_at l).len ≤ 16 = omega (arith, len, short) in (
      field_at l,
      cond-false (nat_lt 16 (field_at l).len) _ _ (le-ltb 16 (field_at l).len fits) ∙ ap (λ k. next (field_at l) (drop k l)) len
          ∙ ap (next (field_at l)) (drop-append_seam text (c ∷ rest)),
    )
