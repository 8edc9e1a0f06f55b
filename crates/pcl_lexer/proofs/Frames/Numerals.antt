-- The numbers of a frame, read and spelled.
use Rattle.std.proofs.Common.{◌≡◌, ℕ, zero, suc, ◌<◌, ◌≤◌, List, [], ◌∷◌, ◌++◌, length, drop, Bool, true, false, cond, Option, None, Some}
use Rattle.std.proofs.Common.{refl, sym, ap, subst, ◌∙◌, arith}
use Rattle.std.specs.Prelude.{ℤ, ◌==◌, ◌&&◌, not, nat_lt, nat_le}
use Rattle.std.specs.List.{list_all}
use Rattle.std.proofs.lemmas.Bool.{cond_both, cond-true, cond-false, and_from, leb-true, le-leb, lt-ltb, le-ltb, ltb-true, ltb-false}
use Rattle.std.proofs.lemmas.Bool.{both_ways}
use Rattle.std.proofs.lemmas.List.{append-nil}
use Rattle.std.proofs.Math.Seq.{drop-append_seam}
use Rattle.pcl_items.specs.declared.number.Sign.{Sign}
use Rattle.pcl_items.specs.declared.number.Sign.TheVariants.{Absent, Plus, Minus}
use Rattle.pcl_items.specs.declared.fault.LexCause.{LexCause}
use Rattle.pcl_items.specs.declared.fault.LexCause.TheVariants.{Syntax, Truncated, BadNumber}
use Rattle.pcl_items.specs.Escapes.Value.{Amount, most, most_units, signed}
use Rattle.pcl_lexer.specs.Escapes.Field.{Field, field_at, amount_of, decimal}
use Rattle.pcl_lexer.specs.Escapes.Ungrouped.{is_minus}
use Rattle.pcl_items.specs.Escapes.ValueField.{decimals_of, IsShape}
use Rattle.pcl_lexer.specs.Frames.NumberText.{Ends, EndsBefore, IsNumeral, IsCoordinate, IsSetting}
use Rattle.pcl_lexer.specs.Frames.Number.{coordinate_of, unsigned, setting_of, Numeral, Cut, Wrong, Read, has_digit, read_or, number_end}
use Rattle.pcl_lexer.specs.Frames.Number.{numeral_at}
use Rattle.pcl_lexer.specs.Frames.NumeralFaults.{NumeralFault, long, no_digit, no_value, cut_number}
use Rattle.pcl_lexer.proofs.Escapes.Tables.{both_true}
use Rattle.pcl_lexer.proofs.Escapes.Values.{first_four, zeros_write, only_zeros, split_value, is_written}
use Rattle.pcl_lexer.proofs.Escapes.Fields.{field_parts, parts_text, of_parts, EndsIn, ends_at_end, field_read}
use Rattle.pcl_lexer.proofs.Escapes.Shapes.{shape_read, shape_len, ends_in, longest, parts_shape}

-- ---- what a number has to be

-- the texts of a kind of number, by their parts
pub record Kinds {A : Type 0} (value : Field → Option A) (Is : List ℕ → A → Type 0) : Type 0 where
  pub from_value : (text : List ℕ) (s : Sign) (w : List ℕ) (o : Option (List ℕ)) (x : A) → IsNumeral text s w o →
      value (of_parts s w o) ≡ Some x → Is text x
  pub sign : (text : List ℕ) (x : A) → Is text x → Sign
  pub whole : (text : List ℕ) (x : A) → Is text x → List ℕ
  pub fraction : (text : List ℕ) (x : A) → Is text x → Option (List ℕ)
  pub numeral : (text : List ℕ) (x : A) (h : Is text x) → IsNumeral text (sign text x h) (whole text x h) (fraction text x h)
  pub has_value : (text : List ℕ) (x : A) (h : Is text x) → value (of_parts (sign text x h) (whole text x h) (fraction text x h)) ≡ Some x

abbrev pub Good : {A : Type 0} → (List ℕ → A → Type 0) → List ℕ → Type 0
Good {A = A} Is text = (x : A) × Is text x

-- ---- a shape by itself

parts_field : (text : List ℕ) (s : Sign) (w : List ℕ) (o : Option (List ℕ)) → IsShape text s w o → field_at text ≡ of_parts s w o
parts_field text s w o h = ap field_at (sym (append-nil text)) ∙ shape_read text s w o [] h (ends_at_end s w o)

-- two shapes of one text are one field
same_parts : (text : List ℕ) (s t : Sign) (w v : List ℕ) (o q : Option (List ℕ)) → IsShape text s w o → IsShape text t v q →
    of_parts s w o ≡ of_parts t v q
same_parts text s t w v o q h k = sym (parts_field text s w o h) ∙ parts_field text t v q k

pub ends_before : (text : List ℕ) (s : Sign) (w : List ℕ) (o : Option (List ℕ)) (rest : List ℕ) → IsShape text s w o →
    EndsBefore text rest → EndsIn s w o rest
ends_before text s w o [] h e = ends_at_end s w o
ends_before text s w o (c ∷ rest) h e = ends_in text s w o c rest h e

pub positive_digit : (n : ℕ) → 0 < n → not (n == 0) ≡ true
positive_digit zero h = absurd (omega arith)
positive_digit (suc n) h = let e : (suc n == 0) ≡ false = grind arith in ap not e

digit_positive : (n : ℕ) → not (n == 0) ≡ true → 0 < n
digit_positive zero h = absurd cc
digit_positive (suc n) h = omega arith

none_zero : (n : ℕ) → not (n == 0) ≡ false → n ≡ 0
none_zero zero h = refl
none_zero (suc n) h = let e : (suc n == 0) ≡ false = grind arith in let both : true ≡ false = sym (ap not e) ∙ h in absurd cc

-- ---- what is read is spelled, or has a fault

-- a number that is read, and what stands behind it
pub record NumberRead {A : Type 0} (Is : List ℕ → A → Type 0) (bytes : List ℕ) (x : A) (len : ℕ) : Type 0 where
  pub text : List ℕ
  pub is : Is text x
  pub whole : bytes ≡ text ++ drop len bytes
  pub len_is : len ≡ length text
  pub ends : EndsBefore text (drop len bytes)

abbrev pub TellsNumeral : {A : Type 0} → (List ℕ → A → Type 0) → List ℕ → Numeral A → Type 0
TellsNumeral Is bytes Cut = NumeralFault (Good Is) bytes Truncated
TellsNumeral Is bytes (Wrong cause) = NumeralFault (Good Is) bytes cause
TellsNumeral Is bytes (Read x len) = NumberRead Is bytes x len

-- the field that is read, of at most 16 characters
record Front (bytes : List ℕ) : Type 0 where
  fraction : Option (List ℕ)
  shape : IsShape (parts_text (field_at bytes).sign (field_at bytes).whole fraction) (field_at bytes).sign (field_at bytes).whole fraction
  text : bytes ≡ parts_text (field_at bytes).sign (field_at bytes).whole fraction ++ drop (field_at bytes).len bytes
  len : (field_at bytes).len ≡ length (parts_text (field_at bytes).sign (field_at bytes).whole fraction)
  is_parts : field_at bytes ≡ of_parts (field_at bytes).sign (field_at bytes).whole fraction

front : (bytes : List ℕ) → Front bytes
front bytes =
    let f = field_at bytes in
    let p = field_parts bytes in
    record {
      fraction = p.fraction;
      shape = parts_shape bytes f p;
      text = p.text;
      len = p.len;
      is_parts = λ i. record { sign = f.sign; whole = f.whole; decimals = p.decimals i; len = p.len i };
    }

abbrev text_of : (bytes : List ℕ) → Front bytes → List ℕ
text_of bytes p = parts_text (field_at bytes).sign (field_at bytes).whole p.fraction

-- what the field is not, its text is not
not_good : {A : Type 0} (value : Field → Option A) (Is : List ℕ → A → Type 0) (k : Kinds value Is) (bytes : List ℕ) (p : Front bytes) →
    value (field_at bytes) ≡ None → Good Is (text_of bytes p) → ⊥
not_good value Is k bytes p e g =
    let n = k.numeral (text_of bytes p) g.0 g.1 in
    let same = same_parts (text_of bytes p) _ _ _ _ _ _ n.shape p.shape in
    let some : value (field_at bytes) ≡ Some g.0 = ap value (p.is_parts ∙ sym same) ∙ k.has_value (text_of bytes p) g.0 g.1 in
    let both : None ≡ Some g.0 = sym e ∙ some in absurd cc

no_digit_good : {A : Type 0} (value : Field → Option A) (Is : List ℕ → A → Type 0) (k : Kinds value Is) (bytes : List ℕ) (p : Front bytes) →
    has_digit (field_at bytes) ≡ false → Good Is (text_of bytes p) → ⊥
no_digit_good value Is k bytes p e g =
    let n = k.numeral (text_of bytes p) g.0 g.1 in
    let same = same_parts (text_of bytes p) _ _ _ _ _ _ n.shape p.shape in
    let some : has_digit (field_at bytes) ≡ true = ap has_digit (p.is_parts ∙ sym same) ∙ positive_digit _ n.digit in
    both_ways (has_digit (field_at bytes)) e some

is_numeral : (bytes : List ℕ) (p : Front bytes) → (field_at bytes).len ≤ 16 → has_digit (field_at bytes) ≡ true →
    IsNumeral (text_of bytes p) (field_at bytes).sign (field_at bytes).whole p.fraction
is_numeral bytes p short d =
    record { shape = p.shape; digit = digit_positive _ (sym (ap has_digit p.is_parts) ∙ d); short = omega (arith, p.len, short) }

told_value : {A : Type 0} (value : Field → Option A) (Is : List ℕ → A → Type 0) (k : Kinds value Is) (bytes : List ℕ) (p : Front bytes)
    (r : Numeral A) (o : Option A) → (field_at bytes).len ≤ 16 → has_digit (field_at bytes) ≡ true → value (field_at bytes) ≡ o →
    EndsBefore (text_of bytes p) (drop (field_at bytes).len bytes) → ((Good Is (text_of bytes p) → ⊥) → TellsNumeral Is bytes r) →
    TellsNumeral Is bytes (read_or r o (field_at bytes).len)
told_value value Is k bytes p r None short d e ends h = h (not_good value Is k bytes p e)
told_value value Is k bytes p r (Some x) short d e ends h =
    record {
      text = text_of bytes p;
      is = k.from_value (text_of bytes p) _ _ _ x (is_numeral bytes p short d) (ap value (sym p.is_parts) ∙ e);
      whole = p.text;
      len_is = p.len;
      ends = ends;
    }

told_rest : {A : Type 0} (value : Field → Option A) (Is : List ℕ → A → Type 0) (k : Kinds value Is) (bytes : List ℕ) (p : Front bytes)
    (rest : List ℕ) → (field_at bytes).len ≤ 16 → drop (field_at bytes).len bytes ≡ rest →
    TellsNumeral Is bytes (number_end true (has_digit (field_at bytes)) (value (field_at bytes)) (field_at bytes).len rest)
told_rest value Is k bytes p [] short e =
    let whole : bytes ≡ text_of bytes p = p.text ∙ ap (λ l. text_of bytes p ++ l) e ∙ append-nil (text_of bytes p) in
    let cut_here : (Good Is (text_of bytes p) → ⊥) → NumeralFault (Good Is) bytes Truncated =
    λ g. subst (λ (l : List ℕ). NumeralFault (Good Is) l Truncated) (sym whole) (cut_number p.shape (omega (arith, p.len, short)) g) in
    cond_both (has_digit (field_at bytes)) _ _ (TellsNumeral Is bytes)
    (λ d.
    told_value value Is k bytes p Cut (value (field_at bytes)) short d refl (subst (EndsBefore (text_of bytes p)) (sym e) tt) cut_here)
    (λ d. cut_here (no_digit_good value Is k bytes p d))
told_rest value Is k bytes p (c ∷ rest) short e =
    let text : List ℕ = text_of bytes p in
    let whole : bytes ≡ text ++ c ∷ rest = p.text ∙ ap (λ l. text ++ l) e in
    let ends : Ends text c = longest text c rest (ap (λ l. (field_at l).len) (sym whole) ∙ p.len) in
    let fits : length text ≤ 16 = omega (arith, p.len, short) in
    cond_both (has_digit (field_at bytes)) _ _ (TellsNumeral Is bytes)
    (λ d. told_value value Is k bytes p (Wrong BadNumber) (value (field_at bytes)) short d refl (subst (EndsBefore text) (sym e) ends)
    (λ g. subst (λ (l : List ℕ). NumeralFault (Good Is) l BadNumber) (sym whole) (no_value rest (is_numeral bytes p short d) g ends)))
    (λ d. subst (λ (l : List ℕ). NumeralFault (Good Is) l Syntax) (sym whole)
    (no_digit rest p.shape fits (none_zero _ (sym (ap has_digit p.is_parts) ∙ d)) ends))

pub numeral_told : {A : Type 0} (value : Field → Option A) (Is : List ℕ → A → Type 0) (k : Kinds value Is) (bytes : List ℕ) →
    TellsNumeral Is bytes (numeral_at value true bytes)
unfolding numeral_at
numeral_told value Is k bytes =
    let p = front bytes in
    cond_both (nat_lt 16 (field_at bytes).len) _ _ (TellsNumeral Is bytes)
    (λ e. subst (λ (l : List ℕ). NumeralFault (Good Is) l BadNumber) (sym p.text)
    (long (drop (field_at bytes).len bytes) p.shape (omega (arith, p.len, ltb-true 16 (field_at bytes).len e))))
    (λ e. told_rest value Is k bytes p (drop (field_at bytes).len bytes) (ltb-false 16 (field_at bytes).len e) refl)

-- ---- what is spelled is read

short_read : {A : Type 0} (whole : Bool) (value : Field → Option A) (text : List ℕ) (s : Sign) (w : List ℕ) (o : Option (List ℕ))
    (rest : List ℕ) → IsShape text s w o → length text ≤ 16 → EndsBefore text rest →
    numeral_at value whole (text ++ rest) ≡ number_end whole (has_digit (of_parts s w o)) (value (of_parts s w o)) (length text) rest
unfolding numeral_at
short_read whole value text s w o rest h short ends =
    let l : List ℕ = text ++ rest in
    let read : field_at l ≡ of_parts s w o = shape_read text s w o rest h (ends_before text s w o rest h ends) in
    let len : (field_at l).len ≡ length text = ap (λ f. f.len) read ∙ ap length (sym h.spelled) in
    let fits : (field_at l).len ≤ 16 = omega (arith, len, short) in
    cond-false (nat_lt 16 (field_at l).len) _ _ (le-ltb 16 (field_at l).len fits)
    ∙ ap (λ n. number_end whole (has_digit (field_at l)) (value (field_at l)) n (drop n l)) len
    ∙ ap (number_end whole (has_digit (field_at l)) (value (field_at l)) (length text)) (drop-append_seam text rest)
    ∙ ap (λ f. number_end whole (has_digit f) (value f) (length text) rest) read

-- the bytes behind a number that ends before them, where more may come or not, decide it
abbrev pub IsDecided : Bool → List ℕ → Type 0
IsDecided true rest = Unit {0}
IsDecided false [] = ⊥
IsDecided false (c ∷ rest) = Unit {0}

value_read : {A : Type 0} (whole : Bool) (x : A) (len : ℕ) (rest : List ℕ) → IsDecided whole rest →
    number_end whole true (Some x) len rest ≡ Read x len
value_read true x len [] d = refl
value_read false x len [] d = absurd d
value_read whole x len (c ∷ rest) d = refl

pub numeral_read : {A : Type 0} (whole : Bool) (value : Field → Option A) (Is : List ℕ → A → Type 0) (k : Kinds value Is) (text : List ℕ)
    (x : A) (rest : List ℕ) → IsDecided whole rest → Is text x → EndsBefore text rest →
    numeral_at value whole (text ++ rest) ≡ Read x (length text)
numeral_read whole value Is k text x rest d h ends =
    let n = k.numeral text x h in
    short_read whole value text _ _ _ rest n.shape n.short ends
    ∙ ap (λ b. number_end whole b (value (of_parts (k.sign text x h) (k.whole text x h) (k.fraction text x h))) (length text) rest)
    (positive_digit _ n.digit)
    ∙ ap (λ o. number_end whole true o (length text) rest) (k.has_value text x h)
    ∙ value_read whole x (length text) rest d

-- a fault, or the end of the bytes in a number
abbrev pub CausesNumeral : {A : Type 0} → Numeral A → LexCause → Type 0
CausesNumeral Cut cause = cause ≡ Truncated
CausesNumeral (Wrong c) cause = cause ≡ c
CausesNumeral (Read x len) cause = ⊥

no_value_read : {A : Type 0} (value : Field → Option A) (Is : List ℕ → A → Type 0) (k : Kinds value Is) (text : List ℕ) (s : Sign)
    (w : List ℕ) (o : Option (List ℕ)) (r : Numeral A) (x : Option A) (cause : LexCause) →
    IsNumeral text s w o → (Good Is text → ⊥) → value (of_parts s w o) ≡ x → CausesNumeral r cause →
    CausesNumeral (read_or r x (length text)) cause
no_value_read value Is k text s w o r None cause n g e c = c
no_value_read value Is k text s w o r (Some x) cause n g e c = absurd (g (x, k.from_value text s w o x n e))

pub numeral_faulty : {A : Type 0} (value : Field → Option A) (Is : List ℕ → A → Type 0) (k : Kinds value Is) (bytes : List ℕ)
    (cause : LexCause) → NumeralFault (Good Is) bytes cause → CausesNumeral (numeral_at value true bytes) cause
unfolding numeral_at
numeral_faulty value Is k _ _ (long {text = text} {whole = w} {sign = s} {fraction = o} rest h many) =
    let len : 16 < (field_at (text ++ rest)).len = omega (arith, shape_len text s w o rest h) in
    subst (λ (n : Numeral _). CausesNumeral n BadNumber)
    (sym (cond-true (nat_lt 16 (field_at (text ++ rest)).len) _ _ (lt-ltb 16 (field_at (text ++ rest)).len len))) refl
numeral_faulty value Is k _ _ (no_digit {text = text} {whole = w} {sign = s} {fraction = o} {byte = c} rest h short none ends) =
    let digit : has_digit (of_parts s w o) ≡ false = ap (λ n. not (n == 0)) none in
    subst (λ (n : Numeral _). CausesNumeral n Syntax)
    (sym
    (short_read true value text s w o (c ∷ rest) h short ends
    ∙ ap (λ d. number_end true d (value (of_parts s w o)) (length text) (c ∷ rest)) digit))
    refl
numeral_faulty value Is k _ _ (no_value {text = text} {whole = w} {sign = s} {fraction = o} {byte = c} rest n g ends) =
    subst (λ (n : Numeral _). CausesNumeral n BadNumber)
    (sym
    (short_read true value text s w o (c ∷ rest) n.shape n.short ends
    ∙ ap (λ d. number_end true d (value (of_parts s w o)) (length text) (c ∷ rest)) (positive_digit _ n.digit)))
    (no_value_read value Is k text s w o (Wrong BadNumber) (value (of_parts s w o)) BadNumber n g refl refl)
numeral_faulty value Is k _ _ (cut_number {text = text} {whole = w} {sign = s} {fraction = o} h short g) =
    subst (λ (n : Numeral _). CausesNumeral n Truncated)
    (sym (ap (numeral_at value true) (sym (append-nil text)) ∙ short_read true value text s w o [] h short tt))
    (cond_both (has_digit (of_parts s w o)) _ _ (λ (n : Numeral _). CausesNumeral n Truncated)
    (λ d. no_value_read value Is k text s w o Cut (value (of_parts s w o)) Truncated
    (record { shape = h; digit = digit_positive _ d; short = short }) g refl refl)
    (λ _. refl))

-- ---- coordinates

some_if : {A : Type 0} (b : Bool) (x y : A) → cond b (Some x) None ≡ Some y → (b ≡ true) × (x ≡ y)
some_if true x y e = (refl, cc)
some_if false x y e = absurd cc

coordinate_from : (text : List ℕ) (s : Sign) (w : List ℕ) (o : Option (List ℕ)) (x : ℤ) → IsNumeral text s w o →
    coordinate_of (of_parts s w o) ≡ Some x → IsCoordinate text x
unfolding coordinate_of
coordinate_from text s w o x n e =
    let c = some_if (nat_le (decimal w) most_units && list_all (λ d. d == 48) (decimals_of o)) (signed s (decimal w)) x e in
    let t = both_true (nat_le (decimal w) most_units) (list_all (λ d. d == 48) (decimals_of o)) c.0 in
    record {
      sign = s;
      units = decimal w;
      whole = w;
      fraction = o;
      numeral = n;
      written = sym (split_value w (decimals_of o) n.shape.digits.0 ∙ zeros_write (decimal w) (decimals_of o) t.1);
      limited = leb-true (decimal w) most_units t.0;
      value = sym c.1;
    }

coordinate_value : (text : List ℕ) (x : ℤ) (h : IsCoordinate text x) → coordinate_of (of_parts h.sign h.whole h.fraction) ≡ Some x
unfolding coordinate_of
coordinate_value text x h =
    let n = h.numeral in
    let z =
    only_zeros h.units (decimal h.whole) (decimals_of h.fraction) n.shape.digits.1
    (h.written ∙ split_value h.whole (decimals_of h.fraction) n.shape.digits.0) in
    let small : decimal h.whole ≤ most_units = subst (λ (m : ℕ). m ≤ most_units) z.0 h.limited in
    cond-true (nat_le (decimal h.whole) most_units && list_all (λ d. d == 48) (decimals_of h.fraction)) _ _
    (and_from _ _ (le-leb (decimal h.whole) most_units small) z.1)
    ∙ ap (λ m. Some (signed h.sign m)) (sym z.0) ∙ ap Some (sym h.value)

pub coordinates : Kinds coordinate_of IsCoordinate
coordinates = record {
  from_value = coordinate_from;
  sign = λ text x h. h.sign;
  whole = λ text x h. h.whole;
  fraction = λ text x h. h.fraction;
  numeral = λ text x h. h.numeral;
  has_value = coordinate_value;
}

-- ---- the numbers of settings

record Unsigned (t : Bool) (s : Sign) (n m : ℕ) : Type 0 where
  test : t ≡ true
  not_below : s ≡ Minus → n ≡ 0
  number : n ≡ m

below_zero : (s : Sign) (n : ℕ) → (is_minus s && not (n == 0)) ≡ false → s ≡ Minus → n ≡ 0
below_zero Absent n h e = absurd cc
below_zero Plus n h e = absurd cc
below_zero Minus n h e = none_zero n h

unsigned_some : (t : Bool) (s : Sign) (n m : ℕ) → unsigned (cond t (Some (record { sign = s; ten_thousandths = n })) None) ≡ Some m →
    Unsigned t s n m
unsigned_some false s n m e = absurd cc
unsigned_some true s n m e = go (is_minus s && not (n == 0)) refl e
  where
    go : (b : Bool) → (is_minus s && not (n == 0)) ≡ b → cond b None (Some n) ≡ Some m → Unsigned true s n m
    go true k e = absurd cc
    go false k e = record { test = refl; not_below = below_zero s n k; number = cc }

setting_from : (text : List ℕ) (s : Sign) (w : List ℕ) (o : Option (List ℕ)) (x : ℕ) → IsNumeral text s w o →
    setting_of (of_parts s w o) ≡ Some x → IsSetting text x
unfolding amount_of
setting_from text s w o x n e =
    let m : ℕ = first_four (decimal w) (decimals_of o) in
    let u = unsigned_some (nat_le m most && list_all (λ d. d == 48) (drop 4 (decimals_of o))) s m x e in
    let t = both_true (nat_le m most) (list_all (λ d. d == 48) (drop 4 (decimals_of o))) u.test in
    subst (IsSetting text) u.number (record {
      sign = s;
      field = record {
        whole = w;
        fraction = o;
        shape = n.shape;
        short = n.short;
        written = is_written w (decimals_of o) n.shape.digits.0 n.shape.digits.1 t.1;
        limited = leb-true m most t.0;
      };
      digit = n.digit;
      not_below = u.not_below;
    })

not_below_false : (s : Sign) (n : ℕ) → (s ≡ Minus → n ≡ 0) → (is_minus s && not (n == 0)) ≡ false
not_below_false Absent n h = refl
not_below_false Plus n h = refl
not_below_false Minus n h = ap (λ m. not (m == 0)) (h refl)

setting_value : (text : List ℕ) (x : ℕ) (h : IsSetting text x) → setting_of (of_parts h.sign h.field.whole h.field.fraction) ≡ Some x
setting_value text x h =
    let b : Amount = record { sign = h.sign; ten_thousandths = x } in
    let read = field_read text b [] h.field (ends_at_end h.sign h.field.whole h.field.fraction) in
    let parts : field_at (text ++ []) ≡ of_parts h.sign h.field.whole h.field.fraction =
    shape_read text h.sign h.field.whole h.field.fraction [] h.field.shape (ends_at_end h.sign h.field.whole h.field.fraction) in
    ap setting_of (sym parts) ∙ ap unsigned read.amount
    ∙ cond-false (is_minus h.sign && not (x == 0)) _ _ (not_below_false h.sign x h.not_below)

pub settings : Kinds setting_of IsSetting
settings = record {
  from_value = setting_from;
  sign = λ text a h. h.sign;
  whole = λ text a h. h.field.whole;
  fraction = λ text a h. h.field.fraction;
  numeral = λ text a h. record { shape = h.field.shape; digit = h.digit; short = h.field.short };
  has_value = setting_value;
}
