-- Digits read one behind another: the number that they give so far, and what is left of them.
use Rattle.std.proofs.Common.{◌≡◌, ℕ, zero, suc, ◌+◌, ◌-◌, ◌*◌, ◌/◌, ◌<◌, ◌≤◌, List, [], ◌∷◌, length, get_or, drop, take, Bool, true, false}
use Rattle.std.proofs.Common.{cond, Option, None, Some, refl, sym, ap, ◌∙◌, inl, inr, arith}
use Rattle.std.specs.Prelude.{◌==◌, ◌&&◌, ◌⊎◌, nat_le, min}
use Rattle.std.specs.List.{fold, list_all}
use Rattle.std.specs.Char.{is_ascii_digit}
use Rattle.std.proofs.lemmas.Bool.{cond-true, cond-false, eq-eqb, eqb-true, leb-true, lt-leb, cases_lt}
use Rattle.std.proofs.Math.Nat.{mul-le-mul_left}
use Rattle.std.proofs.lemmas.List.{at_drop_more, at_drop_all, length-drop, take_all}
use Rattle.std.proofs.lemmas.List.Sums.{take_while-cons}
use Rattle.pcl_items.specs.declared.number.Sign.{Sign}
use Rattle.pcl_items.specs.Escapes.Value.{Amount, most}
use Rattle.pcl_lexer.specs.Escapes.Field.{Field, field_at, digits, sign_at, sign_len, has_point, next_digit, decimal, four}
use Rattle.pcl_lexer.specs.Escapes.Field.{ten_thousandths_of, amount_of}
use Rattle.pcl_lexer.proofs.Escapes.Tables.{both_true, by_test}
use Rattle.pcl_lexer.proofs.Escapes.Fields.{field_from}

-- ---- the digits from a place on

pub digit_here : (bytes : List ℕ) (i b : ℕ) → i < length bytes → b ≡ get_or bytes i 0 → is_ascii_digit b ≡ true →
    digits (drop i bytes) ≡ b ∷ digits (drop (i + 1) bytes)
digit_here bytes i b h is e =
    at_drop_more digits bytes i 0 h ∙ ap (λ c. digits (c ∷ drop (i + 1) bytes)) (sym is)
    ∙ take_while-cons is_ascii_digit b (drop (i + 1) bytes) ∙ cond-true (is_ascii_digit b) _ _ e

pub digits_end : (bytes : List ℕ) (i b : ℕ) → i < length bytes → b ≡ get_or bytes i 0 → is_ascii_digit b ≡ false →
    digits (drop i bytes) ≡ []
digits_end bytes i b h is e =
    at_drop_more digits bytes i 0 h ∙ ap (λ c. digits (c ∷ drop (i + 1) bytes)) (sym is)
    ∙ take_while-cons is_ascii_digit b (drop (i + 1) bytes) ∙ cond-false (is_ascii_digit b) _ _ e

pub digits_all : (bytes : List ℕ) (i : ℕ) → length bytes ≤ i → digits (drop i bytes) ≡ []
digits_all bytes i h = at_drop_all digits bytes i h

-- the digits among the first n bytes are all, where something else stands behind them
pub digits_in_front : (n : ℕ) (l : List ℕ) → length (digits (take n l)) < n → digits (take n l) ≡ digits l
digits_in_front zero l h = absurd (omega (arith, h))
digits_in_front (suc n) [] h = refl
digits_in_front (suc n) (b ∷ l) h = go (is_ascii_digit b) refl (λ k. digits_in_front n l k)
  where
    go : (t : Bool) → is_ascii_digit b ≡ t → (length (digits (take n l)) < n → digits (take n l) ≡ digits l) →
        digits (b ∷ take n l) ≡ digits (b ∷ l)
    go true e more =
        let cut : digits (b ∷ take n l) ≡ b ∷ digits (take n l) =
        take_while-cons is_ascii_digit b (take n l) ∙ cond-true (is_ascii_digit b) _ _ e in
        let whole : digits (b ∷ l) ≡ b ∷ digits l = take_while-cons is_ascii_digit b l ∙ cond-true (is_ascii_digit b) _ _ e in
        let size : length (digits (b ∷ take n l)) ≡ length (b ∷ digits (take n l)) = ap length cut in
        cut ∙ ap (λ ds. b ∷ ds) (more (omega (arith, h, size))) ∙ sym whole
    go false e more =
        take_while-cons is_ascii_digit b (take n l) ∙ cond-false (is_ascii_digit b) _ _ e
        ∙ sym (take_while-cons is_ascii_digit b l ∙ cond-false (is_ascii_digit b) _ _ e)

-- ---- a number up to a limit

pub fold_grows : (ds : List ℕ) (n : ℕ) → n ≤ fold next_digit n ds
fold_grows [] n = omega arith
fold_grows (d ∷ ds) n = omega (arith, fold_grows ds (10 * n + (d - 48)))

-- a limit on the way makes no other number
abbrev pub limited : ℕ → ℕ → ℕ
limited past n = min n past

fold_limited : (past : ℕ) (ds : List ℕ) (n : ℕ) → limited past (fold next_digit (limited past n) ds) ≡ limited past (fold next_digit n ds)
fold_limited past [] n = omega arith
fold_limited past (d ∷ ds) n =
    let same : limited past (10 * limited past n + (d - 48)) ≡ limited past (10 * n + (d - 48)) = omega arith in
    sym (fold_limited past ds (10 * limited past n + (d - 48))) ∙ ap (λ m. limited past (fold next_digit m ds)) same
    ∙ fold_limited past ds (10 * n + (d - 48))

-- so many bytes are digits, and this is their number
pub record IsNumberSoFar (past : ℕ) (bytes : List ℕ) (i n : ℕ) : Type 0 where
  pub len : i + length (digits (drop i bytes)) ≡ length (digits bytes)
  pub number : limited past (fold next_digit n (digits (drop i bytes))) ≡ limited past (fold next_digit 0 (digits bytes))
  pub within : n ≤ past

pub number_none : (past : ℕ) (bytes : List ℕ) → IsNumberSoFar past bytes 0 0
number_none past bytes = record { len = omega arith; number = refl; within = omega arith }

pub number_more : (past : ℕ) (bytes : List ℕ) (i n b : ℕ) → IsNumberSoFar past bytes i n → i < length bytes → b ≡ get_or bytes i 0 →
    is_ascii_digit b ≡ true → IsNumberSoFar past bytes (i + 1) (limited past (10 * n + (b - 48)))
number_more past bytes i n b h inside is e =
    let here = digit_here bytes i b inside is e in
    let len : length (digits (drop i bytes)) ≡ length (b ∷ digits (drop (i + 1) bytes)) = ap length here in
    record {
      len = omega (arith, len, h.len);
      number =
          fold_limited past (digits (drop (i + 1) bytes)) (10 * n + (b - 48)) ∙ ap (λ ds. limited past (fold next_digit n ds)) (sym here)
          ∙ h.number;
      within = omega arith;
    }

-- where no further digit stands
pub number_is : (past : ℕ) (bytes : List ℕ) (i n : ℕ) → IsNumberSoFar past bytes i n → digits (drop i bytes) ≡ [] →
    (i ≡ length (digits bytes)) × (n ≡ limited past (fold next_digit 0 (digits bytes)))
number_is past bytes i n h e =
    let none : length (digits (drop i bytes)) ≡ 0 = ap length e in
    let same : limited past n ≡ limited past (fold next_digit 0 (digits bytes)) =
    sym (ap (λ ds. limited past (fold next_digit n ds)) e) ∙ h.number in
    (omega (arith, none, h.len), omega (arith, same, h.within))

-- ---- decimals

-- digits, of which each is worth a tenth of the one before
abbrev pub worth_of : ℕ → ℕ → List ℕ → ℕ
worth_of n w [] = n
worth_of n w (d ∷ ds) = worth_of (n + w * (d - 48)) (w / 10) ds

-- whether those that are worth nothing are zeros
abbrev pub are_exact : Bool → ℕ → List ℕ → Bool
are_exact b w [] = b
are_exact b w (d ∷ ds) = are_exact (cond ((w == 0) && (cond (d == 48) false true)) false b) (w / 10) ds

nothing_worth : (n : ℕ) (ds : List ℕ) → worth_of n 0 ds ≡ n
nothing_worth n [] = refl
nothing_worth n (d ∷ ds) = let same : n + 0 * (d - 48) ≡ n = omega arith in ap (λ m. worth_of m 0 ds) same ∙ nothing_worth n ds

four_worth : (n : ℕ) (ds : List ℕ) → worth_of (10000 * n) 1000 ds ≡ fold next_digit n (four ds)
four_worth n [] = omega arith
four_worth n (a ∷ []) = omega arith
four_worth n (a ∷ b ∷ []) = omega arith
four_worth n (a ∷ b ∷ c ∷ []) = omega arith
four_worth n (a ∷ b ∷ c ∷ d ∷ ds) = nothing_worth _ ds ∙ omega arith

exact_none : (b : Bool) (ds : List ℕ) → are_exact b 0 ds ≡ (b && list_all (λ d. d == 48) ds)
exact_none true [] = refl
exact_none false [] = refl
exact_none b (d ∷ ds) = by_digit (d == 48) b (λ c. exact_none c ds)
  where
    by_digit : (t b : Bool) → ((c : Bool) → are_exact c 0 ds ≡ (c && list_all (λ d. d == 48) ds)) →
        are_exact (cond (cond t false true) false b) 0 ds ≡ (b && (t && list_all (λ d. d == 48) ds))
    by_digit true b h = h b
    by_digit false true h = h false
    by_digit false false h = h false

four_exact : (ds : List ℕ) → are_exact true 1000 ds ≡ list_all (λ d. d == 48) (drop 4 ds)
four_exact [] = refl
four_exact (a ∷ []) = refl
four_exact (a ∷ b ∷ []) = refl
four_exact (a ∷ b ∷ c ∷ []) = refl
four_exact (a ∷ b ∷ c ∷ d ∷ ds) = exact_none true ds

-- so many bytes are decimals behind a whole number, the next is worth so much
pub record AreDecimalsSoFar (whole : ℕ) (bytes : List ℕ) (i n w : ℕ) (exact : Bool) : Type 0 where
  pub len : i + length (digits (drop i bytes)) ≡ length (digits bytes)
  pub value : worth_of n w (digits (drop i bytes)) ≡ worth_of (10000 * whole) 1000 (digits bytes)
  pub is_exact : are_exact exact w (digits (drop i bytes)) ≡ are_exact true 1000 (digits bytes)
  pub within : n + 10 * w ≤ 655370000

pub decimals_none : (whole : ℕ) (bytes : List ℕ) → whole ≤ 65536 → AreDecimalsSoFar whole bytes 0 (10000 * whole) 1000 true
decimals_none whole bytes h = record { len = omega arith; value = refl; is_exact = refl; within = omega arith }

-- the digit keeps them exact, or not
pub data StaysExact (w b : ℕ) (exact : Bool) : Bool → Type 0 where
  worthless : w ≡ 0 → (b ≡ 48 → ⊥) → StaysExact w b exact false
  zero_digit : b ≡ 48 → StaysExact w b exact exact
  worth_some : (w ≡ 0 → ⊥) → StaysExact w b exact exact

stays_exact : (w b : ℕ) (exact exact2 : Bool) → StaysExact w b exact exact2 →
    exact2 ≡ cond ((w == 0) && (cond (b == 48) false true)) false exact
stays_exact w b exact _ (worthless e f) =
    let t = eq-eqb w 0 e in let u : (b == 48) ≡ false = by_test (b == 48) (λ h. f (eqb-true b 48 h)) in sym (rw (t, u) refl)
stays_exact w b exact _ (zero_digit e) = let t = eq-eqb b 48 e in by_worth (w == 0) (b == 48) t
  where
    by_worth : (x y : Bool) → y ≡ true → exact ≡ cond (x && (cond y false true)) false exact
    by_worth true y h = rw h refl
    by_worth false y h = refl
stays_exact w b exact _ (worth_some f) = let t : (w == 0) ≡ false = by_test (w == 0) (λ h. f (eqb-true w 0 h)) in sym (rw t refl)

pub decimals_more : (whole : ℕ) (bytes : List ℕ) (i n w b d : ℕ) (exact exact2 : Bool) → AreDecimalsSoFar whole bytes i n w exact →
    i < length bytes → b ≡ get_or bytes i 0 → is_ascii_digit b ≡ true →
    d ≡ b - 48 → StaysExact w b exact exact2 → AreDecimalsSoFar whole bytes (i + 1) (n + w * d) (w / 10) exact2
decimals_more whole bytes i n w b d exact exact2 h inside is e digit stays =
    let here = digit_here bytes i b inside is e in
    let len : length (digits (drop i bytes)) ≡ length (b ∷ digits (drop (i + 1) bytes)) = ap length here in
    let t = both_true (nat_le 48 b) (nat_le b 57) e in
    let low : d ≤ 9 = omega (arith, leb-true b 57 t.1) in
    let small : w * d ≤ w * 9 = mul-le-mul_left w low in
    record {
      len = omega (arith, len, h.len);
      value = ap (λ m. worth_of (n + w * m) (w / 10) (digits (drop (i + 1) bytes))) digit ∙ ap (worth_of n w) (sym here) ∙ h.value;
      is_exact =
          ap (λ x. are_exact x (w / 10) (digits (drop (i + 1) bytes))) (stays_exact w b exact exact2 stays)
          ∙ ap (are_exact exact w) (sym here) ∙ h.is_exact;
      within = omega (arith, small, h.within);
    }

-- what the decimals come to where no further digit stands
pub record DecimalsAre (whole : ℕ) (bytes : List ℕ) (i n : ℕ) (exact : Bool) : Type 0 where
  pub len : i ≡ length (digits bytes)
  pub value : n ≡ fold next_digit whole (four (digits bytes))
  pub is_exact : exact ≡ list_all (λ d. d == 48) (drop 4 (digits bytes))

pub decimals_are : (whole : ℕ) (bytes : List ℕ) (i n w : ℕ) (exact : Bool) → AreDecimalsSoFar whole bytes i n w exact →
    digits (drop i bytes) ≡ [] → DecimalsAre whole bytes i n exact
decimals_are whole bytes i n w exact h e =
    let none : length (digits (drop i bytes)) ≡ 0 = ap length e in
    record {
      len = omega (arith, none, h.len);
      value = sym (ap (worth_of n w) e) ∙ h.value ∙ four_worth whole (digits bytes);
      is_exact = sym (ap (are_exact exact w) e) ∙ h.is_exact ∙ four_exact (digits bytes);
    }

-- ---- the field

abbrev pub within_limit : Sign → ℕ → Option Amount
within_limit s n = cond (nat_le n most) (Some (record { sign = s; ten_thousandths = n })) None

past_limit : (s : Sign) (n : ℕ) → most < n → within_limit s n ≡ None
past_limit s n h = cond-false (nat_le n most) _ _ (lt-leb n most h)

-- four decimals make a whole part ten thousand times as great
four_grow : (ds : List ℕ) (n : ℕ) → 10000 * n ≤ fold next_digit n (four ds)
four_grow [] n = omega arith
four_grow (a ∷ []) n = omega arith
four_grow (a ∷ b ∷ []) n = omega arith
four_grow (a ∷ b ∷ c ∷ []) n = omega arith
four_grow (a ∷ b ∷ c ∷ d ∷ ds) n = omega arith

-- a whole part past the limit makes no number, whichever it is
limit_same : (s : Sign) (n : ℕ) (ds : List ℕ) →
    within_limit s (fold next_digit (limited 65536 n) (four ds)) ≡ within_limit s (fold next_digit n (four ds))
limit_same s n ds = go (cases_lt 65535 n)
  where
    go : (65535 < n) ⊎ (n ≤ 65535) →
        within_limit s (fold next_digit (limited 65536 n) (four ds)) ≡ within_limit s (fold next_digit n (four ds))
    go (inl past) =
        past_limit s (fold next_digit (limited 65536 n) (four ds)) (omega (arith, four_grow ds (limited 65536 n)))
        ∙ sym (past_limit s (fold next_digit n (four ds)) (omega (arith, four_grow ds n)))
    go (inr low) = let same : limited 65536 n ≡ n = omega arith in ap (λ m. within_limit s (fold next_digit m (four ds))) same

both_tests : (a b : Bool) (x : Option Amount) → cond (a && b) x None ≡ cond b (cond a x None) None
both_tests true true x = refl
both_tests true false x = refl
both_tests false true x = refl
both_tests false false x = refl

amount_by_parts : (f : Field) →
    amount_of f
    ≡ cond (list_all (λ d. d == 48) (drop 4 f.decimals)) (within_limit f.sign (fold next_digit (decimal f.whole) (four f.decimals))) None
unfolding amount_of
amount_by_parts f =
    both_tests (nat_le (ten_thousandths_of f) most) (list_all (λ d. d == 48) (drop 4 f.decimals))
    (Some (record { sign = f.sign; ten_thousandths = ten_thousandths_of f }))

-- a field that is read: its length, and its number
pub record IsFieldOf (l : List ℕ) (len : ℕ) (number : Option Amount) : Type 0 where
  pub len_is : len ≡ (field_at l).len
  pub number_is : number ≡ amount_of (field_at l)

-- what a slice from a place on holds
abbrev pub rest_from : List ℕ → ℕ → List ℕ
rest_from l n = take (length l - n) (drop n l)

pub rest_is : (l : List ℕ) (n : ℕ) → rest_from l n ≡ drop n l
rest_is l n = take_all (length l - n) (drop n l) (omega (arith, length-drop n l))

-- the parts of a field that is read, without a point and with one
pub parts_without_point : (l : List ℕ) (s : Sign) (start len : ℕ) → s ≡ sign_at l → start ≡ sign_len (sign_at l) →
    len ≡ length (digits (rest_from l start)) →
    has_point (drop (start + len) l) ≡ false →
    field_at l ≡ record { sign = s; whole = digits (rest_from l start); decimals = []; len = start + len }
parts_without_point l s start len is start_is len_is none =
    let w : List ℕ = digits (drop (sign_len s) l) in
    let begin : start ≡ sign_len s = start_is ∙ ap sign_len (sym is) in
    let whole : digits (rest_from l start) ≡ w = ap digits (rest_is l start) ∙ ap (λ k. digits (drop k l)) begin in
    let size : len ≡ length w = len_is ∙ ap length whole in
    let end : start + len ≡ sign_len s + length w = omega arith in
    field_from l s w (sym is) refl
    ∙ cond-false (has_point (drop (sign_len s + length w) l)) _ _ (ap (λ k. has_point (drop k l)) (sym end) ∙ none)
    ∙ λ i. record { sign = s; whole = sym whole i; decimals = []; len = sym end i }

pub parts_with_point : (l : List ℕ) (s : Sign) (start len len2 : ℕ) → s ≡ sign_at l → start ≡ sign_len (sign_at l) →
    len ≡ length (digits (rest_from l start)) →
    has_point (drop (start + len) l) ≡ true → len2 ≡ length (digits (rest_from l (start + len + 1))) →
    field_at l
    ≡ record {
      sign = s;
      whole = digits (rest_from l start);
      decimals = digits (rest_from l (start + len + 1));
      len = start + len + 1 + len2;
    }
parts_with_point l s start len len2 is start_is len_is some len2_is =
    let w : List ℕ = digits (drop (sign_len s) l) in
    let ds : List ℕ = digits (drop (sign_len s + length w + 1) l) in
    let begin : start ≡ sign_len s = start_is ∙ ap sign_len (sym is) in
    let whole : digits (rest_from l start) ≡ w = ap digits (rest_is l start) ∙ ap (λ k. digits (drop k l)) begin in
    let size : len ≡ length w = len_is ∙ ap length whole in
    let end : start + len ≡ sign_len s + length w = omega arith in
    let behind : digits (rest_from l (start + len + 1)) ≡ ds =
    ap digits (rest_is l (start + len + 1)) ∙ ap (λ k. digits (drop (k + 1) l)) end in
    let last : len2 ≡ length ds = len2_is ∙ ap length behind in
    let all : start + len + 1 + len2 ≡ sign_len s + length w + 1 + length ds = omega arith in
    field_from l s w (sym is) refl
    ∙ cond-true (has_point (drop (sign_len s + length w) l)) _ _ (ap (λ k. has_point (drop k l)) (sym end) ∙ some)
    ∙ λ i. record { sign = s; whole = sym whole i; decimals = sym behind i; len = sym all i }

pub without_point : (l : List ℕ) (s : Sign) (start len n : ℕ) → s ≡ sign_at l → start ≡ sign_len (sign_at l) →
    len ≡ length (digits (rest_from l start)) → n ≡ limited 65536 (decimal (digits (rest_from l start))) →
    has_point (drop (start + len) l) ≡ false → IsFieldOf l (start + len) (within_limit s (10000 * n))
without_point l s start len n is start_is len_is n_is none =
    let w : List ℕ = digits (drop (sign_len s) l) in
    let begin : start ≡ sign_len s = start_is ∙ ap sign_len (sym is) in
    let size : len ≡ length w = len_is ∙ ap (λ t. length (digits t)) (rest_is l start) ∙ ap (λ k. length (digits (drop k l))) begin in
    let number : n ≡ limited 65536 (decimal w) =
    n_is ∙ ap (λ t. limited 65536 (decimal (digits t))) (rest_is l start) ∙ ap (λ k. limited 65536 (decimal (digits (drop k l)))) begin in
    let end : start + len ≡ sign_len s + length w = omega arith in
    let read : field_at l ≡ record { sign = s; whole = w; decimals = []; len = sign_len s + length w } =
    field_from l s w (sym is) refl
    ∙ cond-false (has_point (drop (sign_len s + length w) l)) _ _ (ap (λ k. has_point (drop k l)) (sym end) ∙ none) in
    let tens : 10000 * n ≡ fold next_digit (limited 65536 (decimal w)) (four []) = omega arith in
    record {
      len_is = end ∙ ap (λ f. f.len) (sym read);
      number_is =
          ap (within_limit s) tens ∙ limit_same s (decimal w) []
          ∙ sym (amount_by_parts (record { sign = s; whole = w; decimals = []; len = sign_len s + length w })) ∙ ap amount_of (sym read);
    }

pub with_point : (l : List ℕ) (s : Sign) (start len n len2 n2 : ℕ) (exact : Bool) → s ≡ sign_at l → start ≡ sign_len (sign_at l) →
    len ≡ length (digits (rest_from l start)) → n ≡ limited 65536 (decimal (digits (rest_from l start))) →
    has_point (drop (start + len) l) ≡ true → len2 ≡ length (digits (rest_from l (start + len + 1))) →
    n2 ≡ fold next_digit n (four (digits (rest_from l (start + len + 1)))) →
    exact ≡ list_all (λ d. d == 48) (drop 4 (digits (rest_from l (start + len + 1)))) →
    IsFieldOf l (start + len + 1 + len2) (cond exact (within_limit s n2) None)
with_point l s start len n len2 n2 exact is start_is len_is n_is some len2_is n2_is exact_is =
    let w : List ℕ = digits (drop (sign_len s) l) in
    let ds : List ℕ = digits (drop (sign_len s + length w + 1) l) in
    let begin : start ≡ sign_len s = start_is ∙ ap sign_len (sym is) in
    let size : len ≡ length w = len_is ∙ ap (λ t. length (digits t)) (rest_is l start) ∙ ap (λ k. length (digits (drop k l))) begin in
    let number : n ≡ limited 65536 (decimal w) =
    n_is ∙ ap (λ t. limited 65536 (decimal (digits t))) (rest_is l start) ∙ ap (λ k. limited 65536 (decimal (digits (drop k l)))) begin in
    let end : start + len ≡ sign_len s + length w = omega arith in
    let behind : digits (rest_from l (start + len + 1)) ≡ ds =
    ap digits (rest_is l (start + len + 1)) ∙ ap (λ k. digits (drop (k + 1) l)) end in
    let read : field_at l ≡ record { sign = s; whole = w; decimals = ds; len = sign_len s + length w + 1 + length ds } =
    field_from l s w (sym is) refl
    ∙ cond-true (has_point (drop (sign_len s + length w) l)) _ _ (ap (λ k. has_point (drop k l)) (sym end) ∙ some) in
    let last : len2 ≡ length ds = len2_is ∙ ap length behind in
    let value : n2 ≡ fold next_digit (limited 65536 (decimal w)) (four ds) =
    n2_is ∙ ap (λ m. fold next_digit m (four (digits (rest_from l (start + len + 1))))) number
    ∙ ap (λ t. fold next_digit (limited 65536 (decimal w)) (four t)) behind in
    let zeros : exact ≡ list_all (λ d. d == 48) (drop 4 ds) = exact_is ∙ ap (λ t. list_all (λ d. d == 48) (drop 4 t)) behind in
    record {
      len_is =
          (let whole : start + len + 1 + len2 ≡ sign_len s + length w + 1 + length ds = omega arith in whole) ∙ ap (λ f. f.len) (sym read);
      number_is = ap (λ b. cond b (within_limit s n2) None) zeros
          ∙ ap (λ m. cond (list_all (λ d. d == 48) (drop 4 ds)) (within_limit s m) None) value
          ∙ ap (λ o. cond (list_all (λ d. d == 48) (drop 4 ds)) o None) (limit_same s (decimal w) ds)
          ∙ sym (amount_by_parts (record { sign = s; whole = w; decimals = ds; len = sign_len s + length w + 1 + length ds }))
          ∙ ap amount_of (sym read);
    }
