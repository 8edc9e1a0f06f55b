-- The one spelling of each item of mode PCL is one unit of it.
use Rattle.std.proofs.Common.{◌≡◌, ℕ, ◌+◌, ◌*◌, ◌^◌, ◌/◌, ◌%◌, ◌<◌, ◌≤◌, List, [], ◌∷◌, ◌++◌, length, Option, None, Some, refl, sym, ap}
use Rattle.std.proofs.Common.{subst, ◌∙◌, arith}
use Rattle.std.specs.Prelude.{◌==◌, decimal}
use Rattle.std.specs.Char.{digit_value}
use Rattle.std.specs.Str.Parse.{AllDigits, digits_value, digits_value_after}
use Rattle.std.proofs.lemmas.Bool.{eqb-true, cond_both}
use Rattle.std.proofs.lemmas.Str.{digit_value_digit}
use Rattle.std.proofs.lemmas.Fmt.{decimal_is_IsNumeral, length-decimal-le}
use Rattle.std.proofs.lemmas.List.{append-nil, length-append}
use Rattle.pcl_items.specs.declared.number.Sign.{Sign}
use Rattle.pcl_items.specs.declared.number.Sign.TheVariants.{Absent, Plus, Minus}
use Rattle.pcl_items.specs.declared.frame.Handover.TheVariants.{Previous, Current}
use Rattle.pcl_items.specs.declared.item.Mode.TheVariants as modes
use Rattle.pcl_items.specs.Escapes.Value.{Amount, Counts, most, most_data}
use Rattle.pcl_items.specs.Escapes.ValueField.{sign_text, fraction_text, decimals_of, IsWritten, IsField}
use Rattle.pcl_lexer.specs.Frames.NumberText.{IsSetting}
use Rattle.pcl_items.specs.Items.{Entry, Text, CarriageReturn, LineFeed, FormFeed, Reset, ClearMargins, HalfLineFeed, Parameterized}
use Rattle.pcl_items.specs.Items.{SymbolSet, DefaultFont, EnterFrame, LeaveFrame, Initialize, Set, Move, WithData, ExitLanguage, PjlLine}
use Rattle.pcl_items.specs.Items.{at}
use Rattle.pcl_lexer.specs.Grammar.{last, with_data, symbol_set, default_font, leave_frame, previous, current, IsUnit, text_byte}
use Rattle.pcl_lexer.specs.Grammar.{control_code, two_characters, ungrouped, combined}
use Rattle.pcl_items.specs.Modes.{follows}
use Rattle.pcl_items.specs.Spellings.Canon.{amount_text, canon, IsItem}
use Rattle.pcl_lexer.proofs.Escapes.Values.{after-append, ten_more}
use Rattle.shown_bytes.specs.Decimals.{four_decimals, digit_before, without_zeros, with_point, magnitude_text}

-- ---- decimals

digit_of : (n : ℕ) → n < 10 → digit_value (48 + n) ≡ n
digit_of n h = omega (arith, digit_value_digit (48 + n) (omega arith, omega arith))

digit_small : (n : ℕ) → n < 10 → digit_value (48 + n) < 10
digit_small n h = omega (arith, digit_of n h)

four_digits : (n : ℕ) → AllDigits 10 (four_decimals n)
four_digits n = (
  digit_small (n / 1000 % 10) (omega arith),
  (digit_small (n / 100 % 10) (omega arith), (digit_small (n / 10 % 10) (omega arith), (digit_small (n % 10) (omega arith), tt))),
)

four_written : (n : ℕ) → n * 10 ^ length (four_decimals n) ≡ 10000 * digits_value_after 10 (n / 10000) (four_decimals n)
four_written n =
    let a = digit_of (n / 1000 % 10) (omega arith) in
    let b = digit_of (n / 100 % 10) (omega arith) in
    let c = digit_of (n / 10 % 10) (omega arith) in
    let d = digit_of (n % 10) (omega arith) in
    omega arith

before-digits : (d : ℕ) (ds : List ℕ) → digit_value d < 10 → AllDigits 10 ds → AllDigits 10 (digit_before d ds)
before-digits d [] h k = cond_both (d == 48) _ _ (AllDigits 10) (λ _. tt) (λ _. (h, tt))
before-digits d (e ∷ ds) h k = (h, k)

zeros-digits : (ds : List ℕ) → AllDigits 10 ds → AllDigits 10 (without_zeros ds)
zeros-digits [] h = tt
zeros-digits (d ∷ ds) h = before-digits d (without_zeros ds) h.0 (zeros-digits ds h.1)

before-length : (d : ℕ) (ds : List ℕ) → length (digit_before d ds) ≤ length ds + 1
before-length d [] = cond_both (d == 48) _ _ (λ (l : List ℕ). length l ≤ 0 + 1) (λ _. omega arith) (λ _. omega arith)
before-length d (e ∷ ds) = omega arith

zeros-length : (ds : List ℕ) → length (without_zeros ds) ≤ length ds
zeros-length [] = omega arith
zeros-length (d ∷ ds) = omega (arith, before-length d (without_zeros ds), zeros-length ds)

-- t times as many tens as there are digits is what they write behind n
abbrev Writes : ℕ → ℕ → List ℕ → Type 0
Writes t n ds = t * 10 ^ length ds ≡ 10000 * digits_value_after 10 n ds

before-writes : (t n d : ℕ) (ds : List ℕ) → Writes (t * 10) (n * 10 + digit_value d) ds → Writes t n (digit_before d ds)
before-writes t n d [] h =
    cond_both (d == 48) _ _ (Writes t n)
    (λ e. let none : digit_value d ≡ 0 = ap digit_value (eqb-true d 48 e) in omega (arith, h))
    (λ _. omega (arith, h))
before-writes t n d (e ∷ ds) h = sym (ten_more t (length (e ∷ ds))) ∙ h

zeros-writes : (t n : ℕ) (ds : List ℕ) → Writes t n ds → Writes t n (without_zeros ds)
zeros-writes t n [] h = h
zeros-writes t n (d ∷ ds) h =
    before-writes t n d (without_zeros ds) (zeros-writes (t * 10) (n * 10 + digit_value d) ds (ten_more t (length ds) ∙ h))

-- ---- a field

abbrev fraction_of : List ℕ → Option (List ℕ)
fraction_of [] = None
fraction_of (d ∷ ds) = Some (d ∷ ds)

fraction_is : (ds : List ℕ) → with_point ds ≡ fraction_text (fraction_of ds)
fraction_is [] = refl
fraction_is (d ∷ ds) = refl

decimals_are : (ds : List ℕ) → decimals_of (fraction_of ds) ≡ ds
decimals_are [] = refl
decimals_are (d ∷ ds) = refl

with_point-length : (ds : List ℕ) → length (with_point ds) ≤ length ds + 1
with_point-length [] = omega arith
with_point-length (d ∷ ds) = omega arith

sign-length : (s : Sign) → length (sign_text s) ≤ 1
sign-length Absent = omega arith
sign-length Plus = omega arith
sign-length Minus = omega arith

amount_spelled : (a : Amount) → a.ten_thousandths ≤ most → IsField (amount_text a) a
amount_spelled a h =
    let n = a.ten_thousandths in
    let ds : List ℕ = without_zeros (four_decimals n) in
    let high : n / 10000 < 2 ^ 64 = omega arith in
    let five : n / 10000 < 10 ^ 5 = omega arith in
    let whole = decimal_is_IsNumeral (n / 10000) high in
    let value : digits_value 10 (decimal (n / 10000) ++ ds) ≡ digits_value_after 10 (n / 10000) ds =
    after-append 0 (decimal (n / 10000)) ds ∙ ap (λ m. digits_value_after 10 m ds) whole.1 in
    let written : IsWritten n (decimal (n / 10000)) ds =
    zeros-writes n (n / 10000) (four_decimals n) (four_written n) ∙ ap (λ v. 10000 * v) (sym value) in
    record {
      whole = decimal (n / 10000);
      fraction = fraction_of ds;
      shape = record {
        spelled = ap (λ t. sign_text a.sign ++ (decimal (n / 10000) ++ t)) (fraction_is ds);
        digits = (whole.0.1, subst (AllDigits 10) (sym (decimals_are ds)) (zeros-digits (four_decimals n) (four_digits n)));
      };
      short = omega (
        arith,
        length-append (sign_text a.sign) (magnitude_text n),
        length-append (decimal (n / 10000)) (with_point ds),
        sign-length a.sign,
        length-decimal-le 5 (n / 10000) (omega arith) five high,
        with_point-length ds,
        zeros-length (four_decimals n),
      );
      written = subst (IsWritten n (decimal (n / 10000))) (sym (decimals_are ds)) written;
      limited = h;
    }

decimal-positive : (n : ℕ) → n < 2 ^ 64 → 0 < length (decimal n)
decimal-positive n h = (decimal_is_IsNumeral n h).0.0

pub setting_spelled : (n : ℕ) → n ≤ most → IsSetting (magnitude_text n) n
unfolding amount_spelled
setting_spelled n h = record {
  sign = Absent;
  field = amount_spelled (record { sign = Absent; ten_thousandths = n }) h;
  digit = let d : 0 < length (decimal (n / 10000)) = decimal-positive (n / 10000) (omega arith) in omega arith;
  not_below = λ m. absurd cc;
}

-- the number that counts n
abbrev count : ℕ → Amount
count n = record { sign = Absent; ten_thousandths = 10000 * n }

counts : (n : ℕ) → n ≤ most_data → Counts (count n) n
counts n h = record { whole = refl; not_negative = λ e. absurd cc; limited = h }

count_spelled : (n : ℕ) → n ≤ most_data → IsField (decimal n) (count n)
count_spelled n h =
    let high : n < 2 ^ 64 = omega (arith, h) in
    let five : n < 10 ^ 5 = omega (arith, h) in
    let whole = decimal_is_IsNumeral n high in
    let value : digits_value 10 (decimal n ++ []) ≡ n = ap (digits_value 10) (append-nil (decimal n)) ∙ whole.1 in
    record {
      whole = decimal n;
      fraction = None;
      shape = record { spelled = sym (append-nil (decimal n)); digits = (whole.0.1, tt) };
      short = omega (arith, length-decimal-le 5 n (omega arith) five high);
      written = omega (arith, value);
      limited = omega (arith, h);
    }

pub zero_spelled : IsField (48 ∷ []) (record { sign = Absent; ten_thousandths = 0 })
zero_spelled = record {
  whole = 48 ∷ [];
  fraction = None;
  shape = record { spelled = refl; digits = ((digit_small 0 (omega arith), tt), tt) };
  short = omega arith;
  written = refl;
  limited = omega arith;
}

pub one_spelled : IsField (49 ∷ []) (record { sign = Absent; ten_thousandths = 10000 })
one_spelled = record {
  whole = 49 ∷ [];
  fraction = None;
  shape = record { spelled = refl; digits = ((digit_small 1 (omega arith), tt), tt) };
  short = omega arith;
  written = refl;
  limited = omega arith;
}

three_spelled : IsField (51 ∷ []) (record { sign = Absent; ten_thousandths = 30000 })
three_spelled = record {
  whole = 51 ∷ [];
  fraction = None;
  shape = record { spelled = refl; digits = ((digit_small 3 (omega arith), tt), tt) };
  short = omega arith;
  written = refl;
  limited = omega arith;
}

-- ---- the items

pub between_unit : (item : Entry) → IsItem item → follows modes.Pcl item ≡ Some modes.Pcl → (place : ℕ) (rest : List ℕ) →
    IsUnit modes.Pcl place (canon item) rest (at place item ∷ []) modes.Pcl
between_unit (Text code) h e place rest = text_byte h
between_unit CarriageReturn h e place rest = control_code refl
between_unit LineFeed h e place rest = control_code refl
between_unit FormFeed h e place rest = control_code refl
between_unit Reset h e place rest = two_characters refl
between_unit ClearMargins h e place rest = two_characters refl
between_unit HalfLineFeed h e place rest = two_characters refl
between_unit (Parameterized command amount) h e place rest = combined (last command (amount_spelled amount h))
between_unit (SymbolSet amount letter) h e place rest = ungrouped (amount_spelled amount h.0) (symbol_set h.1)
between_unit DefaultFont h e place rest = ungrouped three_spelled (default_font refl (λ e. absurd cc))
between_unit (EnterFrame handover) h e place rest = absurd cc
between_unit (LeaveFrame Previous) h e place rest = ungrouped zero_spelled (leave_frame (previous refl))
between_unit (LeaveFrame Current) h e place rest = ungrouped one_spelled (leave_frame (current refl (λ e. absurd cc)))
between_unit Initialize h e place rest = absurd cc
between_unit (Set setting ten_thousandths) h e place rest = absurd cc
between_unit (Move motion to) h e place rest = absurd cc
between_unit ExitLanguage h e place rest = absurd cc
between_unit (PjlLine line) h e place rest = absurd cc
between_unit (WithData command bytes) h e place rest =
    combined (with_data command (count_spelled (length bytes) h) (counts (length bytes) h))
