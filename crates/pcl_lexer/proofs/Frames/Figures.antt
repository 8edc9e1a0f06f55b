-- A field of which a coordinate is read.
use Rattle.std.proofs.Common.{◌≡◌, ℕ, ◌+◌, ◌<◌, ◌≤◌, List, length, take, Bool, None, sym, ap, ◌∙◌, inl, inr, arith}
use Rattle.std.specs.Prelude.{◌==◌, ◌&&◌, ◌⊎◌, nat_le, not}
use Rattle.std.specs.List.{list_all}
use Rattle.std.specs.Char.{is_ascii_digit}
use Rattle.std.proofs.lemmas.Bool.{cases_lt, lt-leb, cond-false}
use Rattle.std.proofs.lemmas.List.Folds.{length-prefix_len}
use Rattle.pcl_items.specs.declared.number.Sign.{Sign}
use Rattle.pcl_items.specs.Escapes.Value.{most_units}
use Rattle.pcl_lexer.specs.Escapes.Field.{Field, decimal, digits}
use Rattle.pcl_lexer.specs.Frames.Number.{has_digit, coordinate_by, coordinate_of}
use Rattle.pcl_lexer.proofs.Escapes.Digits.{limited}
use Rattle.pcl_lexer.proofs.Escapes.Limits.{no_more}

past_limit : (s : Sign) (n : ℕ) (z : Bool) → most_units < n → coordinate_by s n z ≡ None
past_limit s n z h = cond-false (nat_le n most_units && z) _ _ (no_more (nat_le n most_units) z (lt-leb n most_units h))

coordinate_limited : (s : Sign) (n : ℕ) (z : Bool) → coordinate_by s (limited 8388608 n) z ≡ coordinate_by s n z
coordinate_limited s n z = go (cases_lt most_units n)
  where
    go : (most_units < n) ⊎ (n ≤ most_units) → coordinate_by s (limited 8388608 n) z ≡ coordinate_by s n z
    go (inl high) = past_limit s (limited 8388608 n) z (omega arith) ∙ sym (past_limit s n z high)
    go (inr low) = let same : limited 8388608 n ≡ n = omega arith in ap (λ m. coordinate_by s m z) same

-- the coordinate of a field whose parts are known
pub coordinate_known : (f : Field) (s : Sign) (w ds : List ℕ) (len n : ℕ) (z : Bool) →
    f ≡ record { sign = s; whole = w; decimals = ds; len = len } → n ≡ limited 8388608 (decimal w) → z ≡ list_all (λ d. d == 48) ds →
    coordinate_by s n z ≡ coordinate_of f
unfolding coordinate_of
coordinate_known f s w ds len n z e n_is z_is =
    ap (λ m. coordinate_by s m z) n_is ∙ coordinate_limited s (decimal w) z ∙ ap (coordinate_by s (decimal w)) z_is
    ∙ sym (ap coordinate_of e)

pub digit_known : (f : Field) (s : Sign) (w ds : List ℕ) (len n : ℕ) → f ≡ record { sign = s; whole = w; decimals = ds; len = len } →
    n ≡ length w + length ds → not (n == 0) ≡ has_digit f
digit_known f s w ds len n e n_is = ap (λ m. not (m == 0)) n_is ∙ sym (ap has_digit e)

-- the digits in front, as a slice
pub digits_front : (xs : List ℕ) → take (length (digits xs)) xs ≡ digits xs
digits_front xs = ap (λ n. take n xs) (length-prefix_len is_ascii_digit xs)
