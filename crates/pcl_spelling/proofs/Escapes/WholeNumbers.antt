-- A number that has no decimals.
use Rattle.std.proofs.Common.{◌≡◌, ℕ, ◌/◌, ◌%◌, List, [], ◌∷◌, ap, arith}
use Rattle.shown_bytes.specs.Decimals.{four_decimals, without_zeros, with_point}

four_zeros : (n : ℕ) → n % 10000 ≡ 0 → four_decimals n ≡ 48 ∷ 48 ∷ 48 ∷ 48 ∷ []
four_zeros n h =
    let a : n / 1000 % 10 ≡ 0 = omega arith in
    let b : n / 100 % 10 ≡ 0 = omega arith in
    let c : n / 10 % 10 ≡ 0 = omega arith in
    let d : n % 10 ≡ 0 = omega arith in
    cc

pub no_decimals : (n : ℕ) → n % 10000 ≡ 0 → with_point (without_zeros (four_decimals n)) ≡ []
no_decimals n h = ap (λ (ds : List ℕ). with_point (without_zeros ds)) (four_zeros n h)
