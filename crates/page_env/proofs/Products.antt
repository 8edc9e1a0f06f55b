-- A product of ticks and a count fits 128 bits with a sign.
use Rattle.std.proofs.Common.{arith, ◌≡◌, ℕ, ◌+◌, ◌*◌, ◌^◌, ◌<◌, ◌≤◌, ℤ, pos, ◌+ℤ◌, ◌*ℤ◌, FitsSigned, to_z, of_z, ap}
use Rattle.std.specs.Int.{w128}
use Rattle.std.proofs.lemmas.Int.{fits_signed_from_abs, to_z-of_z}
use Rattle.std.proofs.lemmas.Nat.{mul-le}

factor_fits : (a : ℤ) (n : ℕ) → a ≡ pos n → n ≤ 2 ^ 64 → FitsSigned w128 a
factor_fits a n is few = rw is (fits_signed_from_abs w128 (pos n) (omega arith))

-- the product, and that of the same factors read from their bits, as code multiplies them
pub product_fits : (a b : ℤ) (m n : ℕ) → a ≡ pos m → b ≡ pos n → m ≤ 2 ^ 64 → n ≤ 2 ^ 32 →
    FitsSigned w128 (a *ℤ b) × FitsSigned w128 (to_z w128 (of_z w128 a) *ℤ to_z w128 (of_z w128 b))
product_fits a b m n a_is b_is many few =
    let first : FitsSigned w128 a = factor_fits a m a_is many in
    let second : FitsSigned w128 b = factor_fits b n b_is (omega arith) in
    let both : FitsSigned w128 (a *ℤ b) =
    rw (a_is, b_is) (fits_signed_from_abs w128 (pos (m * n)) (omega (arith, mul-le m n (2 ^ 64) (2 ^ 32) many few))) in
    (both, simp to_z-of_z both)

-- the same where one is added to the count
pub product_with_one_fits : (a b : ℤ) (m n : ℕ) → a ≡ pos m → b ≡ pos n → m ≤ 2 ^ 64 → n < 2 ^ 32 →
    FitsSigned w128 (a *ℤ (b +ℤ pos 1))
    × FitsSigned w128 (to_z w128 (of_z w128 a) *ℤ to_z w128 (of_z w128 (to_z w128 (of_z w128 b) +ℤ pos 1)))
product_with_one_fits a b m n a_is b_is many few =
    let more : b +ℤ pos 1 ≡ pos (n + 1) = ap (λ z. z +ℤ pos 1) b_is in
    let first : FitsSigned w128 a = factor_fits a m a_is many in
    let second : FitsSigned w128 b = factor_fits b n b_is (omega arith) in
    let third : FitsSigned w128 (b +ℤ pos 1) = factor_fits (b +ℤ pos 1) (n + 1) more (omega arith) in
    let both : FitsSigned w128 (a *ℤ (b +ℤ pos 1)) = (product_fits a (b +ℤ pos 1) m (n + 1) a_is more many (omega arith)).0 in
    (both, simp to_z-of_z both)
