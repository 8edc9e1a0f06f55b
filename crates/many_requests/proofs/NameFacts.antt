-- Where the first name ends.
use Rattle.std.proofs.Common.{◌≡◌, ◌≢◌, ℕ, ◌<◌, List, [], ◌∷◌, length, get_or, take, drop, zero, suc, refl, ap, arith, eq-eqb}
use Rattle.std.proofs.lemmas.Bool.{ne_eqb}
use Rattle.many_requests.specs.Names.{names_in, with_byte}

-- no byte of a front is zero, and the one behind it is
pub names_in-cut : (bytes : List ℕ) (end : ℕ) → end < length bytes → ((k : ℕ) → k < end → get_or bytes k 0 ≢ 0) → get_or bytes end 0 ≡ 0 →
    names_in bytes ≡ take end bytes ∷ names_in (drop (suc end) bytes)
names_in-cut [] end within front here = absurd (omega arith)
names_in-cut (byte ∷ bytes) zero within front here = rw (eq-eqb byte 0 here) refl
names_in-cut (byte ∷ bytes) (suc end) within front here =
    rw (ne_eqb byte 0 (front 0 (omega arith)))
    (ap (with_byte byte) (names_in-cut bytes end (omega arith) (λ k h. front (suc k) (omega arith)) here))

-- no byte is zero
pub names_in-whole : (bytes : List ℕ) → 0 < length bytes → ((k : ℕ) → k < length bytes → get_or bytes k 0 ≢ 0) → names_in bytes ≡ bytes ∷ []
names_in-whole [] some all = absurd (omega arith)
names_in-whole (byte ∷ []) some all = rw (ne_eqb byte 0 (all 0 (omega arith))) refl
names_in-whole (byte ∷ next ∷ bytes) some all =
    rw (ne_eqb byte 0 (all 0 (omega arith)))
    (ap (with_byte byte) (names_in-whole (next ∷ bytes) (omega arith) (λ k h. all (suc k) (omega arith))))
