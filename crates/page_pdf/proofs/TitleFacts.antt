-- Bytes that are text, and other bytes.
use Rattle.std.proofs.Common.{◌≡◌, if◌then◌else◌, Bool, true, false, List, ℕ, refl}
use Rattle.std.specs.Str.{IsUtf8, is_utf8}
use Rattle.std.proofs.lemmas.Str.{IsUtf8-from_is_utf8, is_utf8-from_IsUtf8}

pub text_of_utf8 : (bytes text other : List ℕ) → IsUtf8 bytes → text ≡ (if is_utf8 bytes then text else other)
text_of_utf8 bytes text other valid = rw (is_utf8-from_IsUtf8 bytes valid)

other_at : (bytes text other : List ℕ) (valid : Bool) → is_utf8 bytes ≡ valid → ¬ (IsUtf8 bytes) →
    other ≡ (if valid then text else other)
other_at bytes text other true e invalid = absurd (invalid (IsUtf8-from_is_utf8 bytes e))
other_at bytes text other false e invalid = refl

pub text_of_others : (bytes text other : List ℕ) → ¬ (IsUtf8 bytes) → other ≡ (if is_utf8 bytes then text else other)
text_of_others bytes text other invalid = other_at bytes text other _ refl invalid
