-- Bytes that are text, and other bytes.
use Rattle.std.proofs.Common.{◌≡◌, if◌then◌else◌, Bool, true, false, ℕ, List, refl}
use Rattle.std.specs.Str.{IsUtf8, is_utf8}
use Rattle.std.proofs.lemmas.Str.{IsUtf8-from_is_utf8, is_utf8-from_IsUtf8}
use Rattle.shown_bytes.specs.Shown.{shown}

pub text_of_utf8 : (bytes text : List ℕ) → IsUtf8 bytes → text ≡ (if is_utf8 bytes then text else shown bytes)
text_of_utf8 bytes text valid = rw (is_utf8-from_IsUtf8 bytes valid)

shown_at : (bytes text : List ℕ) (valid : Bool) → is_utf8 bytes ≡ valid → ¬ (IsUtf8 bytes) →
    shown bytes ≡ (if valid then text else shown bytes)
shown_at bytes text true e invalid = absurd (invalid (IsUtf8-from_is_utf8 bytes e))
shown_at bytes text false e invalid = refl

pub text_of_others : (bytes text : List ℕ) → ¬ (IsUtf8 bytes) → shown bytes ≡ (if is_utf8 bytes then text else shown bytes)
text_of_others bytes text invalid = shown_at bytes text _ refl invalid
