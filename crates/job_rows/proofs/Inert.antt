-- In a document a text has neither a quote nor `<` nor `>`.
use Rattle.std.proofs.Common.{◌≡◌, ℕ, ◌==◌, ◌||◌, not, Bool, true, false, List, [], ◌∷◌, ◌++◌, codes, refl, if◌then◌else◌}
use Rattle.std.specs.Prelude.{◌&&◌}
use Rattle.job_rows.specs.Escapes.{are_inert, html_byte, html_text, is_inert, is_kept, kept_byte}

-- the same before more that is so, too
and_more : (first rest whole : Bool) → (first && rest) ≡ true → (rest ≡ true → whole ≡ true) → (first && whole) ≡ true
and_more true rest whole h more = more h
and_more false rest whole h more = h

and_nothing : (first : Bool) → first ≡ true → (first && true) ≡ true
and_nothing true h = refl
and_nothing false h = h

inert-append : (a b : List ℕ) → are_inert a ≡ true → are_inert b ≡ true → are_inert (a ++ b) ≡ true
inert-append [] b h k = k
inert-append (x ∷ a) b h k = and_more (is_inert x) (are_inert a) (are_inert (a ++ b)) h (λ inert. inert-append a b inert k)

-- one of two texts, where the test tells something of the second
one_of : (test : Bool) (a b : List ℕ) → are_inert a ≡ true → (test ≡ false → are_inert b ≡ true) →
    are_inert (if test then a else b) ≡ true
one_of true a b h k = h
one_of false a b h k = k refl

none_of : (p q r s : Bool) → p ≡ false → q ≡ false → r ≡ false → s ≡ false → not (((p || q) || r) || s) ≡ true
none_of p q r s first second third fourth = rw (first, second, third, fourth) refl

-- a byte that is none of the signs
other : (b : ℕ) → (b == 34) ≡ false → (b == 39) ≡ false → (b == 60) ≡ false → (b == 62) ≡ false → is_inert b ≡ true
other b quote apostrophe less more = none_of (b == 34) (b == 39) (b == 60) (b == 62) quote apostrophe less more

inert_kept : (test : Bool) (b : ℕ) → is_inert b ≡ true → are_inert (if test then b ∷ [] else codes "&#65533;") ≡ true
inert_kept true b h = and_nothing (is_inert b) h
inert_kept false b h = refl

-- what stands for a byte, from one test on
abbrev from_more : ℕ → List ℕ
from_more b = if b == 62 then codes "&gt;" else kept_byte b

abbrev from_less : ℕ → List ℕ
from_less b = if b == 60 then codes "&lt;" else from_more b

abbrev from_apostrophe : ℕ → List ℕ
from_apostrophe b = if b == 39 then codes "&#39;" else from_less b

abbrev from_ampersand : ℕ → List ℕ
from_ampersand b = if b == 38 then codes "&amp;" else from_apostrophe b

inert_more : (b : ℕ) → (b == 34) ≡ false → (b == 39) ≡ false → (b == 60) ≡ false → are_inert (from_more b) ≡ true
inert_more b quote apostrophe less =
    one_of (b == 62) (codes "&gt;") (kept_byte b) refl (λ more. inert_kept (is_kept b) b (other b quote apostrophe less more))

inert_less : (b : ℕ) → (b == 34) ≡ false → (b == 39) ≡ false → are_inert (from_less b) ≡ true
inert_less b quote apostrophe =
    one_of (b == 60) (codes "&lt;") (from_more b) refl (λ less. inert_more b quote apostrophe less)

inert_apostrophe : (b : ℕ) → (b == 34) ≡ false → are_inert (from_apostrophe b) ≡ true
inert_apostrophe b quote =
    one_of (b == 39) (codes "&#39;") (from_less b) refl (λ apostrophe. inert_less b quote apostrophe)

inert_ampersand : (b : ℕ) → (b == 34) ≡ false → are_inert (from_ampersand b) ≡ true
inert_ampersand b quote = one_of (b == 38) (codes "&amp;") (from_apostrophe b) refl (λ ampersand. inert_apostrophe b quote)

inert_byte : (b : ℕ) → are_inert (html_byte b) ≡ true
unfolding html_byte
inert_byte b = one_of (b == 34) (codes "&quot;") (from_ampersand b) refl (λ quote. inert_ampersand b quote)

pub inert_text : (text : List ℕ) → are_inert (html_text text) ≡ true
inert_text [] = refl
inert_text (b ∷ text) = inert-append (html_byte b) (html_text text) (inert_byte b) (inert_text text)
