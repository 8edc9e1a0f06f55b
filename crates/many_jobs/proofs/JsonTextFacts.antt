-- Names and words as texts of JSON.
use Rattle.std.proofs.Common.{◌≡◌, ◌≢◌, ℕ, suc, ◌<◌, ◌/◌, ◌%◌, if◌then◌else◌, Bool, true, false, List, [], ◌∷◌, ◌++◌, length, get_or}
use Rattle.std.proofs.Common.{flat_map, refl, sym, ap, ◌∙◌, arith, append-nil, append_assoc}
use Rattle.std.specs.Char.{encode_utf8}
use Rattle.std.specs.Str.{IsAscii, encode_utf8_all}
use Rattle.std.proofs.lemmas.Str.{IsAscii-append, inside_one, encode_ascii, encodes-append}
use Rattle.std.proofs.lemmas.Str.Ascii.{IsAscii-nil, IsAscii-cons}
use Rattle.std.proofs.lemmas.Bool.Decides.{nat_tests}
use Rattle.std.proofs.lemmas.Grind.{flat_map-append}
use Rattle.shown_bytes.specs.Shown.{hex_byte, hex_digit, shown, shown_byte}
use Rattle.many_jobs.specs.JsonTexts.{backslash_doubled}

-- ---- ASCII

hex_digit-ascii : (d : ℕ) → d < 40 → hex_digit d < 128
hex_digit-ascii d h = grind (arith, nat_tests)

escaped-ascii : (plain : Bool) (b : ℕ) → (plain ≡ true → b < 128) → b < 256 → IsAscii (if plain then b ∷ [] else 92 ∷ 120 ∷ hex_byte b)
escaped-ascii true b h l = IsAscii-cons b [] (h refl) IsAscii-nil
escaped-ascii false b h l =
    let high = hex_digit (b / 16) in
    let low = hex_digit (b % 16) in
    IsAscii-cons 92 (120 ∷ high ∷ low ∷ []) (omega arith) (IsAscii-cons 120 (high ∷ low ∷ []) (omega arith)
    (IsAscii-cons high (low ∷ []) (hex_digit-ascii (b / 16) (omega arith))
    (IsAscii-cons low [] (hex_digit-ascii (b % 16) (omega arith)) IsAscii-nil)))

IsAscii-shown_byte : (b : ℕ) → b < 256 → IsAscii (shown_byte b)
IsAscii-shown_byte b h = escaped-ascii _ b (grind (arith, nat_tests)) h

pub IsAscii-shown : (name : List ℕ) → ((k : ℕ) → get_or name k 0 < 256) → IsAscii (shown name)
IsAscii-shown [] small = IsAscii-nil
IsAscii-shown (b ∷ name) small =
    IsAscii-append (shown_byte b) (shown name) (IsAscii-shown_byte b (small 0)) (IsAscii-shown name (λ k. small (suc k)))

-- ---- backslashes

one_byte : (x : ℕ) → x ≢ 92 → backslash_doubled x ≡ x ∷ []
one_byte x h = grind (arith, nat_tests)

-- without a backslash nothing is doubled
unchanged : (xs : List ℕ) → ((k : ℕ) → k < length xs → get_or xs k 0 ≢ 92) → flat_map backslash_doubled xs ≡ xs
unchanged [] h = refl
unchanged (x ∷ xs) h =
    ap (λ front. front ++ flat_map backslash_doubled xs) (one_byte x (h 0 (omega arith)))
    ∙ ap (λ rest. x ∷ rest) (unchanged xs (λ k w. h (suc k) (omega arith)))

unchanged_char : (c : ℕ) → c ≢ 92 → flat_map backslash_doubled (encode_utf8 c) ≡ encode_utf8 c
unchanged_char c other =
    unchanged (encode_utf8 c) (λ k w e. other (inside_one c [] (encode_utf8 c) k (sym (append-nil (encode_utf8 c))) w (omega arith) ∙ e))

more : (y : List ℕ) (c : ℕ) →
    flat_map backslash_doubled (encode_utf8_all (y ++ c ∷ []))
    ≡ flat_map backslash_doubled (encode_utf8_all y) ++ flat_map backslash_doubled (encode_utf8 c)
more y c = rw (encodes-append, append-nil) (flat_map-append backslash_doubled (encode_utf8_all y) (encode_utf8 c))

-- the next character is no backslash
pub more_plain : (c : ℕ) (y old new : List ℕ) → c ≢ 92 → old ≡ flat_map backslash_doubled (encode_utf8_all y) → new ≡ old ++ encode_utf8 c
    → new ≡ flat_map backslash_doubled (encode_utf8_all (y ++ c ∷ []))
more_plain c y old new other is step = step ∙ rw (more, unchanged_char c other) (ap (λ front. front ++ encode_utf8 c) is)

-- the next character is a backslash, and one is written before it
pub more_doubled : (c : ℕ) (y old middle new : List ℕ) → c ≡ 92 → old ≡ flat_map backslash_doubled (encode_utf8_all y) →
    middle ≡ old ++ encode_utf8 92 → new ≡ middle ++ encode_utf8 c
    → new ≡ flat_map backslash_doubled (encode_utf8_all (y ++ c ∷ []))
more_doubled c y old middle new same is first second =
    let twice : flat_map backslash_doubled (encode_utf8 c) ≡ encode_utf8 92 ++ encode_utf8 c =
    rw (same, encode_ascii 92 (omega arith)) refl in
    second ∙ rw (first, more, twice, append_assoc) (ap (λ front. front ++ (encode_utf8 92 ++ encode_utf8 c)) is)
