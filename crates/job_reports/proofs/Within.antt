-- Texts of at most so many bytes, of which none is a control code.
use Rattle.std.proofs.Common.{◌≡◌, ℕ, zero, suc, ◌+◌, ◌-◌, ◌*◌, ◌/◌, ◌%◌, ◌^◌, ◌==◌, ◌<◌, ◌≤◌, Bool, true, false, List, [], ◌∷◌, ◌++◌}
use Rattle.std.proofs.Common.{ℤ, pos, length, take, drop, codes, refl, sym, arith, get_or, append-nil}
use Rattle.std.specs.Prelude.{decimal, flat_map, int_lt, nat_le, nat_lt, not, ◌&&◌, if◌then◌else◌}
use Rattle.std.specs.List.{AllByRecursion}
use Rattle.std.specs.Char.{encode_utf8}
use Rattle.std.specs.Str.{chars, is_utf8}
use Rattle.std.proofs.lemmas.Bool.{leb-true, leb-false, and_parts}
use Rattle.std.proofs.lemmas.Fmt.{decimal_by_steps, length-decimal-le}
use Rattle.std.proofs.lemmas.List.{length-append, length-drop, length-take}
use Rattle.std.proofs.lemmas.Str.{inside_one}
use Rattle.line_words.specs.Figures.{escaped_byte, named}
use Rattle.shown_bytes.specs.Decimals.{amount, digit_before, four_decimals, minus, with_point, without_zeros}
use Rattle.shown_bytes.specs.Lettered.{lettered}
use Rattle.shown_bytes.specs.Shown.{hex_byte, hex_digit, is_letter, shown, shown_byte, shown_letter, shown_text, steers}
use Rattle.line_words.specs.Reason.{named_byte}
use Rattle.job_reports.specs.CommandWords.{code_words}
use Rattle.job_reports.specs.JobSentences.{IsWithin, begins_character, first_of, from_character, last_of}

-- no control code
abbrev IsShown : List ℕ → Type 0
IsShown text = AllByRecursion (λ byte. 32 ≤ byte) text

-- ---- lists

shown-append : (a b : List ℕ) → IsShown a → IsShown b → IsShown (a ++ b)
shown-append [] b h k = k
shown-append (x ∷ a) b h k = (h.0, shown-append a b h.1 k)

shown-take : (n : ℕ) (text : List ℕ) → IsShown text → IsShown (take n text)
shown-take zero text h = tt
shown-take (suc n) [] h = tt
shown-take (suc n) (x ∷ text) h = (h.0, shown-take n text h.1)

shown-drop : (n : ℕ) (text : List ℕ) → IsShown text → IsShown (drop n text)
shown-drop zero text h = h
shown-drop (suc n) [] h = tt
shown-drop (suc n) (x ∷ text) h = shown-drop n text h.1

-- either a text from a byte on, or what is left behind that byte
shorter_of : (test : Bool) (byte : ℕ) (text rest : List ℕ) → length rest ≤ length text →
    length (if test then byte ∷ text else rest) ≤ length (byte ∷ text)
shorter_of true byte text rest h = omega arith
shorter_of false byte text rest h = omega (arith, h)

shorter-from_character : (text : List ℕ) → length (from_character text) ≤ length text
shorter-from_character [] = omega arith
shorter-from_character (byte ∷ text) =
    shorter_of (begins_character byte) byte text (from_character text) (shorter-from_character text)

shown_of : (test : Bool) (a b : List ℕ) → IsShown a → IsShown b → IsShown (if test then a else b)
shown_of true a b h k = h
shown_of false a b h k = k

shown-from_character : (text : List ℕ) → IsShown text → IsShown (from_character text)
shown-from_character [] h = tt
shown-from_character (byte ∷ text) h =
    shown_of (begins_character byte) (byte ∷ text) (from_character text) h (shown-from_character text h.1)

pub joined : {m n : ℕ} (a b : List ℕ) → IsWithin m a → IsWithin n b → IsWithin (m + n) (a ++ b)
joined a b h k = record {
  short = omega (arith, length-append a b, h.short, k.short);
  shown = shown-append a b h.shown k.shown;
}

pub wider : {m : ℕ} (n : ℕ) (text : List ℕ) → m ≤ n → IsWithin m text → IsWithin n text
wider n text l h = record { short = omega (arith, l, h.short); shown = h.shown }

pub nothing : (n : ℕ) → IsWithin n []
nothing n = record { short = omega arith; shown = tt }

pub one_of : (most : ℕ) (test : Bool) (a b : List ℕ) → (test ≡ true → IsWithin most a) → IsWithin most b →
    IsWithin most (if test then a else b)
one_of most true a b h k = h refl
one_of most false a b h k = k

-- ---- literals

abbrev pub are_shown : List ℕ → Bool
are_shown [] = true
are_shown (b ∷ text) = nat_le 32 b && are_shown text

shown_by_test : (text : List ℕ) → are_shown text ≡ true → IsShown text
shown_by_test [] e = tt
shown_by_test (b ∷ text) e = let both = and_parts (nat_le 32 b) (are_shown text) e in (leb-true 32 b both.0, shown_by_test text both.1)

pub literal : (most : ℕ) (text : List ℕ) → nat_le (length text) most ≡ true → are_shown text ≡ true → IsWithin most text
literal most text l e = record { short = leb-true _ _ l; shown = shown_by_test text e }

-- ---- bytes

hex_shown : (d : ℕ) → 32 ≤ hex_digit d
hex_shown d = elim (nat_lt d 10) as (λ b. 32 ≤ (if b then 48 + d else 87 + d)) [ true ↦ omega arith | false ↦ omega arith ]

self_part : (n b : ℕ) → 1 ≤ n → 32 ≤ b → IsWithin n (b ∷ [])
self_part n b l h = record { short = omega (arith, l); shown = (h, tt) }

digits_part : (b : ℕ) → IsWithin 2 (hex_byte b)
digits_part b = record { short = omega arith; shown = (hex_shown _, (hex_shown _, tt)) }

-- a byte from the first on that stands as itself, or its digits
byte_part : (first b : ℕ) → 32 ≤ first →
    IsWithin 4 (if nat_le first b && nat_le b 126 && not (b == 92) then b ∷ [] else 92 ∷ 120 ∷ hex_byte b)
byte_part first b low =
    one_of 4 (nat_le first b && nat_le b 126 && not (b == 92)) (b ∷ []) _
    (λ e. self_part 4 b (omega arith)
    (let h : first ≤ b =
    leb-true first b (and_parts (nat_le first b) (nat_le b 126) (and_parts (nat_le first b && nat_le b 126) (not (b == 92)) e).0).0
    in omega (arith, low, h)))
    (joined (92 ∷ 120 ∷ []) _ (literal 2 _ refl refl) (digits_part b))

pub escaped_part : (b : ℕ) → IsWithin 4 (escaped_byte b)
escaped_part b = byte_part 33 b (omega arith)

pub shown_byte_part : (b : ℕ) → IsWithin 4 (shown_byte b)
shown_byte_part b = byte_part 32 b (omega arith)

pub code_part : (b : ℕ) → IsWithin 4 (code_words b)
code_part b =
    one_of 4 (b == 27) (codes "ESC ") _ (λ e. literal 4 _ refl refl)
    (one_of 4 (b == 13) (codes "CR") _ (λ e. literal 4 _ refl refl)
    (one_of 4 (b == 10) (codes "LF") _ (λ e. literal 4 _ refl refl)
    (one_of 4 (b == 12) (codes "FF") _ (λ e. literal 4 _ refl refl) (escaped_part b))))

pub shown_part : (b : ℕ) → IsWithin 3 (named_byte b)
shown_part b =
    one_of 3 (nat_le 33 b && nat_le b 126) (b ∷ []) _
    (λ e. self_part 3 b (omega arith) (let h : 33 ≤ b = leb-true 33 b (and_parts (nat_le 33 b) (nat_le b 126) e).0 in omega arith))
    (joined (120 ∷ []) _ (literal 1 _ refl refl) (digits_part b))

-- ---- texts of many bytes

pub flat_part : (f : ℕ → List ℕ) → ((b : ℕ) → IsWithin 4 (f b)) → (bytes : List ℕ) → IsWithin (4 * length bytes) (flat_map f bytes)
flat_part f each [] = nothing _
flat_part f each (b ∷ bytes) = wider _ _ (omega arith) (joined (f b) (flat_map f bytes) (each b) (flat_part f each bytes))

pub last_part : (most : ℕ) (text : List ℕ) → IsShown text → IsWithin (3 + most) (last_of most text)
last_part most text h =
    one_of (3 + most) (nat_le (length text) most) text _
    (λ e. record { short = let l : length text ≤ most = leb-true (length text) most e in omega arith; shown = h })
    (joined (codes "...") _ (literal 3 _ refl refl)
    (record {
      short = omega (arith, shorter-from_character (drop (length text - most) text), length-drop (length text - most) text);
      shown = shown-from_character (drop (length text - most) text) (shown-drop (length text - most) text h);
    }))

pub first_part : (most : ℕ) (text : List ℕ) → IsShown text → IsWithin (most + 3) (first_of most text)
first_part most text h =
    one_of (most + 3) (nat_le (length text) most) text _
    (λ e. record { short = let l : length text ≤ most = leb-true (length text) most e in omega arith; shown = h })
    (joined (take most text) (codes "...")
    (record { short = omega (arith, length-take most text); shown = shown-take most text h }) (literal 3 _ refl refl))

-- ---- names

by_places : (text : List ℕ) → ((k : ℕ) → k < length text → 32 ≤ get_or text k 0) → IsShown text
by_places [] h = tt
by_places (byte ∷ text) h = (h 0 (omega arith), by_places text (λ k w. h (suc k) (omega arith)))

at_least : (test : Bool) (b : ℕ) → nat_le 32 b ≡ test → (b < 32 → 160 ≤ b) → 32 ≤ b
at_least true b e h = leb-true 32 b e
at_least false b e h = let low : b < 32 = leb-false 32 b e in let high : 160 ≤ b = h low in omega arith

-- each byte of a character behind ASCII lies behind ASCII
spelled_shown : (c : ℕ) → 160 ≤ c → IsShown (encode_utf8 c)
spelled_shown c h =
    let bytes : List ℕ = encode_utf8 c in
    by_places bytes (λ k w. at_least (nat_le 32 (get_or bytes k 0)) (get_or bytes k 0) refl (λ low.
    let same : c ≡ get_or bytes k 0 = inside_one c [] bytes k (sym (append-nil bytes)) w (omega arith) in omega (arith, h, same)))

shown_letter_shown : (test : Bool) (c : ℕ) → is_letter c ≡ test → IsShown (if test then encode_utf8 c else shown (encode_utf8 c))
shown_letter_shown true c e = spelled_shown c (leb-true 160 c (and_parts (nat_le 160 c) (not (steers c)) e).0)
shown_letter_shown false c e = (flat_part shown_byte shown_byte_part (encode_utf8 c)).shown

letters_shown : (cs : List ℕ) → IsShown (flat_map shown_letter cs)
letters_shown [] = tt
letters_shown (c ∷ cs) =
    shown-append (shown_letter c) (flat_map shown_letter cs) (shown_letter_shown (is_letter c) c refl) (letters_shown cs)

pub name_shown : (name : List ℕ) → IsShown (shown_text name)
unfolding shown_text
name_shown name =
    shown_of (is_utf8 name) (flat_map shown_letter (chars name)) (shown name) (letters_shown (chars name))
    (flat_part shown_byte shown_byte_part name).shown

-- ---- numbers

pub decimal_part : (n : ℕ) → n < 2 ^ 64 → IsWithin 20 (decimal n)
decimal_part n h = record {
  short = length-decimal-le 20 n (omega arith) (omega arith) h;
  shown = decimal_by_steps (λ n ds. IsShown ds) (λ n h. (omega arith, tt)) (λ n ds h k. shown-append ds _ k (omega arith, tt)) n h;
}

-- one of so many digits
pub short_decimal_part : (k n : ℕ) → 0 < k → n < 10 ^ k → n < 2 ^ 64 → IsWithin k (decimal n)
short_decimal_part k n some low h = record { short = length-decimal-le k n some low h; shown = (decimal_part n h).shown }

before_part : (most d : ℕ) (ds : List ℕ) → 32 ≤ d → IsWithin most ds → IsWithin (1 + most) (digit_before d ds)
before_part most d [] h k =
    one_of (1 + most) (d == 48) [] (d ∷ []) (λ e. nothing (1 + most)) (self_part (1 + most) d (omega arith) h)
before_part most d (e ∷ ds) h k = joined (d ∷ []) (e ∷ ds) (self_part 1 d (omega arith) h) k

zeros_part : (ds : List ℕ) → IsShown ds → IsWithin (length ds) (without_zeros ds)
zeros_part [] h = nothing 0
zeros_part (d ∷ ds) h = wider _ _ (omega arith) (before_part (length ds) d (without_zeros ds) h.0 (zeros_part ds h.1))

decimals_part : (n : ℕ) → IsWithin 4 (without_zeros (four_decimals n))
decimals_part n =
    wider 4 _ (omega arith) (zeros_part (four_decimals n) (omega arith, (omega arith, (omega arith, (omega arith, tt)))))

point_part : (most : ℕ) (ds : List ℕ) → IsWithin most ds → IsWithin (1 + most) (with_point ds)
point_part most [] h = nothing (1 + most)
point_part most (d ∷ ds) h = joined (46 ∷ []) (d ∷ ds) (literal 1 _ refl refl) h

-- so many ten-thousandths, of 32 bits
pub amount_part : (n : ℕ) → n < 2 ^ 32 → IsWithin 11 (amount n)
unfolding amount
amount_part n h =
    joined (decimal (n / 10_000)) (with_point (without_zeros (four_decimals n)))
    (short_decimal_part 6 (n / 10_000) (omega arith) (omega (arith, h)) (omega (arith, h)))
    (point_part 4 (without_zeros (four_decimals n)) (decimals_part n))

pub minus_part : (n : ℤ) → IsWithin 1 (minus n)
unfolding minus
minus_part n = one_of 1 (int_lt n (pos 0)) (45 ∷ []) [] (λ e. literal 1 _ refl refl) (nothing 1)

pub lettered_part : (n letter : ℕ) → n < 2 ^ 32 → 32 ≤ letter → IsWithin 12 (lettered n letter)
unfolding lettered
lettered_part n letter h k = joined (amount n) (letter ∷ []) (amount_part n h) (self_part 1 letter (omega arith) k)

pub name_at : (names : List (List ℕ)) (i : ℕ) → AllByRecursion (IsWithin 32) names → IsWithin 32 (get_or names i [])
name_at [] i h = nothing 32
name_at (name ∷ names) zero h = h.0
name_at (name ∷ names) (suc i) h = name_at names i h.1

pub named_part : (most : ℕ) (name : List ℕ) (n : ℕ) → nat_le (length name) most ≡ true → are_shown name ≡ true → n < 2 ^ 64 →
    IsWithin (most + 20) (named name n)
named_part most name n l e h = joined name (decimal n) (literal most name l e) (decimal_part n h)
