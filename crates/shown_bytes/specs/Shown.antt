-- Bytes of files as they stand in lines for a terminal.
use Rattle.std.specs.Prelude.{ℕ, ◌+◌, ◌/◌, ◌%◌, nat_lt, nat_le, ◌&&◌, ◌||◌, ◌==◌, not, if◌then◌else◌, Bool, List, []}
use Rattle.std.specs.Prelude.{◌∷◌, flat_map}
use Rattle.std.specs.Char.{encode_utf8}
use Rattle.std.specs.Str.{chars, is_utf8}

-- a digit to base 16, in small letters
abbrev pub hex_digit : ℕ → ℕ
hex_digit d = if nat_lt d 10 then 48 + d else 87 + d

-- a byte by two of them
abbrev pub hex_byte : ℕ → List ℕ
hex_byte b = hex_digit (b / 16) ∷ hex_digit (b % 16) ∷ []

-- a byte as itself from a first one on; one that shows nothing, or a backslash, as \x and two hexadecimal digits
abbrev pub shown_from : ℕ → ℕ → List ℕ
shown_from first b = if nat_le first b && nat_le b 126 && not (b == 92) then b ∷ [] else 92 ∷ 120 ∷ hex_byte b

-- where a blank is itself
abbrev pub shown_byte : ℕ → List ℕ
shown_byte b = shown_from 32 b

abbrev pub shown : List ℕ → List ℕ
shown bytes = flat_map shown_byte bytes

-- ---- names in sentences

abbrev pub is_between : (first last n : ℕ) → Bool
is_between first last n = nat_le first n && nat_le n last

-- a character that ends a line or turns the direction of what stands behind it
abbrev pub steers : ℕ → Bool
steers c = (is_between 0x200e 0x200f c || is_between 0x2028 0x202e c) || is_between 0x2066 0x2069 c

-- a character behind ASCII and the control characters that shows, and does not steer
abbrev pub is_letter : ℕ → Bool
is_letter c = nat_le 160 c && not (steers c)

-- as itself; the bytes of any other character stand as in a line
abbrev pub shown_letter : ℕ → List ℕ
shown_letter c = if is_letter c then encode_utf8 c else shown (encode_utf8 c)

-- A name by its characters; the bytes of one that is no UTF-8 text stand as in a line.
-- It is shut: a proof that does not open it meets neither case.
unfoldable pub shown_text : List ℕ → List ℕ
shown_text name = if is_utf8 name then flat_map shown_letter (chars name) else shown name
