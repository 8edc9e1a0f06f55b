-- Numbers and bytes as they stand in lines of text.
use Rattle.std.specs.Prelude.{ℕ, ℤ, unsigned_abs, List, ◌∷◌, ◌++◌, decimal}
use Rattle.std.specs.Fmt.{signed_decimal}
use Rattle.shown_bytes.specs.Decimals.{amount, minus}
use Rattle.shown_bytes.specs.Shown.{shown_from}

-- a value behind its name
abbrev pub named : List ℕ → ℕ → List ℕ
named name value = name ++ decimal value

-- ---- words, each with a space before it

abbrev pub number_word : ℕ → List ℕ
number_word n = 32 ∷ decimal n

-- a length, or a place on a page, in ticks
abbrev pub length_word : ℤ → List ℕ
length_word l = 32 ∷ signed_decimal l

-- so many ten-thousandths
unfoldable pub value_word : ℕ → List ℕ
value_word n = 32 ∷ amount n

unfoldable pub signed_word : ℤ → List ℕ
signed_word n = 32 ∷ minus n ++ amount (unsigned_abs n)

-- ---- bytes

-- where a blank stands by its digits
abbrev pub escaped_byte : ℕ → List ℕ
escaped_byte b = shown_from 33 b
