-- Names as the texts of a document: of letters of ASCII by their codes, with others by Unicode.
use Rattle.std.specs.Prelude.{ℕ, ◌+◌, ◌-◌, ◌/◌, ◌%◌, ◌==◌, ◌||◌, ◌++◌, nat_lt, Bool, if◌then◌else◌, List, flat_map}
use Rattle.std.specs.List.{list_any}
use Rattle.std.specs.Str.{chars, is_utf8}
use Rattle.page_pdf.specs.Figures.{code_digits}
use Rattle.page_pdf.specs.Hexes.{letter_codes}

-- a unit of UTF-16 by four digits, its upper half first
unfoldable pub unit_digits : ℕ → List ℕ
unit_digits unit = code_digits (unit / 256 % 256) ++ code_digits (unit % 256)

-- the two units of a character that stands so far behind the first 65,536
unfoldable pub pair_digits : ℕ → List ℕ
pair_digits over = unit_digits (55296 + over / 1024) ++ unit_digits (56320 + over % 1024)

abbrev pub number_digits : ℕ → List ℕ
number_digits number = if nat_lt number 65536 then unit_digits number else pair_digits (number - 65536)

-- a question mark for a control character of ASCII
abbrev pub plain_number : ℕ → ℕ
plain_number number = if nat_lt number 32 || number == 127 then 63 else number

abbrev pub character_units : ℕ → List ℕ
character_units character = number_digits (plain_number character)

-- a text, behind the mark U+FEFF
unfoldable pub unicode_digits : List ℕ → List ℕ
unicode_digits text = unit_digits 65279 ++ flat_map character_units (chars text)

-- a byte of no letter of ASCII
abbrev pub is_wide : ℕ → Bool
is_wide byte = nat_lt 127 byte

-- of a name that has one
unfoldable pub wide_codes : List ℕ → List ℕ
wide_codes name = if is_utf8 name then unicode_digits name else letter_codes name

unfoldable pub title_codes : List ℕ → List ℕ
title_codes name = if list_any is_wide name then wide_codes name else letter_codes name
