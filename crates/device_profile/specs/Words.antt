-- Words and numbers of a profile's text.
use Rattle.std.specs.Prelude.{ℕ, ◌+◌, ◌-◌, ◌*◌, ◌^◌, List, [], ◌∷◌, Bool, ◌&&◌, ◌==◌, nat_lt, nat_le, length, filter}
use Rattle.std.specs.Prelude.{Option, None, Some, if◌then◌else◌}
use Rattle.std.specs.List.{slice_split, list_all}
use Rattle.std.specs.Option.{option_and_then, option_map}

-- the words of a line, which stand apart by spaces
abbrev pub words_of : List ℕ → List (List ℕ)
words_of line = filter (λ word. nat_lt 0 (length word)) (slice_split (λ byte. byte == 32) line)

-- a byte is a decimal digit
abbrev pub is_digit : ℕ → Bool
is_digit byte = nat_le 48 byte && nat_le byte 57

-- the value of digits after a value
abbrev pub value_after : ℕ → List ℕ → ℕ
value_after n [] = n
value_after n (digit ∷ digits) = value_after (10 * n + (digit - 48)) digits

-- so many digits at most, and one at least
abbrev pub are_digits : ℕ → List ℕ → Bool
are_digits most word = nat_lt 0 (length word) && nat_le (length word) most && list_all is_digit word

-- a number is 1 to 16 digits
unfoldable pub number_of : List ℕ → Option ℕ
number_of word = if are_digits 16 word then Some (value_after 0 word) else None

-- decimals are one to four digits; they count ten-thousandths
abbrev pub decimals_of : List ℕ → Option ℕ
decimals_of word = if are_digits 4 word then Some (value_after 0 word * 10 ^ (4 - length word)) else None

-- a number, or a number, a point and decimals
abbrev pub amount_of_parts : List (List ℕ) → Option ℕ
amount_of_parts [] = None
amount_of_parts (whole ∷ []) = option_map (λ n. n * 10_000) (number_of whole)
amount_of_parts (whole ∷ decimals ∷ []) =
    option_and_then (λ n. option_map (λ d. n * 10_000 + d) (decimals_of decimals)) (number_of whole)
amount_of_parts (whole ∷ decimals ∷ more ∷ parts) = None

-- the ten-thousandths of an amount
unfoldable pub amount_of : List ℕ → Option ℕ
amount_of word = amount_of_parts (slice_split (λ byte. byte == 46) word)
