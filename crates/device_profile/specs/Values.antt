-- The values that a key of a profile's text may have.
use Rattle.std.specs.Prelude.{ℕ, List, [], ◌∷◌, Bool, false, not, ◌&&◌, ◌||◌, ◌==◌, nat_le, length, Option, None, Some}
use Rattle.std.specs.Prelude.{if◌then◌else◌, Result, Ok, Err}
use Rattle.std.specs.List.{list_all, list_any, filter_map}
use Rattle.std.specs.Option.{option_and_then}
use Rattle.device_profile.specs.declared.field.Field.{Field}
use Rattle.device_profile.specs.declared.field.Field.TheVariants.{Size, Orientation, Vmi, Font, Copies, Sides, Tray}
use Rattle.device_profile.specs.declared.field.Field.TheVariants.{LineTerm}
use Rattle.device_profile.specs.declared.fault.Cause.{Cause}
use Rattle.device_profile.specs.declared.fault.Cause.TheVariants.{Repeated, Range}
use Rattle.device_profile.specs.Field.{has_decimals}
use Rattle.device_profile.specs.Words.{number_of, amount_of}

-- the number that a word is in a field
abbrev pub value_of : Field → List ℕ → Option ℕ
value_of field word = if has_decimals field then amount_of word else number_of word

-- whether a number is from the first to the second
abbrev pub is_between : ℕ → ℕ → ℕ → Bool
is_between least most n = nat_le least n && nat_le n most

-- the values that a field may have
abbrev pub is_value : Field → ℕ → Bool
is_value Size value = is_between 1 999 value
is_value Orientation value = is_between 0 3 value
is_value Vmi value = is_between 0 3_350_000 value
is_value Font value = is_between 1 255 value
is_value Copies value = is_between 1 32_767 value
is_value Sides value = is_between 0 2 value
is_value Tray value = is_between 1 255 value
is_value LineTerm value = is_between 0 3 value

-- some number stands twice
abbrev pub has_repeat : List ℕ → Bool
has_repeat [] = false
has_repeat (n ∷ ns) = list_any (λ m. m == n) ns || has_repeat ns

-- 1 to 16 values of a field
abbrev pub are_values : Field → List ℕ → Bool
are_values field values = is_between 1 16 (length values) && list_all (is_value field) values

-- 1 to 16 values of a field, none of which stands twice
abbrev pub are_choices : Field → List ℕ → Bool
are_choices field values = are_values field values && not (has_repeat values)

-- The values that the words behind a key list.
-- A number that stands twice comes before all else that is wrong; words that are no numbers are not compared.
unfoldable pub values_on_line : Field → List (List ℕ) → Result (List ℕ) Cause
values_on_line field words =
    let numbers : List ℕ = filter_map (value_of field) words in
    if has_repeat numbers then Err Repeated
    else (if (length numbers == length words) && are_values field numbers then Ok numbers else Err Range)

-- the one number behind a key, up to the most
unfoldable pub number_on_line : ℕ → List (List ℕ) → Option ℕ
number_on_line most [] = None
number_on_line most (word ∷ []) = option_and_then (λ n. if nat_le n most then Some n else None) (number_of word)
number_on_line most (word ∷ more ∷ words) = None

-- one word of 1 to 32 bytes of 33 to 126
unfoldable pub is_name : List (List ℕ) → Bool
is_name [] = false
is_name (word ∷ []) = nat_le (length word) 32 && list_all (is_between 33 126) word
is_name (word ∷ more ∷ words) = false
