-- What a line with a page gives.
use Rattle.std.specs.Prelude.{ℕ, List, [], ◌∷◌, Bool, false, ◌&&◌, ◌==◌, nat_lt, nat_le, length, Option, None, Some}
use Rattle.std.specs.Prelude.{option_and_then, if◌then◌else◌, Result, Ok, Err}
use Rattle.std.specs.List.{list_all, filter_map}
use Rattle.std.specs.Option.{option_map_or}
use Rattle.device_profile.specs.declared.geometry.Geometry.{Geometry}
use Rattle.device_profile.specs.declared.fault.Cause.{Cause}
use Rattle.device_profile.specs.declared.fault.Cause.TheVariants.{Repeated, Range}
use Rattle.device_profile.specs.Words.{number_of}
use Rattle.device_profile.specs.Rows.{row_of}
use Rattle.device_profile.specs.Printer.{has_row, is_page}

-- whether these words are the size and the orientation of a row
abbrev pub repeats_pair : List Geometry → List (List ℕ) → Bool
repeats_pair rows [] = false
repeats_pair rows (size ∷ []) = false
repeats_pair rows (size ∷ orientation ∷ words) =
    option_map_or (λ s. option_map_or (λ o. has_row rows s o) (number_of orientation) false) (number_of size) false

-- a number of a row: of at most 720000, which as a length is 100 inches
abbrev pub is_row_number : ℕ → Bool
is_row_number n = nat_le n 720_000

-- the twelve numbers of a row
unfoldable pub row_numbers_of : List (List ℕ) → Option (List ℕ)
row_numbers_of words =
    let numbers : List ℕ = filter_map number_of words in
    if (length words == 12) && (length numbers == 12) && list_all is_row_number numbers then Some numbers else None

-- the row that twelve numbers give, where it is a page
abbrev pub row_of_numbers : List ℕ → Option Geometry
row_of_numbers numbers = if is_page (row_of numbers) then Some (row_of numbers) else None

-- the row that twelve words give
abbrev pub row_of_words : List (List ℕ) → Option Geometry
row_of_words words = option_and_then row_of_numbers (row_numbers_of words)

-- The row that the words behind `geometry` give.
-- A pair that was given before comes before all else that is wrong; there is room for 64 rows.
unfoldable pub geometry_on_line : List Geometry → List (List ℕ) → Result Geometry Cause
geometry_on_line rows words =
    if repeats_pair rows words then Err Repeated
    else option_map_or (λ row. if nat_lt (length rows) 64 then Ok row else Err Range) (row_of_words words) (Err Range)
