-- Numbers and lengths as they stand in a text.
use Rattle.std.specs.Prelude.{ℕ, ℤ, unsigned_abs, ◌+◌, ◌*◌, ◌/◌, ◌==◌, if◌then◌else◌, List, [], ◌++◌, decimal, codes}
use Rattle.shown_bytes.specs.Decimals.{amount, minus, with_hundredths, with_tenth}
use Rattle.tick_length.specs.Measures.{ticks_per_7200th, ticks_per_tenth_millimetre}
use Rattle.profile_show.specs.declared.figures.LengthUnit.{LengthUnit}
use Rattle.profile_show.specs.declared.figures.LengthUnit.TheVariants.{Millimetres, Inches, Dots}

-- ---- numbers

-- a value of so many ten-thousandths, which may be less than 0
unfoldable pub signed_amount : ℤ → List ℕ
signed_amount n = minus n ++ amount (unsigned_abs n)

-- how many there are of something, as `1 level` or `2 levels`
abbrev pub counted : ℕ → List ℕ → List ℕ
counted n thing = decimal n ++ codes " " ++ thing ++ (if n == 1 then [] else codes "s")

-- ---- lengths, of which no profile has one below 0

-- how many parts of so many ticks a length has, rounded
abbrev pub parts_of : ℕ → ℤ → ℕ
parts_of ticks length = (unsigned_abs length + ticks / 2) / ticks

-- in 1/7200 inch
abbrev pub in_7200ths : ℤ → List ℕ
in_7200ths length = decimal (parts_of ticks_per_7200th length)

-- millimetres with one decimal, inches with three at the most, dots of 1/300 inch with none or two
unfoldable pub length_in : LengthUnit → ℤ → List ℕ
length_in Millimetres length = with_tenth (parts_of ticks_per_tenth_millimetre length)
length_in Inches length = amount (10 * parts_of 36_576_000 length)
length_in Dots length = with_hundredths (parts_of 1_219_200 length)

abbrev pub unit_name : LengthUnit → List ℕ
unit_name Millimetres = codes "mm"
unit_name Inches = codes "in"
unit_name Dots = codes "dots"

-- width and height, as `8.5 x 11 in`
unfoldable pub sides_in : LengthUnit → ℤ → ℤ → List ℕ
sides_in unit width height =
    length_in unit width ++ codes " x " ++ length_in unit height ++ codes " " ++ unit_name unit
