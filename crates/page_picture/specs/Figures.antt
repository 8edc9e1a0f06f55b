-- Numbers and lengths as they stand in a picture, whose unit is 1/7200 inch.
use Rattle.std.specs.Prelude.{ℕ, ℤ, pos, negsuc, unsigned_abs, ◌+◌, ◌/◌, List, ◌++◌, codes}
use Rattle.shown_bytes.specs.Decimals.{with_millionths}
use Rattle.shown_bytes.specs.Lengths.{signed_hundredths}

-- ---- units

-- how many hundredths of a unit so many ticks are, rounded down
abbrev pub hundredths : ℤ → ℤ
hundredths (pos ticks) = pos (ticks / 50_800)
hundredths (negsuc ticks) = negsuc (ticks / 50_800)

-- so many hundredths of a unit
abbrev pub units : ℤ → List ℕ
units n = signed_hundredths n

-- a length, or a place on the page
abbrev pub length_units : ℤ → List ℕ
length_units length = units (hundredths length)

-- a place on the page, or two sides, with a space between them
unfoldable pub pair_units : ℤ → ℤ → List ℕ
pair_units x y = length_units x ++ codes " " ++ length_units y

-- ---- inches

-- how many millionths of an inch a length has, rounded; no side of a page is less than 0
abbrev pub millionths : ℤ → ℕ
millionths length = (unsigned_abs length + 18_288) / 36_576

abbrev pub inches : ℤ → List ℕ
inches length = with_millionths (millionths length)
