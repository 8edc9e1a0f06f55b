-- Numbers as they stand in the sheet, in its commands and in print.
use Rattle.std.specs.Prelude.{ℕ, ℤ, unsigned_abs, ◌/◌, ◌%◌, ◌==◌, List, ◌++◌, if◌then◌else◌}
use Rattle.shown_bytes.specs.Decimals.{minus, with_four_decimals, with_hundredths, with_tenth}
use Rattle.test_sheet.specs.Dots.{tenths_of_millimetres}

-- so many ten-thousandths: with two or four decimals, where that is no whole number
unfoldable pub amount : ℕ → List ℕ
amount n = if n % 100 == 0 then with_hundredths (n / 100) else with_four_decimals n

-- the same with its sign
unfoldable pub signed_amount : ℤ → List ℕ
signed_amount n = minus n ++ amount (unsigned_abs n)

-- so many ticks in millimetres with one decimal
unfoldable pub millimetres : ℕ → List ℕ
millimetres ticks = with_tenth (tenths_of_millimetres ticks)
