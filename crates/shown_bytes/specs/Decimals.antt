-- Numbers with decimals, as they stand in texts.
use Rattle.std.specs.Prelude.{ℕ, ℤ, pos, int_lt, ◌/◌, ◌%◌, ◌+◌, ◌==◌, if◌then◌else◌, List, [], ◌∷◌, ◌++◌, decimal}

-- the last digit of a number
abbrev pub digit : ℕ → ℕ
digit n = 48 + n % 10

-- a minus in front of what is less than 0
unfoldable pub minus : ℤ → List ℕ
minus n = if int_lt n (pos 0) then 45 ∷ [] else []

-- ---- as many decimals as are named

-- a number of so many tenths, with one decimal
abbrev pub with_tenth : ℕ → List ℕ
with_tenth n = decimal (n / 10) ++ 46 ∷ digit n ∷ []

-- a number of so many hundredths: with two decimals, where it is not whole
abbrev pub with_hundredths : ℕ → List ℕ
with_hundredths n = decimal (n / 100) ++ (if n % 100 == 0 then [] else 46 ∷ digit (n / 10) ∷ digit n ∷ [])

-- the four decimals of n ten-thousandths
abbrev pub four_decimals : ℕ → List ℕ
four_decimals n = digit (n / 1_000) ∷ digit (n / 100) ∷ digit (n / 10) ∷ digit n ∷ []

-- a number of so many ten-thousandths: with four decimals, where it is not whole
abbrev pub with_four_decimals : ℕ → List ℕ
with_four_decimals n = decimal (n / 10_000) ++ (if n % 10_000 == 0 then [] else 46 ∷ four_decimals n)

-- ---- no more decimals than are needed

-- a digit before others, but no zero at the end
abbrev pub digit_before : ℕ → List ℕ → List ℕ
digit_before d [] = if d == 48 then [] else d ∷ []
digit_before d (e ∷ ds) = d ∷ e ∷ ds

abbrev pub without_zeros : List ℕ → List ℕ
without_zeros [] = []
without_zeros (d ∷ ds) = digit_before d (without_zeros ds)

-- a point before decimals, where there are some
abbrev pub with_point : List ℕ → List ℕ
with_point [] = []
with_point (d ∷ ds) = 46 ∷ d ∷ ds

-- the whole part without zeros in front, and the decimals without zeros at the end
abbrev pub magnitude_text : ℕ → List ℕ
magnitude_text n = decimal (n / 10_000) ++ with_point (without_zeros (four_decimals n))

-- the same, shut: a proof that does not open it meets no case of a decimal
unfoldable pub amount : ℕ → List ℕ
amount n = magnitude_text n

-- a number of so many millionths: the text of its ten-thousandths, where it has no more decimals, or five or six
unfoldable pub with_millionths : ℕ → List ℕ
with_millionths n =
    if n % 100 == 0 then amount (n / 100)
    else decimal (n / 1_000_000) ++ 46 ∷ four_decimals (n / 100) ++ digit (n / 10)
    ∷ (if n % 10 == 0 then [] else digit n ∷ [])
