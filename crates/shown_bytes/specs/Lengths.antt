-- Lengths in millimetres, as they stand in texts.
use Rattle.std.specs.Prelude.{ℕ, suc, ℤ, pos, negsuc, ◌/◌, List, ◌∷◌}
use Rattle.shown_bytes.specs.Decimals.{with_hundredths}

-- a number of so many hundredths, which may be less than 0
unfoldable pub signed_hundredths : ℤ → List ℕ
signed_hundredths (pos n) = with_hundredths n
signed_hundredths (negsuc n) = 45 ∷ with_hundredths (suc n)

-- how many hundredths of a millimetre so many ticks are, rounded down
abbrev pub millimetre_hundredths : ℤ → ℤ
millimetre_hundredths (pos ticks) = pos (ticks / 14_400_000)
millimetre_hundredths (negsuc ticks) = negsuc (ticks / 14_400_000)

-- so many ticks in millimetres
unfoldable pub millimetres : ℤ → List ℕ
millimetres ticks = signed_hundredths (millimetre_hundredths ticks)
