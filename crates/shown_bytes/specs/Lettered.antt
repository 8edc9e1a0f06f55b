-- Numbers with a letter behind them, as symbol sets are named.
use Rattle.std.specs.Prelude.{ℕ, List, [], ◌∷◌, ◌++◌}
use Rattle.shown_bytes.specs.Decimals.{amount}

-- so many ten-thousandths, and a letter, as 10U
unfoldable pub lettered : ℕ → ℕ → List ℕ
lettered n letter = amount n ++ letter ∷ []
