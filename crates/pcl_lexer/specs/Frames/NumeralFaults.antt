-- The faults of the numbers of a frame.
use Rattle.std.specs.Prelude.{◌≡◌, ℕ, ℤ, ◌+◌, ◌≤◌, ◌<◌, List, ◌∷◌, ◌++◌, length, Option}
use Rattle.pcl_items.specs.declared.number.Sign.{Sign}
use Rattle.pcl_items.specs.declared.fault.LexCause.{LexCause}
use Rattle.pcl_items.specs.declared.fault.LexCause.TheVariants.{Syntax, Truncated, BadNumber}
use Rattle.pcl_items.specs.Escapes.ValueField.{decimals_of, IsShape}
use Rattle.pcl_lexer.specs.Frames.NumberText.{Ends, IsNumeral, IsCoordinate, IsSetting}

-- Where a number that `Good` admits is due: a 17th character; no digit; a number that is not admitted; and the end of
-- the bytes in these.
pub data NumeralFault (Good : List ℕ → Type 0) : List ℕ → LexCause → Type 0 where
  long : {text whole : List ℕ} {sign : Sign} {fraction : Option (List ℕ)} (rest : List ℕ) →
      IsShape text sign whole fraction → 16 < length text → NumeralFault Good (text ++ rest) BadNumber
  no_digit : {text whole : List ℕ} {sign : Sign} {fraction : Option (List ℕ)} {byte : ℕ} (rest : List ℕ) →
      IsShape text sign whole fraction → length text ≤ 16 → length whole + length (decimals_of fraction) ≡ 0 →
      Ends text byte →
      NumeralFault Good (text ++ byte ∷ rest) Syntax
  no_value : {text whole : List ℕ} {sign : Sign} {fraction : Option (List ℕ)} {byte : ℕ} (rest : List ℕ) →
      IsNumeral text sign whole fraction → (Good text → ⊥) → Ends text byte →
      NumeralFault Good (text ++ byte ∷ rest) BadNumber
  cut_number : {text whole : List ℕ} {sign : Sign} {fraction : Option (List ℕ)} →
      IsShape text sign whole fraction → length text ≤ 16 → (Good text → ⊥) → NumeralFault Good text Truncated

abbrev pub IsSomeCoordinate : List ℕ → Type 0
IsSomeCoordinate text = (x : ℤ) × IsCoordinate text x

abbrev pub IsSomeSetting : List ℕ → Type 0
IsSomeSetting text = (n : ℕ) × IsSetting text n
