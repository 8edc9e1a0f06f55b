-- The faults of a value field.
use Rattle.std.specs.Prelude.{ℕ, ◌<◌, ◌≤◌, List, ◌∷◌, ◌++◌, length, Option}
use Rattle.pcl_items.specs.declared.number.Sign.{Sign}
use Rattle.pcl_items.specs.Escapes.Value.{most}
use Rattle.pcl_items.specs.Escapes.ValueField.{decimals_of, IsWritten, IsShape}
use Rattle.pcl_lexer.specs.Frames.NumberText.{Ends}

-- a 17th character, or a number that is past the limit or is no whole number of ten-thousandths
pub data NumberFault : List ℕ → Type 0 where
  too_long : {text whole : List ℕ} {sign : Sign} {fraction : Option (List ℕ)} (rest : List ℕ) →
      IsShape text sign whole fraction → 16 < length text → NumberFault (text ++ rest)
  out_of_range : {text whole : List ℕ} {sign : Sign} {fraction : Option (List ℕ)} {byte : ℕ} (rest : List ℕ) →
      IsShape text sign whole fraction → length text ≤ 16 → Ends text byte →
      ((n : ℕ) → IsWritten n whole (decimals_of fraction) → most < n) → NumberFault (text ++ byte ∷ rest)

-- a field that the bytes end in
pub data IsCut : List ℕ → Type 0 where
  cut : {text whole : List ℕ} {sign : Sign} {fraction : Option (List ℕ)} → IsShape text sign whole fraction →
      length text ≤ 16 → IsCut text

-- a termination character
abbrev pub IsCapital : ℕ → Type 0
IsCapital c = (64 ≤ c) × (c ≤ 94)
