-- The texts of the numbers of a frame, and what each stands for.
use Rattle.std.specs.Prelude.{◌≡◌, ℕ, ℤ, ◌+◌, ◌*◌, ◌^◌, ◌≤◌, ◌<◌, List, [], ◌∷◌, ◌++◌, length, Option}
use Rattle.std.specs.Str.Parse.{digits_value}
use Rattle.pcl_items.specs.declared.number.Sign.{Sign}
use Rattle.pcl_items.specs.declared.number.Sign.TheVariants.{Minus}
use Rattle.pcl_items.specs.Escapes.Value.{most_units, signed}
use Rattle.pcl_items.specs.Escapes.ValueField.{decimals_of, IsShape, IsField}

-- the byte does not go on with the number
pub record Ends (text : List ℕ) (byte : ℕ) : Type 0 where
  pub longest : (sign : Sign) (whole : List ℕ) (fraction : Option (List ℕ)) →
      IsShape (text ++ byte ∷ []) sign whole fraction → ⊥

-- the bytes behind a number do not go on with it
abbrev pub EndsBefore : List ℕ → List ℕ → Type 0
EndsBefore text [] = Unit {0}
EndsBefore text (byte ∷ rest) = Ends text byte

-- a number of a frame has a digit, and at most 16 characters
pub record IsNumeral (text : List ℕ) (sign : Sign) (whole : List ℕ) (fraction : Option (List ℕ)) : Type 0 where
  pub shape : IsShape text sign whole fraction
  pub digit : 0 < length whole + length (decimals_of fraction)
  pub short : length text ≤ 16

-- a coordinate is whole, and within the limit
pub record IsCoordinate (text : List ℕ) (x : ℤ) : Type 0 where
  pub sign : Sign
  pub units : ℕ
  pub whole : List ℕ
  pub fraction : Option (List ℕ)
  pub numeral : IsNumeral text sign whole fraction
  pub written : units * 10 ^ length (decimals_of fraction) ≡ digits_value 10 (whole ++ decimals_of fraction)
  pub limited : units ≤ most_units
  pub value : x ≡ signed sign units

-- the number of a setting is not negative
pub record IsSetting (text : List ℕ) (n : ℕ) : Type 0 where
  pub sign : Sign
  pub field : IsField text (record { sign = sign; ten_thousandths = n })
  pub digit : 0 < length field.whole + length (decimals_of field.fraction)
  pub not_below : sign ≡ Minus → n ≡ 0
