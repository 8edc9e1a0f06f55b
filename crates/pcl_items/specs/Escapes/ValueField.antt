-- The texts of a value field, and the number that each stands for.
use Rattle.std.specs.Prelude.{◌≡◌, ℕ, ◌*◌, ◌^◌, ◌≤◌, List, [], ◌∷◌, ◌++◌, length, Option, None, Some}
use Rattle.std.specs.Str.Parse.{AllDigits, digits_value}
use Rattle.pcl_items.specs.declared.number.Sign.{Sign}
use Rattle.pcl_items.specs.declared.number.Sign.TheVariants.{Absent, Plus, Minus}
use Rattle.pcl_items.specs.Escapes.Value.{Amount, most}

abbrev pub sign_text : Sign → List ℕ
sign_text Absent = []
sign_text Plus = 43 ∷ []
sign_text Minus = 45 ∷ []

-- a point and the digits behind it, where there is a point
abbrev pub fraction_text : Option (List ℕ) → List ℕ
fraction_text None = []
fraction_text (Some decimals) = 46 ∷ decimals

abbrev pub decimals_of : Option (List ℕ) → List ℕ
decimals_of None = []
decimals_of (Some decimals) = decimals

-- whole digits and decimals write exactly n ten-thousandths
abbrev pub IsWritten : ℕ → List ℕ → List ℕ → Type 0
IsWritten n whole decimals = n * 10 ^ length decimals ≡ 10000 * digits_value 10 (whole ++ decimals)

-- The shape of a value field: a sign, digits, and a point with digits, each of which may be missing.
pub record IsShape (text : List ℕ) (sign : Sign) (whole : List ℕ) (fraction : Option (List ℕ)) : Type 0 where
  pub spelled : text ≡ sign_text sign ++ (whole ++ fraction_text fraction)
  pub digits : AllDigits 10 whole × AllDigits 10 (decimals_of fraction)

-- a value field of at most 16 characters, whose number is within the limit
pub record IsField (text : List ℕ) (amount : Amount) : Type 0 where
  pub whole : List ℕ
  pub fraction : Option (List ℕ)
  pub shape : IsShape text amount.sign whole fraction
  pub short : length text ≤ 16
  pub written : IsWritten amount.ten_thousandths whole (decimals_of fraction)
  pub limited : amount.ten_thousandths ≤ most
