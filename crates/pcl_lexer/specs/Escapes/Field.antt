-- The value field: an optional sign, digits, and an optional point with digits.
use Rattle.std.specs.Prelude.{ℕ, ◌+◌, ◌-◌, ◌*◌, ◌==◌, nat_le, List, [], ◌∷◌, ◌++◌, length, take, drop, take_while, fold}
use Rattle.std.specs.Prelude.{replicate, Bool, false, ◌&&◌, Option, None, Some, if◌then◌else◌}
use Rattle.std.specs.Char.{is_ascii_digit}
use Rattle.std.specs.List.{list_all}
use Rattle.pcl_items.specs.declared.number.Sign.{Sign}
use Rattle.pcl_items.specs.declared.number.Sign.TheVariants.{Absent, Plus, Minus}
use Rattle.pcl_items.specs.Escapes.Value.{Amount, most}

-- the digits in front
abbrev pub digits : List ℕ → List ℕ
digits bytes = take_while is_ascii_digit bytes

-- the sign in front
abbrev pub sign_at : List ℕ → Sign
sign_at [] = Absent
sign_at (b ∷ bytes) = if b == 43 then Plus else if b == 45 then Minus else Absent

abbrev pub sign_len : Sign → ℕ
sign_len Absent = 0
sign_len Plus = 1
sign_len Minus = 1

-- whether a point is in front
abbrev pub has_point : List ℕ → Bool
has_point [] = false
has_point (b ∷ bytes) = b == 46

-- a field by its parts, and how many characters it has
pub record Field : Type 0 where
  pub sign : Sign
  pub whole : List ℕ
  pub decimals : List ℕ
  pub len : ℕ

-- the longest field in front
unfoldable pub field_at : List ℕ → Field
field_at bytes =
    let sign = sign_at bytes in
    let whole = digits (drop (sign_len sign) bytes) in
    let point_at = sign_len sign + length whole in
    let decimals = digits (drop (point_at + 1) bytes) in
    if has_point (drop point_at bytes)
    then record { sign = sign; whole = whole; decimals = decimals; len = point_at + 1 + length decimals }
    else record { sign = sign; whole = whole; decimals = []; len = point_at }

abbrev pub next_digit : ℕ → ℕ → ℕ
next_digit n d = 10 * n + (d - 48)

-- what digits stand for
abbrev pub decimal : List ℕ → ℕ
decimal ds = fold next_digit 0 ds

-- the first four decimals, zeros for those that are missing
abbrev pub four : List ℕ → List ℕ
four decimals = take 4 (decimals ++ replicate 4 48)

-- the digits of the whole part, and then of four decimals
abbrev pub ten_thousandths_of : Field → ℕ
ten_thousandths_of f = fold next_digit (decimal f.whole) (four f.decimals)

-- the field's number, unless it is past the limit or has a fifth decimal
unfoldable pub amount_of : Field → Option Amount
amount_of f =
    if nat_le (ten_thousandths_of f) most && list_all (λ d. d == 48) (drop 4 f.decimals)
    then Some (record { sign = f.sign; ten_thousandths = ten_thousandths_of f })
    else None

-- the number of a sign and of so many ten-thousandths, unless they are past the limit
abbrev pub within_limit : Sign → ℕ → Option Amount
within_limit sign n = if nat_le n most then Some (record { sign = sign; ten_thousandths = n }) else None
