-- The numbers of a frame, as they are read.
use Rattle.std.specs.Prelude.{ℕ, ℤ, ◌+◌, ◌==◌, nat_lt, nat_le, List, [], ◌∷◌, length, drop, Bool, not, ◌&&◌, Option}
use Rattle.std.specs.Prelude.{None, Some, if◌then◌else◌}
use Rattle.std.specs.List.{list_all}
use Rattle.pcl_items.specs.declared.number.Sign.{Sign}
use Rattle.pcl_items.specs.declared.fault.LexCause.{LexCause}
use Rattle.pcl_items.specs.declared.fault.LexCause.TheVariants.{Syntax, BadNumber}
use Rattle.pcl_items.specs.Escapes.Value.{Amount, most_units, signed}
use Rattle.pcl_lexer.specs.Escapes.Field.{Field, field_at, amount_of, decimal}
use Rattle.pcl_lexer.specs.Escapes.Ungrouped.{is_minus}

-- of a sign and a magnitude, unless that is past the limit or not whole
abbrev pub coordinate_by : Sign → ℕ → Bool → Option ℤ
coordinate_by sign n is_whole = if nat_le n most_units && is_whole then Some (signed sign n) else None

unfoldable pub coordinate_of : Field → Option ℤ
coordinate_of f = coordinate_by f.sign (decimal f.whole) (list_all (λ d. d == 48) f.decimals)

-- not negative, and without its sign
abbrev pub unsigned : Option Amount → Option ℕ
unsigned None = None
unsigned (Some a) = if is_minus a.sign && not (a.ten_thousandths == 0) then None else Some a.ten_thousandths

abbrev pub setting_of : Field → Option ℕ
setting_of f = unsigned (amount_of f)

-- The bytes decide no number yet, or no number stands there, or one of so many characters.
pub data Numeral (A : Type 0) : Type 0 where
  Cut : Numeral A
  Wrong : (cause : LexCause) → Numeral A
  Read : (value : A) (len : ℕ) → Numeral A

abbrev pub has_digit : Field → Bool
has_digit f = not (length f.whole + length f.decimals == 0)

abbrev pub read_or : {A : Type 0} → Numeral A → Option A → ℕ → Numeral A
read_or n None len = n
read_or n (Some value) len = Read value len

-- by the byte behind a number, or the end of all bytes
abbrev pub number_end : {A : Type 0} → Bool → Bool → Option A → ℕ → List ℕ → Numeral A
number_end whole digit value len [] = if whole && digit then read_or Cut value len else Cut
number_end whole digit value len (c ∷ rest) = if digit then read_or (Wrong BadNumber) value len else Wrong Syntax

-- the number in front
unfoldable pub numeral_at : {A : Type 0} → (Field → Option A) → Bool → List ℕ → Numeral A
numeral_at value whole bytes =
    let f = field_at bytes in
    if nat_lt 16 f.len then Wrong BadNumber else number_end whole (has_digit f) (value f) f.len (drop f.len bytes)
