-- How a value field in front ends.
use Rattle.std.specs.Prelude.{ℕ, nat_lt, ◌<◌, ◌≤◌, List, [], ◌∷◌, drop, Option, None, Some, if◌then◌else◌}
use Rattle.pcl_lexer.specs.declared.pcl.field.FieldEnd as code
use Rattle.pcl_lexer.specs.declared.pcl.field.FieldEnd.TheVariants as ends
use Rattle.pcl_items.specs.Escapes.Value.{Amount}
use Rattle.pcl_lexer.specs.Escapes.Field.{Field, field_at, amount_of}
use Rattle.pcl_items.specs.Items.{amount}

-- No byte stands behind it; it has too many characters, or no number within the limit;
-- or this byte stands behind its number and so many characters.
pub data FieldEnd : Type 0 where
  Open : FieldEnd
  BadNumber : FieldEnd
  Ended : (amount : Amount) (len last : ℕ) → FieldEnd

abbrev pub ended_by : Option Amount → ℕ → ℕ → FieldEnd
ended_by None len last = BadNumber
ended_by (Some amount) len last = Ended amount len last

abbrev pub with_byte : Field → List ℕ → FieldEnd
with_byte f [] = Open
with_byte f (last ∷ bytes) = ended_by (amount_of f) f.len last

unfoldable pub field_end : List ℕ → FieldEnd
field_end bytes =
    if nat_lt 16 (field_at bytes).len then BadNumber else with_byte (field_at bytes) (drop (field_at bytes).len bytes)

-- .. as the code has it
abbrev pub end_view : code.FieldEnd → FieldEnd
end_view ends.Open = Open
end_view ends.BadNumber = BadNumber
end_view (ends.Ended field) = Ended (amount field.number) field.len field.last

-- a byte that ends a field is one of the n bytes, behind at most 16 characters
abbrev pub EndsWithin : ℕ → code.FieldEnd → Type 0
EndsWithin n ends.Open = Unit {0}
EndsWithin n ends.BadNumber = Unit {0}
EndsWithin n (ends.Ended field) = (field.len ≤ 16) × (field.len < n)
