-- What stands where a number of a frame may stand, as the code has it.
use Rattle.std.specs.Prelude.{ℕ}
use Rattle.pcl_lexer.specs.declared.frame.number.Numeral as code
use Rattle.pcl_lexer.specs.declared.frame.number.Numeral.TheVariants as numerals
use Rattle.pcl_lexer.specs.Frames.Number.{Numeral, Cut, Wrong, Read}

abbrev pub numeral_view : {T A : Type 0} → (T → A) → code.Numeral T → Numeral A
numeral_view f numerals.Cut = Cut
numeral_view f (numerals.Wrong cause) = Wrong cause
numeral_view f (numerals.Read value len) = Read (f value) len

-- how many characters it has
abbrev pub numeral_len : {A : Type 0} → Numeral A → ℕ
numeral_len Cut = 0
numeral_len (Wrong cause) = 0
numeral_len (Read value len) = len
