-- What a user gets who puts a printer's answer into the text of a profile.
use Rattle.std.specs.Prelude.{◌≡◌, ℕ, nat_lt, Bool, true, false, List, [], length, Ok}
use Rattle.device_profile.specs.Name.{printer_name}
use Rattle.device_profile.specs.Printer.{Printer}
use Rattle.device_profile.specs.Text.{printer_of_text, IsErrorOfText}
use Rattle.pjl_answer.specs.declared.answered.AnswerError.{AnswerError}
use Rattle.pjl_answer.specs.declared.answered.AnswerError.TheVariants.{LongAnswer, NoAnswer, Base, LongText, Mismatch}
use Rattle.pjl_answer.specs.declared.answered.AnswerError.TheVariants.{Memory}
use Rattle.pjl_answer.specs.Answer.{is_answer, odd_line}
use Rattle.pjl_answer.specs.Told.{with_told}
use Rattle.pjl_answer.specs.Text.{answered_text}
use Rattle.pjl_answer.specs.Warning.{warning_lines, warnings}

-- whether a text has more bytes than are read
abbrev pub is_long : List ℕ → Bool
is_long text = nat_lt 65_536 (length text)

-- the text describes the printer with the values that are told, under the profile's name
pub record IsOfText (printer : Printer) (answer base text : List ℕ) : Type 0 where
  pub is_read : printer_of_text text ≡ Ok (with_told printer answer)
  pub name : printer_name text ≡ printer_name base

-- it is the text of the profile with what the answer tells, and the lines are those of the warnings
pub record IsDescribed (printer : Printer) (answer base text lines : List ℕ) : Type 0 where
  pub is_made : text ≡ answered_text printer answer base
  pub is_that : IsOfText printer answer base text
  pub warnings : lines ≡ warning_lines [] answer (warnings printer answer)

-- so it is, and the base is the text of a profile
pub record IsAnswered (answer base text lines : List ℕ) : Type 0 where
  pub printer : Printer
  pub is_base : printer_of_text base ≡ Ok printer
  pub is_that : IsDescribed printer answer base text lines

-- the answer is short enough, and gives a variable that is read
pub record IsReadable (answer : List ℕ) : Type 0 where
  pub short : is_long answer ≡ false
  pub given : is_answer answer ≡ true

-- the errors that come once the answer and the profile are read
abbrev pub IsLate : Printer → List ℕ → List ℕ → AnswerError → Type 0
IsLate printer answer base LongText = is_long (answered_text printer answer base) ≡ true
IsLate printer answer base Mismatch = Unit {0}
IsLate printer answer base Memory = Unit {0}
IsLate printer answer base LongAnswer = ⊥
IsLate printer answer base (NoAnswer line) = ⊥
IsLate printer answer base (Base fault) = ⊥

-- the text that would be made is too long
pub record IsTooLong (answer base : List ℕ) : Type 0 where
  pub printer : Printer
  pub is_base : printer_of_text base ≡ Ok printer
  pub long : is_long (answered_text printer answer base) ≡ true

-- THE TABLE OF ERRORS
abbrev pub IsAnswerError : List ℕ → List ℕ → AnswerError → Type 0
IsAnswerError answer base LongAnswer = is_long answer ≡ true
IsAnswerError answer base (NoAnswer line) =
    (is_long answer ≡ false) × (is_answer answer ≡ false) × (line ≡ odd_line answer)
IsAnswerError answer base (Base fault) = IsReadable answer × IsErrorOfText base fault
IsAnswerError answer base LongText = IsReadable answer × IsTooLong answer base
IsAnswerError answer base Mismatch = IsReadable answer
IsAnswerError answer base Memory = IsReadable answer
