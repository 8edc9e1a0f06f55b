-- Errors that come once the answer and the profile are read.
use Rattle.std.proofs.Common.{◌≡◌, List, ℕ, Result, Ok, Err, IfErr}
use Rattle.device_profile.specs.Printer.{Printer}
use Rattle.device_profile.specs.Text.{printer_of_text}
use Rattle.pjl_answer.specs.declared.answered.AnswerError.{AnswerError}
use Rattle.pjl_answer.specs.declared.answered.AnswerError.TheVariants.{LongAnswer, NoAnswer, Base, LongText, Mismatch, Memory}
use Rattle.pjl_answer.specs.Answered.{IsAnswerError, IsLate, IsReadable}

error_of : (printer : Printer) (answer base : List ℕ) → IsReadable answer → printer_of_text base ≡ Ok printer → (error : AnswerError)
    → IsLate printer answer base error → IsAnswerError answer base error
error_of printer answer base readable is_base LongAnswer late = absurd late
error_of printer answer base readable is_base (NoAnswer line) late = absurd late
error_of printer answer base readable is_base (Base fault) late = absurd late
error_of printer answer base readable is_base LongText late = (readable, record { printer = printer; is_base = is_base; long = late })
error_of printer answer base readable is_base Mismatch late = readable
error_of printer answer base readable is_base Memory late = readable

pub late_error : {X : Type 0} (printer : Printer) (answer base : List ℕ) (result : Result X AnswerError) → IsReadable answer →
    printer_of_text base ≡ Ok printer
    → IfErr result (IsLate printer answer base) → IfErr result (IsAnswerError answer base)
late_error printer answer base (Ok x) readable is_base late = tt
late_error printer answer base (Err error) readable is_base late = error_of printer answer base readable is_base error late
