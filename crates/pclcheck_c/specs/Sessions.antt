-- What the calls on sessions leave.
use Rattle.std.specs.Prelude.{◌≡◌, ◌↔◌, ℕ, List, [], ◌++◌, Option, None, Some, Result, Ok, Err, IfOk, IfErr}
use Rattle.std.specs.Prelude.{if◌then◌else◌}
use Rattle.device_profile.specs.Printer.{Printer}
use Rattle.judgement.specs.declared.failing_item.Judgement.{Judgement}
use Rattle.preflight.specs.declared.kept_check.KeptCheck.{KeptCheck}
use Rattle.preflight.specs.declared.kept_check.KeptCheck.TheVariants.{Open, Judged, Stopped}
use Rattle.preflight.specs.Kept.{HasEnded, HasKept, IsGoing, IsOver}
use Rattle.streams.specs.declared.error.Error.{Error}
use Rattle.streams.specs.declared.error.Error.TheVariants.{Items, NoProfile, Write}
use Rattle.verdict.specs.Limits.{has_many_items}
use Rattle.pclcheck_c.specs.declared.fleet.Fleet.{Fleet}
use Rattle.pclcheck_c.specs.declared.kept_session.KeptSession.{KeptSession}
use Rattle.pclcheck_c.specs.Fleets.{asked}
use Rattle.foreign_calls.specs.declared.rows.VerdictRow.{VerdictRow}
use Rattle.foreign_calls.specs.declared.why.Why.{Why}
use Rattle.foreign_calls.specs.Answers.{IsStop, Told, error_number}
use Rattle.foreign_calls.specs.Checked.{IsSentenceOf, answer_number, answer_row}

-- the printers that a session checks for
abbrev pub printers_for : Fleet → KeptSession → List Printer
printers_for fleet session = (asked fleet session.printer).fleet

-- the session was begun for this fleet, which has the same printers since
abbrev pub GoesOn : Option Fleet → Option KeptSession → Type 0
GoesOn (Some fleet) (Some session) = IsGoing (printers_for fleet session) session.check
GoesOn _ _ = ⊥

-- this holds of the fleet that is held and of the session, before and after
abbrev pub OnHeld : Option Fleet → Option KeptSession → Option KeptSession →
    (Fleet → KeptSession → KeptSession → Type 0) → Type 0
OnHeld (Some fleet) (Some old) (Some new) P = P fleet old new
OnHeld _ _ _ P = ⊥

-- ---- a session begins

abbrev pub begun_number : Result KeptSession Error → ℕ
begun_number (Ok session) = 0
begun_number (Err error) = error_number error

abbrev pub begun : Result KeptSession Error → Option KeptSession
begun (Ok session) = Some session
begun (Err error) = None

-- there is a session to which nothing was fed, for the printers that are asked for; none just where there is no
-- printer, or where work stopped
pub record Begins (printer number : ℕ) (fleet : Fleet) (held : Option KeptSession) : Type 0 where
  pub answer : Result KeptSession Error
  pub right : IfOk answer
      (λ session. (session.printer ≡ printer) × HasKept (printers_for fleet session) [] session.check)
  pub no_printer : (answer ≡ Err NoProfile) ↔ ((asked fleet printer).fleet ≡ [])
  pub number_is : number ≡ begun_number answer
  pub held_is : held ≡ begun answer

-- ---- a piece

-- how far a check has come: nothing is wrong so far, or there is an answer, whatever follows, or it stopped
abbrev pub progress_number : {A : Type 0} → KeptCheck A → ℕ
progress_number (Open check) = 0
progress_number (Judged answer) = 12
progress_number (Stopped error) = error_number error

-- the session was fed this piece too, and the number says how far it has come
pub record Feeds (piece : List ℕ) (number : ℕ) (fleet : Fleet) (old new : KeptSession) : Type 0 where
  pub printer_is : new.printer ≡ old.printer
  pub fed : (bytes : List ℕ) → HasKept (printers_for fleet old) bytes old.check →
      HasKept (printers_for fleet old) (bytes ++ piece) new.check
  pub going : IsGoing (printers_for fleet old) new.check
  pub number_is : number ≡ progress_number new.check

-- ---- the end

-- the session has the answer on what it was fed, whole; and where it had come to the end before, it is as it was
pub record EndsAs (fleet : Fleet) (old new : KeptSession) : Type 0 where
  pub printer_is : new.printer ≡ old.printer
  pub ended : (bytes : List ℕ) → HasKept (printers_for fleet old) bytes old.check →
      HasEnded (printers_for fleet old) bytes new.check
  pub over : IsOver new.check
  pub again : IsOver old.check → new.check ≡ old.check

-- no verdict says that a limit is passed; that is an error
abbrev pub within : Judgement → Result Judgement Error
within answer = if has_many_items answer.verdict then Err Items else Ok answer

-- the answer of a check that is over
abbrev pub answer_of : {A : Type 0} → KeptCheck A → Result Judgement Error
answer_of (Open check) = Err Write
answer_of (Judged answer) = within answer
answer_of (Stopped error) = Err error

-- its number and its row are left
pub record Ends (number : ℕ) (row row' : VerdictRow) (fleet : Fleet) (old new : KeptSession) : Type 0 where
  pub ends : EndsAs fleet old new
  pub number_is : number ≡ answer_number (answer_of new.check)
  pub row_is : row' ≡ answer_row row (answer_of new.check)

-- or its sentence
pub record Says (name : List ℕ) (Left : Result Told Why → Type 0) (fleet : Fleet) (old new : KeptSession) : Type 0 where
  pub ends : EndsAs fleet old new
  pub told : Result Told Why
  pub sentence : IfOk told (λ told. (bytes : List ℕ) → HasKept (printers_for fleet old) bytes old.check →
      IsSentenceOf (asked fleet old.printer) name bytes told)
  pub stops : IfErr told IsStop
  pub left : Left told
