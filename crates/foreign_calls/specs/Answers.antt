-- The numbers that calls answer, and what they leave in the rooms of their callers.
use Rattle.std.specs.Prelude.{◌≡◌, ℕ, ◌++◌, List, drop, length, nat_le, if◌then◌else◌, Option, None, Some}
use Rattle.std.specs.Prelude.{Result, Ok, Err, IfOk, IfErr, ⊤}
use Rattle.device_profile.specs.declared.fault.Cause.{Cause}
use Rattle.device_profile.specs.declared.fault.Cause.TheVariants.{Version, Unknown, Repeated, Range, Missing}
use Rattle.device_profile.specs.declared.fault.Cause.TheVariants.{NoGeometry}
use Rattle.device_profile.specs.declared.fault.ProfileFault.{ProfileFault}
use Rattle.device_profile.specs.declared.fault.ProfileFault.TheVariants.{Fault, Memory as NoMemory}
use Rattle.device_profile.specs.Text.{printer_of_text}
use Rattle.renderings.specs.declared.outcome.Outcome.{Outcome}
use Rattle.renderings.specs.declared.outcome.Outcome.TheVariants.{Done, Fail as FailsOf}
use Rattle.streams.specs.declared.error.Error.{Error}
use Rattle.streams.specs.declared.error.Error.TheVariants.{Memory, Read, Write, Turns, NoProfile, Items}
use Rattle.verdict.specs.declared.verdict.Verdict.{Verdict}
use Rattle.verdict.specs.declared.verdict.Verdict.TheVariants.{Pass, Fail}
use Rattle.verdict.specs.Numbers.{reason_number}
use Rattle.foreign_calls.specs.declared.rows.Refusal.{Refusal}
use Rattle.foreign_calls.specs.declared.rows.VerdictRow.{VerdictRow}
use Rattle.foreign_calls.specs.declared.why.Why.{Why}
use Rattle.foreign_calls.specs.declared.why.Why.TheVariants.{Stopped, Refused, NotAllowed, NoField, NoPage, Unheard}
use Rattle.foreign_calls.specs.declared.why.Why.TheVariants.{NotText}

-- ---- numbers

-- why work stopped; a job and a text in memory are read and written without a failure
abbrev pub error_number : Error → ℕ
error_number Memory = 2
error_number Turns = 3
error_number NoProfile = 4
error_number Read = 5
error_number Write = 5
error_number Items = 11

-- what is wrong with the text of a profile
abbrev pub cause_number : Cause → ℕ
cause_number Version = 1
cause_number Unknown = 2
cause_number Repeated = 3
cause_number Range = 4
cause_number Missing = 5
cause_number NoGeometry = 6

-- why nothing is handed out
abbrev pub why_number : Why → ℕ
why_number (Stopped error) = error_number error
why_number (Refused number line cause) = 6
why_number NotAllowed = 7
why_number NoField = 8
why_number NoPage = 9
why_number Unheard = 10
why_number NotText = 10

-- by what is wrong with the text of the profile of this number
abbrev pub why_of : ℕ → ProfileFault → Why
why_of number (Fault line cause) = Refused number line cause
why_of number NoMemory = Stopped Memory

-- 0 where the work was done
abbrev pub work_number : {T : Type 0} → Result T Why → ℕ
work_number (Ok done) = 0
work_number (Err why) = why_number why

-- ---- rows

-- the number of a page that is told, or 0
abbrev pub page_number : Option ℕ → ℕ
page_number None = 0
page_number (Some page) = page

-- a verdict in numbers, with the page that is told with it: 0 is the number of a Pass
abbrev pub verdict_row : Verdict → (page : Option ℕ) → VerdictRow
verdict_row (Pass pages marks) page =
    record { pages = pages; marks = marks; place = 0; printer = 0; page = page_number page; number = 0 }
verdict_row (Fail place profile finding) page = record {
  pages = 0;
  marks = 0;
  place = place;
  printer = profile;
  page = page_number page;
  number = reason_number finding;
}

-- what came of the writing of a text, in numbers: 0 where the job was gone through to its end; no page is told
abbrev pub outcome_row : Outcome → VerdictRow
outcome_row Done = verdict_row (Pass 0 0) None
outcome_row (FailsOf place profile finding) = verdict_row (Fail place profile finding) None

-- a profile that is refused
abbrev pub refusal_row : Refusal → Why → Refusal
refusal_row refusal (Refused number line cause) =
    record { number = number; line = line; cause = cause_number cause }
refusal_row refusal _ = refusal

-- ---- what is handed out

-- a text, and what came of the job that it is of
pub record Told : Type 0 where
  pub row : VerdictRow
  pub text : List ℕ

-- ---- what is left

-- a text in a room, where that is long enough
abbrev pub filled : (text room : List ℕ) → List ℕ
filled text room = if nat_le (length text) (length room) then text ++ drop (length text) room else room

abbrev pub room_number : (text room : List ℕ) → ℕ
room_number text room = if nat_le (length text) (length room) then 0 else 1

-- a text is handed out, or the number says why there is none, and nothing is written
abbrev pub IsHanded : Result Told Why → (number : ℕ) → (room room' : List ℕ) → (needed needed' : ℕ) → Type 0
IsHanded (Ok told) number room room' needed needed' =
    (number ≡ room_number told.text room) × (room' ≡ filled told.text room)
    × (needed' ≡ length told.text)
IsHanded (Err why) number room room' needed needed' =
    (number ≡ why_number why) × (room' ≡ room) × (needed' ≡ needed)

-- what came of the job, where a text is handed out
abbrev pub row_by : VerdictRow → Result Told Why → VerdictRow
row_by row (Ok told) = told.row
row_by row (Err why) = row

-- what is told of a profile that is refused
abbrev pub refusal_by : {T : Type 0} → Refusal → Result T Why → Refusal
refusal_by refusal (Ok done) = refusal
refusal_by refusal (Err why) = refusal_row refusal why

-- there is a text with this fact, or something with that one that says why there is none; and so it is left
abbrev pub Tells : (Told → Type 0) → (Why → Type 0) → (Result Told Why → Type 0) → Type 0
Tells P Q Left = (told : Result Told Why) × IfOk told P × IfErr told Q × Left told

-- ---- why

-- work stopped
abbrev pub IsStop : Why → Type 0
IsStop (Stopped error) = ⊤
IsStop _ = ⊥

-- work stopped, or the text of the profile of this number is refused, at that line for that cause
abbrev pub IsWhyOf : (number : ℕ) → (text : List ℕ) → Why → Type 0
IsWhyOf number text (Stopped error) = ⊤
IsWhyOf number text (Refused refused line cause) =
    (refused ≡ number) × (printer_of_text text ≡ Err (Fault line cause))
IsWhyOf number text _ = ⊥
