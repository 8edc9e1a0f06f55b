-- What the calls that check a job answer and leave.
use Rattle.std.specs.Prelude.{◌≡◌, ◌↔◌, ℕ, List, [], true, false, Result, Ok, Err, IfOk, None}
use Rattle.device_profile.specs.Printer.{Printer}
use Rattle.job_reports.specs.Groups.{Groups, reported}
use Rattle.job_reports.specs.JobSentences.{job_sentence}
use Rattle.judgement.specs.declared.failing_item.Judgement.{Judgement}
use Rattle.preflight.specs.Judgement.{IsAnswer}
use Rattle.judgement.specs.Verdict.{IsExact, VerdictHolds}
use Rattle.streams.specs.declared.error.Error.{Error}
use Rattle.streams.specs.declared.error.Error.TheVariants.{Items, NoProfile}
use Rattle.verdict.specs.declared.verdict.Verdict.{Verdict}
use Rattle.verdict.specs.Limits.{has_many_items}
use Rattle.foreign_calls.specs.declared.rows.VerdictRow.{VerdictRow}
use Rattle.foreign_calls.specs.Answers.{Told, error_number, verdict_row}

-- the number of an answer, and the row that it leaves
abbrev pub answer_number : Result Judgement Error → ℕ
answer_number (Ok answer) = 0
answer_number (Err error) = error_number error

abbrev pub answer_row : VerdictRow → Result Judgement Error → VerdictRow
answer_row row (Ok answer) = verdict_row answer.verdict answer.page
answer_row row (Err error) = row

-- the verdict on a job is that its macros carry out more items than a printer allows
abbrev pub PassesLimit : (fleet : List Printer) → (job : List ℕ) → Type 0
PassesLimit fleet job =
    (verdict : Verdict) × (has_many_items verdict ≡ true) × IsExact fleet job verdict × VerdictHolds fleet job verdict

-- no verdict says that a limit is passed
abbrev pub IsWithin : Judgement → Type 0
IsWithin answer = has_many_items answer.verdict ≡ false

-- A right answer on a job for these printers. There is none just where there is no printer; where the job passes the
-- limit of the items of its macros; or where work stopped.
pub record Checks (fleet : List Printer) (job : List ℕ) (number : ℕ) (row row' : VerdictRow) : Type 0 where
  pub answer : Result Judgement Error
  pub right : IfOk answer (IsAnswer fleet job)
  pub no_printer : (answer ≡ Err NoProfile) ↔ (fleet ≡ [])
  pub within : IfOk answer IsWithin
  pub items : answer ≡ Err Items → PassesLimit fleet job
  pub number_is : number ≡ answer_number answer
  pub row_is : row' ≡ answer_row row answer

-- the sentence by an answer on a job of this name for these printers, and its verdict
abbrev pub IsTextOf : Groups → (name : List ℕ) → Result Judgement Error → Told → Type 0
IsTextOf group name (Ok answer) told =
    (told.row ≡ verdict_row answer.verdict answer.page)
    × (told.text ≡ job_sentence (reported group name (Ok answer) None))
IsTextOf group name (Err error) told = ⊥

-- the sentence on a job of this name for these printers, and its verdict
abbrev pub IsSentenceOf : Groups → (name job : List ℕ) → Told → Type 0
IsSentenceOf group name job told =
    (answer : Judgement) × IsAnswer group.fleet job answer × (told.row ≡ verdict_row answer.verdict answer.page)
    × (told.text ≡ job_sentence (reported group name (Ok answer) None))
