-- What a check of a job hands out.
use Rattle.std.specs.Prelude.{◌≡◌, ◌⊎◌, ℕ, List, Bool, Option, None, Some, Result, Ok, Err, IfOk, IfErr}
use Rattle.std.specs.Prelude.{length, pos, unwrap_or}
use Rattle.foreign_calls.specs.declared.why.Why.{Why}
use Rattle.foreign_calls.specs.Answers.{IsStop, filled, room_number, verdict_row, why_number}
use Rattle.job_reports.specs.declared.kind.Kind.{Kind}
use Rattle.job_reports.specs.declared.kind.Kind.TheVariants.{Unchecked, Wrong, Printer as OfPrinter, Panel, Differs}
use Rattle.job_reports.specs.Groups.{Groups, reported}
use Rattle.job_reports.specs.JobSentences.{job_sentence}
use Rattle.job_reports.specs.Kinds.{kind_of}
use Rattle.judgement.specs.declared.failing_item.FailingItem.{FailingItem}
use Rattle.judgement.specs.declared.failing_item.Judgement.{Judgement}
use Rattle.judgement.specs.declared.failing_item.SheetSpot.{SheetSpot}
use Rattle.preflight.specs.Judgement.{IsAnswer}
use Rattle.verdict.specs.declared.verdict.Verdict.{Verdict}
use Rattle.verdict.specs.declared.verdict.Verdict.TheVariants.{Pass, Fail}
use Rattle.web_module.specs.declared.rows.JudgementRow.{JudgementRow}
use Rattle.web_module.specs.Printers.{Fleet, IsFleetOf, IsRefusedOf, group_of}

-- ---- rows

-- who says no, in numbers
abbrev pub kind_number : Kind → ℕ
kind_number Unchecked = 1
kind_number Wrong = 2
kind_number OfPrinter = 3
kind_number Panel = 4
kind_number Differs = 5

abbrev pub told_kind : Verdict → Option FailingItem → ℕ
told_kind (Pass pages marks) item = 0
told_kind (Fail place profile finding) item = kind_number (kind_of finding item)

-- no place of a cursor is told
abbrev pub no_spot : SheetSpot
no_spot = record { x = pos 0; y = pos 0 }

abbrev pub placed_number : Option SheetSpot → ℕ
placed_number None = 0
placed_number (Some spot) = 1

-- a judgement in numbers
abbrev pub judgement_row : Judgement → JudgementRow
judgement_row judgement = record {
  pages = (verdict_row judgement.verdict judgement.page).pages;
  marks = (verdict_row judgement.verdict judgement.page).marks;
  place = (verdict_row judgement.verdict judgement.page).place;
  printer = (verdict_row judgement.verdict judgement.page).printer;
  page = (verdict_row judgement.verdict judgement.page).page;
  x = (unwrap_or judgement.cursor no_spot).x;
  y = (unwrap_or judgement.cursor no_spot).y;
  number = (verdict_row judgement.verdict judgement.page).number;
  kind = told_kind judgement.verdict judgement.failing_item;
  is_placed = placed_number judgement.cursor;
}

-- ---- what is handed out

-- a judgement in numbers, and its sentence
pub record Judged : Type 0 where
  pub row : JudgementRow
  pub text : List ℕ

-- the judgement on a job of this name for these printers
abbrev pub IsSaidOf : Groups → (name job : List ℕ) → Judged → Type 0
IsSaidOf group name job judged =
    (answer : Judgement) × IsAnswer group.fleet job answer × (judged.row ≡ judgement_row answer)
    × (judged.text ≡ job_sentence (reported group name (Ok answer) None))

-- for the printers of these texts
abbrev pub IsJudgedOf : (texts : List (List ℕ)) → (is_each : Bool) → (name job : List ℕ) → Judged → Type 0
IsJudgedOf texts is_each name job judged =
    (fleet : Fleet) × IsFleetOf texts fleet × IsSaidOf (group_of fleet is_each) name job judged

-- why there is none: work stopped, or a text is refused
abbrev pub IsUnjudgedOf : (texts : List (List ℕ)) → Why → Type 0
IsUnjudgedOf texts why = IsStop why ⊎ IsRefusedOf texts why

-- the sentence is handed out, or the number says why there is none, and nothing is written
abbrev pub IsHandedWith : Result Judged Why → (number : ℕ) → (room room' : List ℕ) → (needed needed' : ℕ) → Type 0
IsHandedWith (Ok judged) number room room' needed needed' =
    (number ≡ room_number judged.text room) × (room' ≡ filled judged.text room) × (needed' ≡ length judged.text)
IsHandedWith (Err why) number room room' needed needed' =
    (number ≡ why_number why) × (room' ≡ room) × (needed' ≡ needed)

-- what came of the check, where there is a sentence
abbrev pub row_left : JudgementRow → Result Judged Why → JudgementRow
row_left row (Ok judged) = judged.row
row_left row (Err why) = row

-- there is a judgement with this fact, or something with that one that says why there is none; and so it is left
abbrev pub Judges : (Judged → Type 0) → (Why → Type 0) → (Result Judged Why → Type 0) → Type 0
Judges P Q Left = (judged : Result Judged Why) × IfOk judged P × IfErr judged Q × Left judged
