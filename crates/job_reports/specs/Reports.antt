-- What is told of a job.
use Rattle.std.specs.Prelude.{ℕ, Bool, true, false, List, Option, None, Result, Ok, Err}
use Rattle.judgement.specs.declared.failing_item.FailingItem.{FailingItem}
use Rattle.judgement.specs.declared.failing_item.Judgement.{Judgement}
use Rattle.judgement.specs.declared.failing_item.MissingFont.{MissingFont}
use Rattle.judgement.specs.declared.failing_item.SheetSpot.{SheetSpot}
use Rattle.streams.specs.declared.error.Error.{Error}
use Rattle.verdict.specs.declared.verdict.Verdict.{Verdict}
use Rattle.verdict.specs.declared.verdict.Verdict.TheVariants.{Pass, Fail}

-- whether each printer is told of by itself, the names of the printers, the job's name, what came of the job, and what
-- the system said of a read that failed
pub record Reported : Type 0 where
  pub is_each : Bool
  pub names : List (List ℕ)
  pub job : List ℕ
  pub answer : Result Judgement Error
  pub cause : Option (List ℕ)

-- the answer without where the job fails
abbrev pub verdict_told : Result Judgement Error → Result Verdict Error
verdict_told (Ok judgement) = Ok judgement.verdict
verdict_told (Err error) = Err error

-- the item that the job fails at
abbrev pub failing_item_of : Result Judgement Error → Option FailingItem
failing_item_of (Ok judgement) = judgement.failing_item
failing_item_of (Err error) = None

-- the page on which the job fails
abbrev pub page_of : Result Judgement Error → Option ℕ
page_of (Ok judgement) = judgement.page
page_of (Err error) = None

-- where the cursor stood before the item that the job fails at
abbrev pub cursor_of : Result Judgement Error → Option SheetSpot
cursor_of (Ok judgement) = judgement.cursor
cursor_of (Err error) = None

-- the font that no face of a printer answers
abbrev pub font_of : Result Judgement Error → Option MissingFont
font_of (Ok judgement) = judgement.font
font_of (Err error) = None

-- The number of the printer that this is about: where each printer is told of by itself, the only one;
-- else the one that the job fails for. 0 is none.
abbrev pub number_told : Bool → Result Verdict Error → ℕ
number_told true answer = 1
number_told false (Ok (Fail place profile reason)) = profile
number_told false (Ok (Pass pages marks)) = 0
number_told false (Err error) = 0
