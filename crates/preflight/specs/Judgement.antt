-- What a check says of its verdict, and what is told with it.
use Rattle.std.specs.Prelude.{ℕ, List, Option}
use Rattle.device_profile.specs.Printer.{Printer}
use Rattle.page_machine.specs.MachineState.{MachineState}
use Rattle.verdict.specs.declared.verdict.Verdict.{Verdict}
use Rattle.judgement.specs.declared.failing_item.FailingItem.{FailingItem}
use Rattle.judgement.specs.declared.failing_item.Judgement.{Judgement}
use Rattle.judgement.specs.FailingItem.{IsTold}
use Rattle.preflight.specs.Stood.{IsCursorOf, IsFontOf, MachineStood}
use Rattle.judgement.specs.Verdict.{IsExact, VerdictHolds}
use Rattle.preflight.specs.Where.{IsOnPage}

-- the verdict is right; the item that the job fails at and the page are told; and the machine of a finding stands where
-- it was found
abbrev pub IsJudgementOn : List Printer → List ℕ → Verdict → Option FailingItem → Option ℕ → List MachineState → Type 0
IsJudgementOn fleet job verdict failing_item page machines =
    IsExact fleet job verdict × VerdictHolds fleet job verdict × IsTold job verdict failing_item
    × IsOnPage fleet job verdict page × MachineStood fleet job verdict failing_item machines

-- the verdict on a job is exact and keeps its promise, and where the job fails is told right
pub record IsAnswer (fleet : List Printer) (job : List ℕ) (answer : Judgement) : Type 0 where
  pub exact : IsExact fleet job answer.verdict
  pub promise : VerdictHolds fleet job answer.verdict
  pub told : IsTold job answer.verdict answer.failing_item
  pub paged : IsOnPage fleet job answer.verdict answer.page
  pub placed : IsCursorOf fleet job answer.verdict answer.cursor
  pub asks : IsFontOf fleet job answer.verdict answer.font
