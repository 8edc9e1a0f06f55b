-- What is told of a job that fails.
use Rattle.std.proofs.Common.{◌≡◌, ℕ, List, [], ◌∷◌, ◌++◌, Option, None, Some, refl, sym, subst, arith}
use Rattle.std.specs.List.{Contains}
use Rattle.std.proofs.lemmas.List.Elements.{Contains-append_left, Contains-append_right}
use Rattle.pcl_items.specs.Items.{Entry, Placed, at}
use Rattle.pcl_lexer.specs.Reading.{Reading, IsReading, items_of}
use Rattle.device_profile.specs.Printer.{Printer}
use Rattle.page_machine.specs.MachineState.{MachineState}
use Rattle.verdict.specs.Failing.{failing}
use Rattle.verdict.specs.declared.failure.Failure.{Failure}
use Rattle.verdict.specs.declared.reason.Reason.{Reason}
use Rattle.verdict.specs.declared.reason.Reason.TheVariants.{Fault, Finding, Differs, Unpinnable}
use Rattle.verdict.specs.declared.verdict.Verdict.{Verdict}
use Rattle.verdict.specs.declared.verdict.Verdict.TheVariants.{Fail}
use Rattle.judgement.specs.declared.failing_item.FailingItem.{FailingItem}
use Rattle.judgement.specs.FailingItem.{Names, StandsAt, IsTold}
use Rattle.preflight.specs.Judgement.{IsJudgementOn}
use Rattle.preflight.specs.Stood.{MachineStood}
use Rattle.preflight.specs.Where.{IsOnPage, page_with}
use Rattle.sinks.specs.declared.counts.Counts.{Counts}
use Rattle.preflight.specs.Carriers.Checking.{FailsBy}
use Rattle.preflight.specs.Carriers.Lockstep.{Action, IsWrong}
use Rattle.preflight.proofs.Promises.{FailsSay, keeps_failing}

-- an item stands behind others
contains_there : (items_before others : List Placed) (x : Placed) → Contains ((items_before ++ x ∷ []) ++ others) x
contains_there items_before others x =
    Contains-append_left (items_before ++ x ∷ []) others x (Contains-append_right items_before (x ∷ []) x (0, omega arith, refl))

-- the item that is named stands at its place
pub named_at : (job : List ℕ) (reading : Reading) (items_before others : List Placed) (place : ℕ) (entry : Entry)
    (failing_item : Option FailingItem) →
    IsReading job reading → items_of reading ≡ (items_before ++ at place entry ∷ []) ++ others → Names failing_item entry →
    StandsAt job place failing_item
named_at job reading items_before others place entry (Some failing_item) read is names = (
  reading,
  read,
  entry,
  subst (λ items. Contains items (at place entry)) (sym is)
      (contains_there items_before others (at place entry)),
  names,
)
named_at job reading items_before others place entry None read is names = absurd names

-- where an item is wrong, or the end, what stands there is told
pub told_there : (job : List ℕ) (place number : ℕ) (reason : Reason) (failing_item : Option FailingItem) (action : Action)
    (machines : List MachineState) →
    IsWrong action machines number reason → StandsAt job place failing_item → IsTold job (Fail place number reason) failing_item
told_there job place number (Finding finding) failing_item action machines wrong stands = stands
told_there job place number Differs failing_item action machines wrong stands = stands
told_there job place number (Fault cause) failing_item action machines wrong stands = absurd wrong
told_there job place number Unpinnable failing_item action machines wrong stands = absurd wrong

-- a verdict that is made of a failure is right, with what is told of it
pub right_failing : FailsSay → (fleet : List Printer) (job : List ℕ) (failure : Failure) (verdict : Verdict)
    (failing_item : Option FailingItem)
    (counts : Counts) (machines : List MachineState) → verdict ≡ failing failure → FailsBy fleet job failure failing_item counts machines →
    IsJudgementOn fleet job verdict failing_item (page_with verdict counts) machines
right_failing says fleet job failure verdict failing_item counts machines is fails =
    let keeps = keeps_failing says fleet job failure verdict is fails.0 in (
      keeps.0,
      keeps.1,
      subst (λ v. IsTold job v failing_item) (sym is) fails.1,
      subst (λ v. IsOnPage fleet job v (page_with v counts)) (sym is) fails.2,
      subst (λ v. MachineStood fleet job v failing_item machines) (sym is) fails.3,
    )
