-- What a session stands for, and what it says of the bytes that it was fed.
use Rattle.std.specs.Prelude.{◌≡◌, ◌+◌, ◌≤◌, ◌^◌, ℕ, List, ◌++◌, length, false, Option, None}
use Rattle.pcl_lexer.specs.Lexing.State.{LexerState, WantsMore}
use Rattle.pcl_lexer.specs.Lexing.Meaning.{MayBe}
use Rattle.device_profile.specs.Printer.{Printer}
use Rattle.page_machine.specs.MachineState.{MachineState}
use Rattle.sinks.specs.declared.counts.Counts.{Counts}
use Rattle.preflight.specs.declared.check_state.CheckState.{CheckState}
use Rattle.preflight.specs.declared.check_state.CheckState.TheVariants.{Open, Judged, Stopped}
use Rattle.streams.specs.declared.error.Error.{Error}
use Rattle.streams.specs.declared.error.Error.TheVariants.{Memory}
use Rattle.verdict.specs.declared.verdict.Verdict.{Verdict}
use Rattle.streams.specs.Pieces.{MayBeBy}
use Rattle.judgement.specs.declared.failing_item.FailingItem.{FailingItem}
use Rattle.preflight.specs.Judgement.{IsJudgementOn}
use Rattle.preflight.specs.Where.{page_with}
use Rattle.preflight.specs.Carriers.Checking.{HasExecuted}

-- the lexer and the machines with their counts, how many bytes were fed, how far it has come, and the item
-- that the job fails at
pub record SessionState : Type 0 where
  pub lexer : LexerState
  pub machines : List MachineState
  pub counts : Counts
  pub total : ℕ
  pub state : CheckState
  pub failing_item : Option FailingItem

-- the page on which the job fails, where that is known
abbrev pub page_told : CheckState → Counts → Option ℕ
page_told Open counts = None
page_told (Judged verdict) counts = page_with verdict counts
page_told (Stopped error) counts = None

-- What the bytes so far came to: the items that were read of them were executed on each printer, alike and without a
-- finding; or this is the verdict on every job that begins with them, and the item and the page that it fails at.
abbrev pub ChecksTo : CheckState → List Printer → List ℕ → SessionState → Type 0
ChecksTo Open fleet bytes session =
    HasExecuted fleet bytes session.lexer session.machines session.counts × (session.total ≡ length bytes)
ChecksTo (Judged verdict) fleet bytes session =
    (job : List ℕ) → MayBe false bytes job →
    IsJudgementOn fleet job verdict session.failing_item (page_with verdict session.counts) session.machines
ChecksTo (Stopped error) fleet bytes session = Unit {0}

-- the session was fed these bytes, for a check by this fleet
abbrev pub HasChecked : List Printer → List ℕ → SessionState → Type 0
HasChecked fleet bytes session = ChecksTo session.state fleet bytes session

-- ---- a session takes a job piece by piece

-- nothing is wrong so far, and all pieces together with so many more bytes have at most 2^62
abbrev pub HasRoom : SessionState → ℕ → Type 0
HasRoom session more = (session.state ≡ Open) × (session.total + more ≤ 2 ^ 62)

-- From the one to the other by these bytes, which leave the verdict open.
pub record ChecksOn (first : SessionState) (bytes : List ℕ) (now : SessionState) : Type 0 where
  pub is_open : now.state ≡ Open
  pub total_is : now.total ≡ first.total + length bytes
  pub open_input : now.lexer.ended ≡ false
  pub wants_more : WantsMore now.lexer
  pub checked : (fleet : List Printer) (base : List ℕ) → HasChecked fleet base first →
      HasChecked fleet (base ++ bytes) now

-- From the one to the other, with the verdict on every job that may be by these pieces, and the item and the page that
-- it fails at, where the machine of a finding stands.
pub record IsJudged (first : SessionState) (verdict : Verdict) (pieces : List (List ℕ))
    (now : SessionState) : Type 0 where
  pub state_is : now.state ≡ Judged verdict
  pub right : (fleet : List Printer) (base : List ℕ) → HasChecked fleet base first → (rest : List ℕ) →
      MayBeBy pieces rest →
      IsJudgementOn fleet (base ++ rest) verdict now.failing_item (page_with verdict now.counts) now.machines

-- memory was refused, which the session answers from then on
abbrev pub IsOutOfMemory : SessionState → Error → List ℕ → SessionState → Type 0
IsOutOfMemory first error bytes now = (error ≡ Memory) × (now.state ≡ Stopped Memory)
