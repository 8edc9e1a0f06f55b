-- What a check that is kept between two pieces says of the bytes that it was fed.
use Rattle.std.specs.Prelude.{ℕ, List, false, ⊤}
use Rattle.pcl_lexer.specs.Lexing.Meaning.{MayBe}
use Rattle.device_profile.specs.Printer.{Printer}
use Rattle.preflight.specs.declared.kept_check.KeptCheck.{KeptCheck}
use Rattle.preflight.specs.declared.kept_check.KeptCheck.TheVariants.{Open, Judged, Stopped}
use Rattle.preflight.specs.Carriers.Detached.{IsUsed, WasFed}
use Rattle.preflight.specs.Judgement.{IsAnswer}

-- it was fed these bytes, for a check by this fleet: nothing is wrong so far, or this is the answer on every job that
-- begins with them
abbrev pub HasKept : {A : Type 0} → List Printer → List ℕ → KeptCheck A → Type 0
HasKept fleet bytes (Open check) = WasFed fleet bytes check
HasKept fleet bytes (Judged answer) = (job : List ℕ) → MayBe false bytes job → IsAnswer fleet job answer
HasKept fleet bytes (Stopped error) = ⊤

-- where it is open, it was fed some bytes for a check by this fleet
abbrev pub IsGoing : {A : Type 0} → List Printer → KeptCheck A → Type 0
IsGoing fleet (Open check) = IsUsed fleet check
IsGoing fleet (Judged answer) = ⊤
IsGoing fleet (Stopped error) = ⊤

-- this is the answer on the job of these bytes
abbrev pub HasEnded : {A : Type 0} → List Printer → List ℕ → KeptCheck A → Type 0
HasEnded fleet bytes (Open check) = ⊥
HasEnded fleet bytes (Judged answer) = IsAnswer fleet bytes answer
HasEnded fleet bytes (Stopped error) = ⊤

-- nothing follows it
abbrev pub IsOver : {A : Type 0} → KeptCheck A → Type 0
IsOver (Open check) = ⊥
IsOver (Judged answer) = ⊤
IsOver (Stopped error) = ⊤
