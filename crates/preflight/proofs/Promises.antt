-- What a Fail says of a job of which it is exact.
use Rattle.std.proofs.Common.{◌≡◌, ℕ, List, sym, subst}
use Rattle.pcl_lexer.specs.Reading.{Reading}
use Rattle.device_profile.specs.Printer.{Printer}
use Rattle.verdict.specs.declared.reason.Reason.{Reason}
use Rattle.verdict.specs.declared.failure.Failure.{Failure}
use Rattle.verdict.specs.declared.verdict.Verdict.{Verdict}
use Rattle.verdict.specs.declared.verdict.Verdict.TheVariants.{Fail}
use Rattle.verdict.specs.Failing.{failing}
use Rattle.judgement.specs.Failing.{FailSays}
use Rattle.judgement.specs.Verdict.{IsExact, VerdictHolds, verdict_of}

-- each Fail says what it means
abbrev pub FailsSay : Type 0
FailsSay =
    (fleet : List Printer) (reading : Reading) (place number : ℕ) (reason : Reason) → verdict_of fleet reading ≡ Fail place number reason →
    FailSays fleet reading place number reason

pub keeps : FailsSay → (fleet : List Printer) (job : List ℕ) (place number : ℕ) (reason : Reason) →
    IsExact fleet job (Fail place number reason) → VerdictHolds fleet job (Fail place number reason)
keeps says fleet job place number reason exact = (exact.0, exact.1, says fleet exact.0 place number reason (sym exact.2))

-- so does a verdict that is made of a failure
pub keeps_failing : FailsSay → (fleet : List Printer) (job : List ℕ) (failure : Failure) (verdict : Verdict) → verdict ≡ failing failure →
    IsExact fleet job (failing failure) → IsExact fleet job verdict × VerdictHolds fleet job verdict
keeps_failing says fleet job failure verdict is exact =
    subst (λ v. IsExact fleet job v × VerdictHolds fleet job v) (sym is)
    (exact, keeps says fleet job failure.place failure.profile failure.reason exact)
