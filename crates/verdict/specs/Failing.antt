-- What is wrong with a job where, and the verdict on a job that fails.
use Rattle.std.specs.Prelude.{ℕ}
use Rattle.pcl_items.specs.declared.fault.LexCause.{LexCause}
use Rattle.page_env.specs.declared.finding.Finding.{Finding}
use Rattle.verdict.specs.declared.failure.Failure.{Failure}
use Rattle.verdict.specs.declared.reason.Reason.TheVariants as reasons
use Rattle.verdict.specs.declared.verdict.Verdict.{Verdict}
use Rattle.verdict.specs.declared.verdict.Verdict.TheVariants.{Pass, Fail}

-- a fault of the bytes, which is no printer's
abbrev pub fault_at : ℕ → LexCause → Failure
fault_at place cause = record { place = place; profile = 0; reason = reasons.Fault cause }

-- what the item at this place comes to on the printer of this number
abbrev pub found_at : ℕ → ℕ → Finding → Failure
found_at place number finding = record { place = place; profile = number; reason = reasons.Finding finding }

-- the item at this place gives other marks or pages on the printer of this number than on the first
abbrev pub differs_at : ℕ → ℕ → Failure
differs_at place number = record { place = place; profile = number; reason = reasons.Differs }

-- for the item at this place there is no pinned job
abbrev pub unpinnable_at : ℕ → Failure
unpinnable_at place = record { place = place; profile = 1; reason = reasons.Unpinnable }

abbrev pub failing : Failure → Verdict
failing failure = Fail failure.place failure.profile failure.reason

-- nothing is wrong
abbrev pub IsPass : Verdict → Type 0
IsPass (Pass pages marks) = Unit {0}
IsPass (Fail place profile reason) = ⊥
