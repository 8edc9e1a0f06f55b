-- A renderer that goes on is not over: of two faults that may come next, each has its outcome.
use Rattle.std.proofs.Common.{◌≡◌, ◌∙◌, ℕ, [], ap, sym, arith}
use Rattle.pcl_items.specs.declared.fault.LexCause.TheVariants.{Truncated}
use Rattle.pcl_lexer.specs.Reading.{Stopped}
use Rattle.verdict.specs.Failing.{fault_at}
use Rattle.renderings.specs.declared.outcome.Outcome.{Outcome}
use Rattle.renderings.specs.declared.outcome.Outcome.TheVariants.{Done, Fail}
use Rattle.renderings.specs.Expected.{Rendering, IsOver}
use Rattle.renderings.specs.Outcomes.{fails_with}

-- the place that an outcome tells
abbrev pub place_told : Outcome → ℕ
place_told Done = 0
place_told (Fail place profile reason) = place

-- what is due goes by what follows, where the outcome of a fault is that fault
pub faults_matter : (rendering : Rendering) →
    ((place : ℕ) → rendering.outcome (Stopped [] place Truncated) ≡ fails_with (fault_at place Truncated)) →
    IsOver rendering → ⊥
faults_matter rendering fails over =
    let same : fails_with (fault_at 0 Truncated) ≡ fails_with (fault_at 1 Truncated) =
    sym (fails 0) ∙ ((over (Stopped [] 0 Truncated) (Stopped [] 1 Truncated)).1 ∙ fails 1) in
    let places : 0 ≡ 1 = ap place_told same in
    absurd (omega (arith, places))
