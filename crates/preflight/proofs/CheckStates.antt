-- What the state of a check tells.
use Rattle.std.proofs.Common.{◌≡◌, true, false, Option, None, Some, refl, subst, sym}
use Rattle.verdict.specs.declared.verdict.Verdict.{Verdict}
use Rattle.streams.specs.declared.error.Error.{Error}
use Rattle.streams.specs.declared.error.Error.TheVariants.{Memory}
use Rattle.preflight.specs.declared.check_state.CheckState.{CheckState}
use Rattle.preflight.specs.declared.check_state.CheckState.TheVariants.{Open, Judged, Stopped}
use Rattle.preflight.specs.CheckState.{Ends, StandsBy, is_open}
use Rattle.verdict.specs.Failing.{failing}
use Rattle.verdict.specs.declared.failure.Failure.{Failure}

module _ (P : Option Failure → Type 0) where
  -- it stands open
  pub open_by : (state : CheckState) → state ≡ Open → P None → StandsBy state P
  open_by state is h = subst (λ s. StandsBy s P) (sym is) h

  -- the job failed
  pub failed_by : (state : CheckState) (failure : Failure) → state ≡ Judged (failing failure) → P (Some failure) → StandsBy state P
  failed_by state failure is h = subst (λ s. StandsBy s P) (sym is) (failure, refl, h)

  -- memory was refused
  pub refused_by : (state : CheckState) → state ≡ Stopped Memory → StandsBy state P
  refused_by state is = subst (λ s. StandsBy s P) (sym is) refl

  -- what holds where it stands open
  pub where_open : (state : CheckState) → is_open state ≡ true → StandsBy state P → P None
  where_open Open is h = h
  where_open (Judged verdict) is h = absurd cc
  where_open (Stopped error) is h = absurd cc

-- what follows with no failure, and with each, follows however it stands
pub stands_on : (P Q : Option Failure → Type 0) (state : CheckState) → ((failed : Option Failure) → P failed → Q failed) →
    StandsBy state P → StandsBy state Q
stands_on P Q Open on h = on None h
stands_on P Q (Judged verdict) on h = (h.0, h.1, on (Some h.0) h.2)
stands_on P Q (Stopped error) on h = h

-- so does what follows with no failure, and with each where it stands open no more
pub stands_apart : (P Q : Option Failure → Type 0) (state : CheckState) → (P None → Q None) →
    ((failure : Failure) → is_open state ≡ false → P (Some failure) → Q (Some failure)) → StandsBy state P → StandsBy state Q
stands_apart P Q Open on fails h = on h
stands_apart P Q (Judged verdict) on fails h = (h.0, h.1, fails h.0 refl h.2)
stands_apart P Q (Stopped error) on fails h = h

-- one that is open is Open
pub open_is : (state : CheckState) → is_open state ≡ true → state ≡ Open
open_is Open is = refl
open_is (Judged verdict) is = absurd cc
open_is (Stopped error) is = absurd cc

-- what follows with each failure follows where it stands open no more
pub closed_on : (P Q : Option Failure → Type 0) (state : CheckState) → is_open state ≡ false →
    ((failure : Failure) → P (Some failure) → Q (Some failure)) → StandsBy state P → StandsBy state Q
closed_on P Q Open is on h = absurd cc
closed_on P Q (Judged verdict) is on h = (h.0, h.1, on h.0 h.2)
closed_on P Q (Stopped error) is on h = h

-- what follows with no failure follows where it stands open
pub open_on : (P Q : Option Failure → Type 0) (state : CheckState) → is_open state ≡ true → (P None → Q None) → StandsBy state P →
    StandsBy state Q
open_on P Q Open is on h = on h
open_on P Q (Judged verdict) is on h = absurd cc
open_on P Q (Stopped error) is on h = absurd cc

-- what follows of the verdict of each failure holds where it stands open no more
pub ends_by : (P : Option Failure → Type 0) (Q : Verdict → Type 0) (state : CheckState) → is_open state ≡ false →
    ((failure : Failure) (verdict : Verdict) → verdict ≡ failing failure → P (Some failure) → Q verdict) → StandsBy state P →
    Ends state Q
ends_by P Q Open is on h = absurd cc
ends_by P Q (Judged verdict) is on h = on h.0 verdict h.1 h.2
ends_by P Q (Stopped error) is on h = h

module _ (state : CheckState) where
  -- what holds of the verdict that is known
  pub judged_stands : (P : Option Failure → Type 0) (verdict : Verdict) → state ≡ Judged verdict → StandsBy state P →
      (failure : Failure) × (verdict ≡ failing failure) × P (Some failure)
  judged_stands P verdict is h = subst (λ s. StandsBy s P) is h

  pub judged_ends : (Q : Verdict → Type 0) (verdict : Verdict) → state ≡ Judged verdict → Ends state Q → Q verdict
  judged_ends Q verdict is h = subst (λ s. Ends s Q) is h

  -- the error is want of memory
  pub stopped_stands : (P : Option Failure → Type 0) (error : Error) → state ≡ Stopped error → StandsBy state P → error ≡ Memory
  stopped_stands P error is h = subst (λ s. StandsBy s P) is h

  pub stopped_ends : (Q : Verdict → Type 0) (error : Error) → state ≡ Stopped error → Ends state Q → error ≡ Memory
  stopped_ends Q error is h = subst (λ s. Ends s Q) is h

  pub not_open_ends : (Q : Verdict → Type 0) → state ≡ Open → Ends state Q → ⊥
  not_open_ends Q is h = subst (λ s. Ends s Q) is h

-- where it stands open what holds of no failure holds
pub open_is_none : (P : Option Failure → Type 0) (state : CheckState) → is_open state ≡ true → StandsBy state P → P None
open_is_none P Open is h = h
open_is_none P (Judged verdict) is h = absurd cc
open_is_none P (Stopped error) is h = absurd cc
