-- How far a check has come.
use Rattle.std.specs.Prelude.{◌≡◌, ℕ, Bool, true, false, Option, None, Some, Result, Ok, Err}
use Rattle.page_machine.specs.declared.stop.Stop.{Stop}
use Rattle.page_machine.specs.declared.stop.Stop.TheVariants as stops
use Rattle.streams.specs.declared.error.Error.TheVariants.{Memory}
use Rattle.preflight.specs.declared.check_state.CheckState.{CheckState}
use Rattle.preflight.specs.declared.check_state.CheckState.TheVariants.{Open, Judged, Stopped}
use Rattle.verdict.specs.Failing.{failing, found_at}
use Rattle.verdict.specs.declared.failure.Failure.{Failure}
use Rattle.verdict.specs.declared.verdict.Verdict.{Verdict}

-- nothing is wrong so far
abbrev pub is_open : CheckState → Bool
is_open Open = true
is_open (Judged verdict) = false
is_open (Stopped error) = false

-- It stands open, and this holds with no failure;
-- or the verdict is that of a failure with which it holds; or memory was refused.
abbrev pub StandsBy : CheckState → (Option Failure → Type 0) → Type 0
StandsBy Open P = P None
StandsBy (Judged verdict) P = (failure : Failure) × (verdict ≡ failing failure) × P (Some failure)
StandsBy (Stopped error) P = error ≡ Memory

-- there is a verdict, of which this holds, or memory was refused
abbrev pub Ends : CheckState → (Verdict → Type 0) → Type 0
Ends Open P = ⊥
Ends (Judged verdict) P = P verdict
Ends (Stopped error) P = error ≡ Memory

-- how a check that was open stands, now that the machine of this number has answered for what stands at this place
abbrev pub StandsAfter : {F : Type 0} → ℕ → ℕ → Result Unit (Stop F) → CheckState → Type 0
StandsAfter place number (Ok done) state = state ≡ Open
StandsAfter place number (Err (stops.Found finding)) state =
    state ≡ Judged (failing (found_at place number finding))
StandsAfter place number (Err (stops.Refused fault)) state = state ≡ Stopped Memory
StandsAfter place number (Err (stops.Memory error)) state = state ≡ Stopped Memory
StandsAfter place number (Err stops.Stopped) state = ⊥
