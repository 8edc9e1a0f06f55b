-- What the reader answers for a line, for lines and for a whole text.
use Rattle.std.specs.Prelude.{◌≡◌, ℕ, List, Result, Ok, Err, MatchResult}
use Rattle.device_profile.specs.declared.fault.Cause.{Cause}
use Rattle.device_profile.specs.declared.fault.LineFault.{LineFault}
use Rattle.device_profile.specs.declared.fault.ProfileFault.{ProfileFault}
use Rattle.device_profile.specs.declared.fault.ProfileFault.TheVariants.{Fault, Memory}
use Rattle.device_profile.specs.LineFault.{IsCauseOf}
use Rattle.device_profile.specs.Draft.{Draft}
use Rattle.device_profile.specs.Text.{draft_of}

-- the draft is what the line gives, or it is as it was before and the answer is why the line is wrong
abbrev pub Gives : Result Draft Cause → Draft → Result (Unit {0}) LineFault → Draft → Type 0
Gives given old result new =
    MatchResult result (λ _. given ≡ Ok new) (λ fault. IsCauseOf given fault × (new ≡ old))

-- the fault that is given, or that memory was wanted
abbrev pub IsFaultOf : {X : Type 0} → Result X ProfileFault → ProfileFault → Type 0
IsFaultOf given (Fault line cause) = given ≡ Err (Fault line cause)
IsFaultOf given Memory = Unit {0}

-- some lines give this draft
abbrev pub IsGiven : Draft → Type 0
IsGiven draft = (lines : List (List ℕ)) × (draft_of lines ≡ Ok draft)
