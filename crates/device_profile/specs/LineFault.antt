-- Why a line is wrong.
use Rattle.std.specs.Prelude.{◌≡◌, ℕ, Result, Err}
use Rattle.device_profile.specs.declared.fault.Cause.{Cause}
use Rattle.device_profile.specs.declared.fault.LineFault.{LineFault}
use Rattle.device_profile.specs.declared.fault.LineFault.TheVariants.{Wrong, Memory}
use Rattle.device_profile.specs.declared.fault.ProfileFault.{ProfileFault}
use Rattle.device_profile.specs.declared.fault.ProfileFault.TheVariants.{Fault, Memory as MemoryOfText}

-- the cause that is given, or that memory was wanted
abbrev pub IsCauseOf : {X : Type 0} → Result X Cause → LineFault → Type 0
IsCauseOf given (Wrong cause) = given ≡ Err cause
IsCauseOf given Memory = Unit {0}

-- the fault of a text, of which the line of this number is faulty
abbrev pub at_line : ℕ → LineFault → ProfileFault
at_line number (Wrong cause) = Fault number cause
at_line number Memory = MemoryOfText
