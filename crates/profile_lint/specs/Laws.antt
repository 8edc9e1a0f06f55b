-- A law of the faults of texts.
use Rattle.std.specs.Prelude.{◌≡◌, ℕ, List, [], Some, option_map, slice_get, Result, Ok, Err}
use Rattle.device_profile.specs.declared.fault.ProfileFault.{ProfileFault}
use Rattle.device_profile.specs.Printer.{Printer}
use Rattle.device_profile.specs.Text.{printer_of_text}
use Rattle.profile_lint.specs.declared.fault.TextFault.{TextFault}
use Rattle.profile_lint.specs.Faults.{fault_of}
use Rattle.profile_lint.specs.TextFaults.{faults_of}

-- this fault is the first
abbrev pub BeginsWith : List TextFault → ProfileFault → Type 0
BeginsWith faults fault = option_map fault_of (slice_get faults 0) ≡ Some fault

-- there is no fault where a printer was read, and else the first is the one for which it was not
abbrev pub IsToldBy : Result Printer ProfileFault → List TextFault → Type 0
IsToldBy (Ok printer) faults = faults ≡ []
IsToldBy (Err fault) faults = BeginsWith faults fault

abbrev pub TellsWhyRefused : List ℕ → Type 0
TellsWhyRefused text = IsToldBy (printer_of_text text) (faults_of text)
