-- How the commands on profiles read one.
use Rattle.std.specs.Prelude.{◌≡◌, ◌⊎◌, ℕ, List, [], ◌∷◌, ◌++◌, take, codes, Bool, IsTrue, Option, IfSome, Ok, Err}
use Rattle.device_profile.specs.declared.fault.Cause.{Cause}
use Rattle.device_profile.specs.declared.fault.ProfileFault.TheVariants.{Fault}
use Rattle.device_profile.specs.Printer.{Printer}
use Rattle.device_profile.specs.Text.{printer_of_text}
use Rattle.streams.specs.declared.error.Error.TheVariants.{Memory}
use Rattle.profile_lint.specs.Lint.{faults_text}
use Rattle.streams.specs.Outlet.{OutletState}
use Rattle.job_reports.specs.Refusals.{TellsLine, TellsUnread}
use Rattle.requests.specs.declared.status.Status.{Status}
use Rattle.requests.specs.declared.status.Status.TheVariants.{Stopped}
use Rattle.requests.specs.declared.status.Trouble.TheVariants.{Refused}

-- one more text was read; it is the front of what its word names, where that is known
abbrev pub IsRead : Option (List ℕ) → List (List ℕ) → List (List ℕ) → List ℕ → Type 0
IsRead known old new text = (new ≡ old ++ text ∷ []) × IfSome known (λ bytes. text ≡ take 65_537 bytes)

-- A read has failed, and standard error is told, behind these words, what could not be read;
-- or memory ran out, and nothing is told.
abbrev pub TellsFailedRead : List ℕ → List ℕ → Bool → Status → OutletState → OutletState → Type 0
TellsFailedRead front word failed status err err' =
    (IsTrue failed × TellsUnread front word status err err') ⊎ ((status ≡ Stopped Memory) × (err' ≡ err))

-- no text was read under a word, and standard error is told why
abbrev pub TellsNoText : List ℕ → List (List ℕ) → List (List ℕ) → Bool → Status → OutletState → OutletState → Type 0
TellsNoText word old new failed status err err' =
    (new ≡ old) × TellsFailedRead (codes "ERROR read profile ") word failed status err err'

-- the text is that of a printer
abbrev pub IsTextOf : List ℕ → Printer → Type 0
IsTextOf text printer = printer_of_text text ≡ Ok printer

-- the text has a fault
abbrev pub IsFaulty : List ℕ → Type 0
IsFaulty text = (line : ℕ) × (cause : Cause) × (printer_of_text text ≡ Err (Fault line cause))

-- The text has a fault, and standard error is told each; or memory ran out, and nothing is told.
abbrev pub TellsFaults : List ℕ → List ℕ → Status → OutletState → OutletState → Type 0
TellsFaults text word status err err' =
    (IsFaulty text × TellsLine status Refused (faults_text word text) err err')
    ⊎ ((status ≡ Stopped Memory) × (err' ≡ err))

-- Why there is no profile under a word, and what standard error is told:
-- that no text could be read, or the faults of the one that was.
abbrev pub TellsWhyNone : Option (List ℕ) → List ℕ → List (List ℕ) → List (List ℕ) → Bool → Status → OutletState →
    OutletState → Type 0
TellsWhyNone known word old new failed status err err' =
    TellsNoText word old new failed status err err'
    ⊎ ((text : List ℕ) × IsRead known old new text × TellsFaults text word status err err')
