-- What the command `profile show` leaves.
use Rattle.std.specs.Prelude.{◌≡◌, ◌⊎◌, ℕ, List, Bool, Option}
use Rattle.device_profile.specs.Name.{printer_name}
use Rattle.device_profile.specs.Printer.{Printer}
use Rattle.profile_commands.specs.ProfileReading.{IsRead, IsTextOf, TellsWhyNone}
use Rattle.profile_commands.specs.WholeText.{WritesOrStops}
use Rattle.profile_show.specs.Shown.{shown_profile}
use Rattle.streams.specs.Outlet.{OutletState}
use Rattle.requests.specs.declared.status.Status.{Status}

-- the printer of the text that was read is shown, or there is none, and standard error is told why
abbrev pub LeavesShown : Option (List ℕ) → List ℕ → List (List ℕ) → List (List ℕ) → Bool → Status → OutletState →
    OutletState → OutletState → OutletState → Type 0
LeavesShown known word old new failed status out out' err err' =
    ((text : List ℕ) × (printer : Printer) × IsRead known old new text × IsTextOf text printer
    × WritesOrStops (shown_profile (printer_name text) printer) status out out' × (err' ≡ err))
    ⊎ (TellsWhyNone known word old new failed status err err' × (out' ≡ out))
