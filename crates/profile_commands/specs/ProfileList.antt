-- What the command `profile list` leaves.
use Rattle.std.specs.Prelude.{◌≡◌, ◌⊎◌}
use Rattle.streams.specs.declared.error.Error.TheVariants.{Memory}
use Rattle.printer_models.specs.Listing.{models_text}
use Rattle.streams.specs.Outlet.{OutletState}
use Rattle.requests.specs.declared.status.Status.{Status}
use Rattle.requests.specs.declared.status.Status.TheVariants.{Stopped}
use Rattle.profile_commands.specs.WholeText.{WritesWhole}

-- the lines of all models are written, or there was no memory for them
abbrev pub LeavesModels : Status → OutletState → OutletState → Type 0
LeavesModels status out out' = WritesWhole models_text status out out' ⊎ ((status ≡ Stopped Memory) × (out' ≡ out))
