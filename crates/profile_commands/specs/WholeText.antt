-- How a text is written that was put together before.
use Rattle.std.specs.Prelude.{◌≡◌, ◌⊎◌, ℕ, List, IsFalse, IsTrue}
use Rattle.streams.specs.declared.error.Error.TheVariants.{Memory, Write}
use Rattle.streams.specs.Outlet.{OutletState, Adds, AddsFront}
use Rattle.requests.specs.declared.status.Status.{Status}
use Rattle.requests.specs.declared.status.Status.TheVariants.{Help, Stopped}

-- all of it stands there, or a write failed and a front of it does
abbrev pub WritesWhole : List ℕ → Status → OutletState → OutletState → Type 0
WritesWhole text Help out out' = IsFalse out'.failed × Adds out out' text
WritesWhole text (Stopped Write) out out' = IsTrue out'.failed × AddsFront out out' text
WritesWhole text _ out out' = ⊥

-- the text is written, or there was no memory to make it
abbrev pub WritesOrStops : List ℕ → Status → OutletState → OutletState → Type 0
WritesOrStops text status out out' = WritesWhole text status out out' ⊎ ((status ≡ Stopped Memory) × (out' ≡ out))
