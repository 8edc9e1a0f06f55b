-- What a file stands for that is read, and one that is written. What stands in a file is not known.
use Rattle.std.specs.Prelude.{[], ℕ, List, Bool, true, false, Option, None}
use Rattle.streams.specs.declared.file_id.FileId.{FileId}
use Rattle.streams.specs.declared.opened.Opened.{Opened}
use Rattle.streams.specs.declared.opened.Opened.TheVariants.{NotYet, Failed, Done}
use Rattle.streams.specs.Outlet.{OutletState}
use Rattle.streams.specs.Source.{SourceState}

-- as a source, whether it is open, which file that is, and the path at which it is opened
pub record FileSourceState : Type 0 where
  pub source : SourceState
  pub is_open : Bool
  pub file : Option FileId
  pub path : List ℕ

-- as an outlet, whether it was created, whether what was written was put in its place, and the path of that
pub record FileOutletState : Type 0 where
  pub outlet : OutletState
  pub is_created : Bool
  pub is_put : Bool
  pub path : List ℕ

abbrev pub is_open : {F : Type 0} → Opened F → Bool
is_open NotYet = false
is_open (Failed error) = false
is_open (Done file) = true

-- nothing is read of it
abbrev pub no_source : SourceState
no_source = record { given = []; remaining = None; failed = false }

abbrev pub source_of : {F : Type 0} → Opened F → SourceState
source_of NotYet = no_source
source_of (Failed error) = record no_source { failed = true }
source_of (Done file) = record { given = file.given; remaining = None; failed = file.has_failed }

-- nothing is written to it
abbrev pub no_outlet : OutletState
no_outlet = record { taken = []; contents = None; failed = false }

abbrev pub outlet_of : {F : Type 0} → Opened F → OutletState
outlet_of NotYet = no_outlet
outlet_of (Failed error) = record no_outlet { failed = true }
outlet_of (Done file) = record { taken = file.taken; contents = None; failed = file.has_failed }
