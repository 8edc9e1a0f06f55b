-- What the command `compare` leaves of two jobs, with a picture of what differs.
use Rattle.std.specs.Prelude.{◌≡◌, ◌⊎◌, ◌&&◌, ℕ, Bool, true, false, List, IsFalse, IsTrue, Option, None, Some, ⊤}
use Rattle.device_profile.specs.Printer.{Printer}
use Rattle.requests.specs.declared.status.Status.{Status}
use Rattle.requests.specs.declared.status.Status.TheVariants.{Stopped}
use Rattle.requests.specs.Status.{is_complete}
use Rattle.sinks.specs.Counts.{no_counts}
use Rattle.streams.specs.Ended.{JobRead}
use Rattle.streams.specs.Outlet.{OutletState, Adds, AddsFront}
use Rattle.streams.specs.Source.{SourceState}
use Rattle.streams.specs.declared.error.Error.TheVariants.{Memory, Write}
use Rattle.compare_command.specs.Compare.{AreCompared, AreOfTexts, Asked, LeavesStop, RefusesPrinter, WritesFound}
use Rattle.compare_command.specs.Compare.{telling_of}
use Rattle.compare_command.specs.Outcomes.{near_by, same_counts, status_by}
use Rattle.compare_command.specs.Pictures.{drawn_manner, picture_by}
use Rattle.compare_command.specs.Telling.{found_text}
use Rattle.compare_command.specs.declared.drawing.Drawn.{Drawn}
use Rattle.compare_command.specs.declared.found.Found.{Found}

-- ---- OUT

-- it has all of the picture
abbrev pub DrawsWhole : List ℕ → OutletState → OutletState → Type 0
DrawsWhole text out out' = IsFalse out'.failed × Adds out out' text

-- it has not: a write to it failed, or it could not be created, or there was no memory for that
abbrev pub DrawsText : List ℕ → Status → OutletState → OutletState → Type 0
DrawsText text (Stopped Write) out out' =
    IsTrue out'.failed × (AddsFront out out' text ⊎ (out' ≡ record out { failed = true }))
DrawsText text (Stopped Memory) out out' = out' ≡ out
DrawsText text _ out out' = ⊥

-- why it is not created
abbrev pub IsEndOfCreating : Status → Type 0
IsEndOfCreating (Stopped Write) = ⊤
IsEndOfCreating (Stopped Memory) = ⊤
IsEndOfCreating _ = ⊥

-- ---- what is drawn

-- the picture of what was found on these printers of these names
abbrev pub picture_found : Asked → List Printer → List (List ℕ) → Found → Option (List ℕ)
picture_found asked fleet names found =
    picture_by (telling_of asked names) (near_by asked.nearness) fleet found.number found.outcome

-- what was found page by page is told in the words that it has without a picture
abbrev pub TellsFound : Asked → List (List ℕ) → Found → Status → OutletState → OutletState → Type 0
TellsFound asked names found status out out' =
    WritesFound (found_text (telling_of asked names) found.number found.outcome)
    (status_by (same_counts found.outcome)) status out out'

-- where no page differs OUT is as it was; else the picture is drawn first, and where it could not be nothing is told
abbrev pub DrawsPicture : Option (List ℕ) → Asked → List (List ℕ) → Found → Drawn →
    (file file' out out' : OutletState) → Type 0
DrawsPicture None asked names found drawn file file' out out' =
    (drawn.is_drawn ≡ false) × (file' ≡ file) × TellsFound asked names found drawn.status out out'
DrawsPicture (Some text) asked names found drawn file file' out out' =
    ((drawn.is_drawn ≡ true) × DrawsWhole text file file' × TellsFound asked names found drawn.status out out')
    ⊎ ((drawn.is_drawn ≡ false) × DrawsText text drawn.status file file' × (out' ≡ out))

-- so of what was found, unless there was no memory for the picture
abbrev pub DrawsFound : Asked → List Printer → List (List ℕ) → Found → Drawn → (file file' out out' : OutletState) →
    Type 0
DrawsFound asked fleet names found drawn file file' out out' =
    DrawsPicture (picture_found asked fleet names found) asked names found drawn file file' out out'
    ⊎ ((drawn ≡ record { status = Stopped Memory; is_drawn = false }) × (file' ≡ file) × (out' ≡ out))

-- OUT has all of the picture, and the command came to its end
abbrev pub is_whole : Drawn → Bool
is_whole drawn = drawn.is_drawn && is_complete drawn.status

-- ---- what is left

-- compared page by page, as it is asked for, on all of these printers
abbrev pub FindsDrawn : Asked → List Printer → (List ℕ → SourceState) → Found → List JobRead → List JobRead → Type 0
FindsDrawn asked fleet start found ended ended' =
    AreCompared (drawn_manner asked.nearness asked.extent) start asked.old_name asked.new_name 1 fleet no_counts found
    ended ended'

-- for these printers: what is found is drawn and told, or one of the jobs cannot be compared, and nothing is
abbrev pub LeavesDrawnFor : Asked → List Printer → List (List ℕ) → (List ℕ → SourceState) → Drawn → List JobRead →
    List JobRead → (file file' out out' err err' : OutletState) → Type 0
LeavesDrawnFor asked fleet names start drawn ended ended' file file' out out' err err' =
    ((found : Found) × FindsDrawn asked fleet start found ended ended'
    × DrawsFound asked fleet names found drawn file file' out out'
    × (err' ≡ err))
    ⊎ (LeavesStop (drawn_manner asked.nearness asked.extent) asked drawn.status ended ended' err err'
    × (drawn.is_drawn ≡ false) × (file' ≡ file) × (out' ≡ out))

-- The jobs are compared on the printers of these texts; or there are no printers, no job is read and nothing is
-- written.
abbrev pub LeavesDrawn : (known : List (Option (List ℕ))) → (given given' : List (List ℕ)) → Asked →
    (List ℕ → SourceState) → Drawn → List JobRead → List JobRead → (file file' out out' err err' : OutletState) → Type 0
LeavesDrawn known given given' asked start drawn ended ended' file file' out out' err err' =
    ((fleet : List Printer) × (names : List (List ℕ)) × AreOfTexts known given given' fleet names
    × LeavesDrawnFor asked fleet names start drawn ended ended' file file' out out' err err')
    ⊎ (RefusesPrinter known given given' asked.form asked.printers drawn.status err err'
    × (drawn.is_drawn ≡ false) × (file' ≡ file) × (out' ≡ out) × (ended' ≡ ended))
