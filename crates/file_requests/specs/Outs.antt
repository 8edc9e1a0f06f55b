-- How OUT ends, behind the command that wrote it.
use Rattle.std.specs.Prelude.{◌≡◌, ◌⊎◌, ℕ, List, true, false, IsFalse, IsTrue}
use Rattle.pdf_command.specs.declared.command.PdfEnd.{PdfEnd}
use Rattle.pdf_command.specs.Pdf.{has_document}
use Rattle.streams.specs.declared.error.Error.TheVariants.{Write}
use Rattle.streams.specs.Files.{FileOutletState}
use Rattle.streams.specs.Outlet.{OutletState}
use Rattle.streams.specs.Used.{FileUse, written_at}
use Rattle.requests.specs.Status.{is_complete}
use Rattle.requests.specs.declared.status.Status.{Status}
use Rattle.requests.specs.declared.status.Status.TheVariants.{Stopped}

-- The program ends as the command did, and what that wrote was put in OUT's place just where it came to its end;
-- or that could not be done, which is a write that failed, and it was not.
abbrev pub EndsOut : (answer status : Status) → OutletState → FileOutletState → Type 0
EndsOut answer status file file' =
    ((status ≡ answer) × (file'.outlet ≡ file) × (file'.is_put ≡ is_complete answer))
    ⊎ ((status ≡ Stopped Write) × IsTrue (is_complete answer) × (file'.outlet ≡ record file { failed = true })
    × IsFalse file'.is_put)

-- so as the history of files has it, of the file at a path
abbrev pub PutsOut : (into : List ℕ) (answer status : Status) → OutletState → FileUse → Type 0
PutsOut into answer status file one =
    ((status ≡ answer) × (one ≡ written_at into file (is_complete answer)))
    ⊎ ((status ≡ Stopped Write) × IsTrue (is_complete answer)
    × (one ≡ written_at into (record file { failed = true }) false))

-- so behind `pdf`: what it wrote was put there just where that is a document
abbrev pub EndsDocument : PdfEnd → Status → OutletState → FileOutletState → Type 0
EndsDocument end status file file' =
    ((status ≡ end.status) × (file'.outlet ≡ file) × (file'.is_put ≡ has_document end))
    ⊎ ((status ≡ Stopped Write) × IsTrue (has_document end) × (file'.outlet ≡ record file { failed = true })
    × IsFalse file'.is_put)

abbrev pub PutsDocument : (into : List ℕ) → PdfEnd → Status → OutletState → FileUse → Type 0
PutsDocument into end status file one =
    ((status ≡ end.status) × (one ≡ written_at into file (has_document end)))
    ⊎ ((status ≡ Stopped Write) × IsTrue (has_document end)
    × (one ≡ written_at into (record file { failed = true }) false))
