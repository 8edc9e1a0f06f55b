-- What the command `compare` leaves of two jobs.
use Rattle.std.specs.Prelude.{◌≡◌, ◌⊎◌, ◌==◌, ◌+◌, ℕ, Bool, false, true, List, [], ◌∷◌, ◌++◌, codes, map}
use Rattle.std.specs.Prelude.{IsFalse, IsTrue, None, Some, Option, if◌then◌else◌}
use Rattle.device_profile.specs.Name.{printer_name}
use Rattle.device_profile.specs.Printer.{Printer}
use Rattle.streams.specs.declared.error.Error.{Error}
use Rattle.streams.specs.declared.error.Error.TheVariants.{Memory, Read, Write, Turns, NoProfile, Items}
use Rattle.streams.specs.Ended.{JobRead, job_read}
use Rattle.streams.specs.Outlet.{OutletState, Adds, AddsFront}
use Rattle.streams.specs.Pieces.{ByReads}
use Rattle.streams.specs.Source.{SourceState}
use Rattle.requests.specs.declared.compare_words.Extent.{Extent}
use Rattle.requests.specs.declared.compare_words.Extent.TheVariants.{First, All}
use Rattle.requests.specs.declared.compare_words.Nearness.{Nearness}
use Rattle.requests.specs.declared.many_words.Form.{Form}
use Rattle.requests.specs.declared.many_words.Form.TheVariants.{Line, Words, Json, Html}
use Rattle.requests.specs.declared.status.Status.{Status}
use Rattle.requests.specs.declared.status.Status.TheVariants.{Stopped}
use Rattle.named_inputs.specs.Fleet.{DescribeBy, DescribeFleet, IsEndOfFleet, RefusesBy}
use Rattle.job_reports.specs.Refusals.{TellsUnread}
use Rattle.many_jobs.specs.CheckMany.{TellsRefusal}
use Rattle.many_jobs.specs.declared.telling.Format.{Format}
use Rattle.many_jobs.specs.declared.telling.Format.TheVariants as formats
use Rattle.sinks.specs.declared.counts.Counts.{Counts}
use Rattle.sinks.specs.Counts.{no_counts}
use Rattle.comparison.specs.declared.compare.Which.{Which}
use Rattle.comparison.specs.declared.compare.Which.TheVariants.{Old, New}
use Rattle.comparison.specs.declared.difference.Comparison.TheVariants.{Same}
use Rattle.comparison.specs.Comparing.{is_unread_by}
use Rattle.comparison.specs.Running.{IsErrorOfJob}
use Rattle.compare_command.specs.declared.asked.CompareAsked.{CompareAsked}
use Rattle.compare_command.specs.declared.found.Found.{Found}
use Rattle.compare_command.specs.declared.found.Manner.{Manner}
use Rattle.compare_command.specs.declared.found.Manner.TheVariants.{ByEvents, ByPages}
use Rattle.compare_command.specs.declared.found.Outcome.{Outcome}
use Rattle.compare_command.specs.declared.found.Outcome.TheVariants.{OfEvents}
use Rattle.compare_command.specs.Outcomes.{IsOutcome, manner_of, same_counts, status_by}
use Rattle.compare_command.specs.Telling.{HowTold, found_text}

-- ---- what is asked for

-- the names of both jobs, the words of the printers, the form, how near is same, how much of what differs is told, and
-- whether a line ends with the name of the new job
pub record Asked : Type 0 where
  pub old_name : List ℕ
  pub new_name : List ℕ
  pub printers : List (List ℕ)
  pub form : Form
  pub nearness : Nearness
  pub extent : Extent
  pub is_named : Bool

abbrev pub asked_for : CompareAsked → Asked
asked_for asked = record {
  old_name = asked.old_name.now;
  new_name = asked.new_name.now;
  printers = map (λ word. word.now) asked.printers.now;
  form = asked.form;
  nearness = asked.nearness;
  extent = asked.extent;
  is_named = asked.is_named;
}

-- the name of this one of two jobs
abbrev pub name_by : Asked → Which → List ℕ
name_by asked Old = asked.old_name
name_by asked New = asked.new_name

abbrev pub is_all : Extent → Bool
is_all First = false
is_all (All most) = true

abbrev pub telling_of : Asked → List (List ℕ) → HowTold
telling_of asked names = record {
  old_name = asked.old_name;
  new_name = asked.new_name;
  names = names;
  form = asked.form;
  is_named = asked.is_named;
  is_all = is_all asked.extent;
}

-- ---- what is compared

abbrev pub found_at : ℕ → Outcome → Found
found_at number outcome = record { number = number; outcome = outcome }

-- Both jobs were read, and this comes of them on the printer of this number; they are two more of those that were
-- ended.
pub record IsCompared (manner : Manner) (start : List ℕ → SourceState) (old new : List ℕ) (number : ℕ)
    (printer : Printer) (outcome : Outcome) (ended ended' : List JobRead) : Type 0 where
  pub old_read : SourceState
  pub new_read : SourceState
  pub each : ByReads (start old) old_read (λ before. ByReads (start new) new_read (λ after.
      IsOutcome manner number printer before after outcome))
  pub ended_is : ended' ≡ ended ++ (job_read old old_read ∷ job_read new new_read ∷ [])

-- where the jobs are the same it goes on, else it is over
abbrev pub GoesOn : Option Counts → (Counts → Type 0) → Type 0 → Type 0
GoesOn (Some counts) on over = on counts
GoesOn None on over = over

abbrev pub first_counts : ℕ → (before now : Counts) → Counts
first_counts number before now = if number == 1 then now else before

-- On one printer after another, of which the first has this number:
-- what is found is the first outcome by which the jobs are not the same, or the counts of printer 1.
abbrev pub AreCompared : Manner → (List ℕ → SourceState) → (old new : List ℕ) → ℕ → List Printer → Counts → Found →
    List JobRead → List JobRead → Type 0
AreCompared manner start old new number [] counts found ended ended' =
    (found ≡ found_at 1 (OfEvents (Same counts))) × (ended' ≡ ended)
AreCompared manner start old new number (printer ∷ printers) counts found ended ended' =
    (outcome : Outcome) × (between : List JobRead)
    × IsCompared manner start old new number printer outcome ended between
    × GoesOn (same_counts outcome)
    (λ now. AreCompared manner start old new (number + 1) printers (first_counts number counts now) found between
    ended')
    ((found ≡ found_at number outcome) × (ended' ≡ between))

-- as it is asked for, on all of these printers
abbrev pub FindsFor : Asked → List Printer → (List ℕ → SourceState) → Found → List JobRead → List JobRead → Type 0
FindsFor asked fleet start found ended ended' =
    AreCompared (manner_of asked.nearness asked.extent) start asked.old_name asked.new_name 1 fleet no_counts found
    ended ended'

-- ---- what is left

-- how a text is written, where the program then ends so: whole, or a front of it where a write failed; or there was no
-- memory for it
abbrev pub WritesFound : List ℕ → Status → Status → OutletState → OutletState → Type 0
WritesFound text end (Stopped Write) out out' = IsTrue out'.failed × AddsFront out out' text
WritesFound text end (Stopped Memory) out out' = out' ≡ out
WritesFound text end status out out' = (status ≡ end) × IsFalse out'.failed × Adds out out' text

-- the form in which it is told of a printer that is refused
abbrev pub format_of : Form → Format
format_of Line = formats.Line
format_of Words = formats.Words
format_of Json = formats.Line
format_of Html = formats.Line

-- Two jobs were read so far, and for this error this one was not read further: where a read failed, a read of this one
-- and none of the other.
pub record StopsReading (old_read new_read : SourceState) (which : Which) (error : Error) : Type 0 where
  pub is_error : IsErrorOfJob error
  pub of_old : old_read.failed ≡ is_unread_by Old which error
  pub of_new : new_read.failed ≡ is_unread_by New which error

-- so two jobs of these names, which were ended last, behind those of earlier printers
pub record StopsJobs (old new : List ℕ) (which : Which) (error : Error) (ended ended' : List JobRead) : Type 0 where
  pub earlier : List JobRead
  pub old_read : SourceState
  pub new_read : SourceState
  pub reads : StopsReading old_read new_read which error
  pub ended_is : ended' ≡ ended ++ (earlier ++ (job_read old old_read ∷ job_read new new_read ∷ []))

-- standard error is told that a page of the job of this name cannot be held; or memory ran out, and nothing is told
abbrev pub TellsUnheld : List ℕ → Status → OutletState → OutletState → Type 0
TellsUnheld name status err err' =
    TellsUnread (codes "ERROR memory job ") name status err err' ⊎ ((status ≡ Stopped Memory) × (err' ≡ err))

-- there was no memory for the job of this name: event by event no page is held, and nothing is told
abbrev pub LacksMemory : Manner → List ℕ → Status → OutletState → OutletState → Type 0
LacksMemory ByEvents name status err err' = (status ≡ Stopped Memory) × (err' ≡ err)
LacksMemory (ByPages nearness most) name status err err' = TellsUnheld name status err err'

-- why the job of this name was not compared in this manner: standard error is told that it cannot be read, or that a
-- page of it cannot be held, or nothing
abbrev pub StopsAt : Manner → List ℕ → Error → Status → OutletState → OutletState → Type 0
StopsAt manner name Read status err err' = TellsUnread (codes "ERROR read job ") name status err err'
StopsAt manner name Memory status err err' = LacksMemory manner name status err err'
StopsAt manner name Turns status err err' = (status ≡ Stopped Turns) × (err' ≡ err)
StopsAt manner name Write status err err' = ⊥
StopsAt manner name NoProfile status err err' = ⊥
StopsAt manner name Items status err err' = ⊥

-- one of the jobs is not compared in this manner, and of that one it is told
abbrev pub LeavesStop : Manner → Asked → Status → List JobRead → List JobRead → OutletState → OutletState → Type 0
LeavesStop manner asked status ended ended' err err' =
    (which : Which) × (error : Error) × StopsJobs asked.old_name asked.new_name which error ended ended'
    × StopsAt manner (name_by asked which) error status err err'

-- these are the printers of texts, of those that are known and of those that were read between given and given', with
-- the names that these texts give them
pub record AreOfTexts (known : List (Option (List ℕ))) (given given' : List (List ℕ)) (fleet : List Printer)
    (names : List (List ℕ)) : Type 0 where
  pub described : DescribeFleet known fleet
  pub are_given : DescribeBy given given' fleet
  pub texts : List (List ℕ)
  pub read : DescribeFleet (map (λ text. Some text) texts) fleet
  pub names_are : names ≡ map printer_name texts

-- For these printers: what is found is written, or one of the jobs cannot be compared and nothing is.
abbrev pub LeavesFound : Asked → List Printer → List (List ℕ) → (List ℕ → SourceState) → Status → List JobRead →
    List JobRead → OutletState → OutletState → OutletState → OutletState → Type 0
LeavesFound asked fleet names start status ended ended' out out' err err' =
    ((found : Found) × FindsFor asked fleet start found ended ended'
    × WritesFound (found_text (telling_of asked names) found.number found.outcome)
    (status_by (same_counts found.outcome)) status out out'
    × (err' ≡ err))
    ⊎ (LeavesStop (manner_of asked.nearness asked.extent) asked status ended ended' err err' × (out' ≡ out))

-- There are no printers of these words: of one that is refused, or cannot be read, standard error is told; or memory
-- ran out.
abbrev pub RefusesPrinter : (known : List (Option (List ℕ))) → (given given' : List (List ℕ)) → Form →
    List (List ℕ) → Status → OutletState → OutletState → Type 0
RefusesPrinter known given given' form words status err err' =
    ((end : Status) × IsEndOfFleet known end × RefusesBy given given' end
    × TellsRefusal (format_of form) end words status err err')
    ⊎ ((status ≡ Stopped Memory) × (err' ≡ err))

-- The jobs are compared on the printers of these texts; or there are no printers, no job is read and nothing is
-- written.
abbrev pub LeavesCompared : (known : List (Option (List ℕ))) → (given given' : List (List ℕ)) → Asked →
    (List ℕ → SourceState) → Status → List JobRead → List JobRead → OutletState → OutletState → OutletState →
    OutletState → Type 0
LeavesCompared known given given' asked start status ended ended' out out' err err' =
    ((fleet : List Printer) × (names : List (List ℕ)) × AreOfTexts known given given' fleet names
    × LeavesFound asked fleet names start status ended ended' out out' err err')
    ⊎ (RefusesPrinter known given given' asked.form asked.printers status err err' × (out' ≡ out) × (ended' ≡ ended))
