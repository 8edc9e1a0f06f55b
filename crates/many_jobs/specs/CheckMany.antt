-- How a check of many jobs ends.
use Rattle.std.specs.Prelude.{◌≡◌, ◌-◌, ◌⊎◌, ℕ, Bool, IsFalse, List, [], map, flat_map, get_or, Option, Some}
use Rattle.std.specs.Prelude.{if◌then◌else◌}
use Rattle.device_profile.specs.Name.{printer_name}
use Rattle.device_profile.specs.Printer.{Printer}
use Rattle.streams.specs.declared.error.Error.{Error}
use Rattle.streams.specs.declared.error.Error.TheVariants.{Read}
use Rattle.notes.specs.Notes.{with_most_items}
use Rattle.streams.specs.Outlet.{OutletState}
use Rattle.streams.specs.Source.{SourceState}
use Rattle.many_jobs.specs.declared.ending.Ending.{Ending}
use Rattle.many_jobs.specs.declared.ending.Ending.TheVariants.{Passes, Fails, HasNoVerdict}
use Rattle.requests.specs.declared.status.Status.{Status}
use Rattle.requests.specs.declared.status.Status.TheVariants.{Pass, Fail, Profile, Stopped, Told}
use Rattle.requests.specs.declared.status.Trouble.TheVariants.{Refused, NoVerdict}
use Rattle.requests.specs.Status.{is_stop_of_read}
use Rattle.named_inputs.specs.Fleet.{DescribeBy, DescribeFleet, IsEndOfFleet, RefusesBy}
use Rattle.job_reports.specs.Groups.{Groups}
use Rattle.many_jobs.specs.Document.{TellsDocument, TellsDocumentFront}
use Rattle.many_jobs.specs.JobChecks.{IsErrorOfLine, Work, due_of}
use Rattle.many_jobs.specs.Telling.{HowTold}
use Rattle.job_reports.specs.Refusals.{TellsLine, refused_profile, refused_profile_sentence, unread_profile}
use Rattle.job_reports.specs.Refusals.{unread_profile_sentence}
use Rattle.many_jobs.specs.declared.telling.Format.{Format}
use Rattle.many_jobs.specs.declared.telling.Format.TheVariants.{Line, Words, Json, Html}
use Rattle.device_profile.specs.declared.fault.Cause.{Cause}

-- how the program ends by how the jobs count
abbrev pub status_of : Ending → Status
status_of Passes = Pass
status_of Fails = Fail
status_of HasNoVerdict = Told NoVerdict

-- the same printer, whose macros may carry out so many items of a job
abbrev pub limited : Option ℕ → Printer → Printer
limited most printer = record printer { most_items = most }

-- these are the printers of texts, with this limit: of those that are known, of those that were read between given
-- and given', and of texts which also give their names; where notes are told they are told for the same printers,
-- whose macros may carry out a million items
pub record AreOfTexts (known : List (Option (List ℕ))) (given given' : List (List ℕ)) (most : Option ℕ)
    (tells_notes : Bool) (groups : Groups) : Type 0 where
  pub fleet : List Printer
  pub described : DescribeFleet known fleet
  pub are_given : DescribeBy given given' fleet
  pub texts : List (List ℕ)
  pub read : DescribeFleet (map (λ text. Some text) texts) fleet
  pub fleet_is : groups.fleet ≡ map (limited most) fleet
  pub note_printers : groups.note_printers ≡ (if tells_notes then map with_most_items fleet else [])
  pub names_are : groups.names ≡ map printer_name texts

-- what is asked for: the names of the jobs, the words of the printers, how many items macros may carry out
-- where that is limited, whether each printer is told of by itself, whether the notes of a job that passes
-- are told, and how it is told
pub record Asked : Type 0 where
  pub jobs : List (List ℕ)
  pub printers : List (List ℕ)
  pub most_items : Option ℕ
  pub is_each : Bool
  pub tells_notes : Bool
  pub telling : HowTold

-- all lines stand there, with what a document has round them, or the work stopped behind a front of that
abbrev pub LeavesLines : Asked → Groups → (List ℕ → SourceState) → Status → Work → Work → Type 0
LeavesLines asked groups start status old new =
    let due = flat_map (due_of groups) asked.jobs in
    ((ending : Ending) × (status ≡ status_of ending) × TellsDocument groups asked.telling due start ending old new)
    ⊎ ((error : Error) × (status ≡ Stopped error) × IsErrorOfLine error
    × TellsDocumentFront groups asked.telling start due old new)

-- what is told of a profile that is refused, or that could not be read
abbrev pub refusal_text : Format → ℕ → List ℕ → ℕ → Cause → List ℕ
refusal_text Line number word line cause = refused_profile number word line cause
refusal_text Words number word line cause = refused_profile_sentence number word line cause
refusal_text (Json alloc) number word line cause = refused_profile number word line cause
refusal_text Html number word line cause = refused_profile number word line cause

abbrev pub unread_text : Format → List ℕ → Option (List ℕ) → List ℕ
unread_text Line word cause = unread_profile word cause
unread_text Words word cause = unread_profile_sentence word cause
unread_text (Json alloc) word cause = unread_profile word cause
unread_text Html word cause = unread_profile word cause

-- of a profile that could not be read standard error is told, with its word; of want of memory it is not
abbrev pub TellsStop : Format → Error → Status → OutletState → OutletState → Type 0
TellsStop format Read status err err' =
    (word : List ℕ) × (cause : Option (List ℕ)) × TellsLine status NoVerdict (unread_text format word cause) err err'
TellsStop format error status err err' = (status ≡ Stopped error) × (err' ≡ err)

-- of the profile for which there is no fleet standard error is told, with its word
abbrev pub TellsRefusal : Format → Status → List (List ℕ) → Status → OutletState → OutletState → Type 0
TellsRefusal format (Profile number line cause) words status err err' =
    TellsLine status Refused (refusal_text format number (get_or words (number - 1) []) line cause) err err'
TellsRefusal format (Stopped error) words status err err' = TellsStop format error status err err'
TellsRefusal format end words status err err' = (status ≡ end) × (err' ≡ err)

-- The jobs are checked for the printers of these texts, all of which could be read between given and given'.
-- Or there is no fleet, and no line is written and no job read; that a text could not be read is why just where a read
-- of one failed.
abbrev pub LeavesMany : (known : List (Option (List ℕ))) → (given given' : List (List ℕ)) → (read_failed : Bool) →
    Asked → (List ℕ → SourceState) → Status → Work → Work → OutletState → OutletState → Type 0
LeavesMany known given given' read_failed asked start status old new err err' =
    ((groups : Groups) × AreOfTexts known given given' asked.most_items asked.tells_notes groups
    × (groups.is_each ≡ asked.is_each) × IsFalse read_failed
    × LeavesLines asked groups start status old new × (err' ≡ err))
    ⊎ ((end : Status) × IsEndOfFleet known end × RefusesBy given given' end × (read_failed ≡ is_stop_of_read end)
    × TellsRefusal asked.telling.format end asked.printers status err err' × (new ≡ old))
