-- What the documents of jobs that are checked leave, each a file in a folder.
use Rattle.std.specs.Prelude.{◌≡◌, ◌⊎◌, ◌&&◌, ◌||◌, ◌∷◌, ◌++◌, ℕ, Bool, true, false, not, List, []}
use Rattle.std.specs.Prelude.{Contains, Option, None, Some, codes, get_or, if◌then◌else◌, nat_eq, IsFalse}
use Rattle.std.specs.List.{ends_with, list_any}
use Rattle.std.specs.Str.{IsUtf8, bytes_eq}
use Rattle.file_requests.specs.JobRequests.{LeavesPdfAt}
use Rattle.job_reports.specs.JobSentences.{named_first}
use Rattle.job_rows.specs.Links.{document_path, last_part}
use Rattle.many_jobs.specs.CheckMany.{Asked}
use Rattle.many_jobs.specs.JobRow.{document_in, is_read_once}
use Rattle.many_requests.specs.Looks.{Finds}
use Rattle.requests.specs.declared.selection.DrawnPages.TheVariants.{All}
use Rattle.requests.specs.declared.selection.Selection.{Selection}
use Rattle.requests.specs.declared.status.Status.{Status}
use Rattle.requests.specs.declared.status.Status.TheVariants.{Pass, Fail, Overwrites, Stopped, Told, Usage}
use Rattle.requests.specs.declared.status.Trouble.TheVariants.{NoVerdict}
use Rattle.requests.specs.Status.{error_words}
use Rattle.streams.specs.declared.error.Error.{Error}
use Rattle.streams.specs.declared.error.Error.TheVariants.{Memory, Read, Write, Turns, NoProfile, Items}
use Rattle.streams.specs.Outlet.{OutletState}
use Rattle.streams.specs.Used.{FileUse}
use Rattle.streams.specs.Writing.{Writes}

-- ---- names

-- a job has this name
abbrev pub has_same_part : (part job : List ℕ) → Bool
has_same_part part job = bytes_eq (last_part job) part

-- one of these has it
abbrev pub is_named_in : (jobs : List (List ℕ)) → (part : List ℕ) → Bool
is_named_in jobs part = list_any (has_same_part part) jobs

-- it may be the document of another
abbrev pub ends_in_pdf : (job : List ℕ) → Bool
ends_in_pdf job = ends_with nat_eq job (codes ".pdf")

-- a document would take its place, or that of its document, where these stand behind it
abbrev pub is_taken : (job : List ℕ) → (jobs : List (List ℕ)) → Bool
is_taken job jobs = ends_in_pdf job || is_named_in jobs (last_part job)

-- the first such job
abbrev pub same_named : List (List ℕ) → Option (List ℕ)
same_named [] = None
same_named (job ∷ jobs) = if is_taken job jobs then Some job else same_named jobs

-- another one has its name, at another path
abbrev pub is_namesake : (job other : List ℕ) → Bool
is_namesake job other = has_same_part (last_part job) other && not (bytes_eq other job)

-- the first of these
abbrev pub namesake : (job : List ℕ) → List (List ℕ) → Option (List ℕ)
namesake job [] = None
namesake job (other ∷ others) = if is_namesake job other then Some other else namesake job others

-- it is named, too
abbrev pub other_part : Option (List ℕ) → List ℕ
other_part None = []
other_part (Some other) = codes "beside " ++ named_first other

abbrev pub same_line : (job : List ℕ) → (other : Option (List ℕ)) → List ℕ
same_line job other =
    codes "error: " ++ named_first job ++ other_part other
    ++ codes "with --pdf no two jobs have one name, and none ends in .pdf: each gets a file NAME.pdf\n"

-- so it is refused, as standard error tells
abbrev pub RefusesName : (jobs : List (List ℕ)) → Status → OutletState → OutletState → Type 0
RefusesName jobs Usage err err' =
    (job : List ℕ) × (same_named jobs ≡ Some job) × Writes err err' (same_line job (namesake job jobs))
RefusesName jobs (Stopped Memory) err err' = err' ≡ err
RefusesName jobs _ err err' = ⊥

-- ---- what is asked for

-- the folder, the check with its limit of items, the paths of the fleets and of the list of jobs, and whether the check
-- told that a job has no verdict
pub record DocumentsAsked : Type 0 where
  pub folder : List ℕ
  pub asked : Asked
  pub fleets : List (List ℕ)
  pub names_from : Option (List ℕ)
  pub has_errors : Bool

-- the check reads a file under this word: a job, the list of jobs, a fleet's text, or a profile
abbrev pub IsReadForJobs : DocumentsAsked → (name : List ℕ) → Type 0
IsReadForJobs d name = (d.names_from ≡ Some name) ⊎ Contains d.asked.jobs name

abbrev pub IsReadBeside : DocumentsAsked → (name : List ℕ) → Type 0
IsReadBeside d name = Contains d.fleets name ⊎ IsReadForJobs d name

abbrev pub IsReadBy : DocumentsAsked → (name : List ℕ) → Type 0
IsReadBy d name = Contains d.asked.printers name ⊎ IsReadBeside d name

-- ---- what is told of a document

-- it was written, or none is due: the job has no page, or was given up at the limit of items
abbrev pub is_written : Status → Bool
is_written Pass = true
is_written Fail = true
is_written _ = false

-- why it could not be written, where the command ended so
abbrev pub cause_of : Status → List ℕ
cause_of (Stopped error) = error_words error
cause_of (Overwrites input) = error_words Write
cause_of _ = error_words Read

unfoldable pub lost_line : (job cause : List ℕ) → List ℕ
lost_line job cause = named_first job ++ codes "its document could not be written (" ++ cause ++ codes ")\n"

-- the check told why, where it told that a job has no verdict: the job could not be read
abbrev pub is_told : (has_errors : Bool) → Status → Bool
is_told has_errors (Stopped Read) = has_errors
is_told has_errors (Stopped Turns) = has_errors
is_told has_errors _ = false

abbrev pub is_quiet : (has_errors : Bool) → Status → Bool
is_quiet has_errors status = is_written status || is_told has_errors status

-- what is told stands behind what was noted of it
abbrev pub document_text : (has_errors : Bool) → (job : List ℕ) → Status → (note : List ℕ) → List ℕ
document_text has_errors job status note =
    if is_quiet has_errors status then [] else note ++ lost_line job (cause_of status)

-- it is written, unless there is no memory for it, or a write has failed before
abbrev pub WritesIfSound : (text : List ℕ) → OutletState → OutletState → Type 0
WritesIfSound text err err' = (err' ≡ err) ⊎ (IsFalse err.failed × Writes err err' text)

-- ---- a document

-- all pages of a job
abbrev pub all_pages : Selection
all_pages = record { pages = All; has_boxes = false }

-- the document of the job at a path was written to another, for the printer that a word names, from its first panel and
-- with the limit of the check: the line of a failure is kept, and standard error has what is to be told
pub record WritesPdf (d : DocumentsAsked) (word job path : List ℕ) (well : Bool) (used used' : List FileUse)
    (err err' : OutletState) : Type 0 where
  pub status : Status
  pub line : OutletState
  pub line' : OutletState
  pub note : OutletState
  pub note' : OutletState
  pub no_line : line.taken ≡ []
  pub no_note : note.taken ≡ []
  pub left : LeavesPdfAt job path word d.asked.most_items [] all_pages false status used used' line line' note note'
  pub well_is : well ≡ is_written status
  pub told : WritesIfSound (document_text d.has_errors job status note'.taken) err err'

-- why it could not be, and what the history of files has of that: there is no memory, or the job's name or its path is
-- no text, and nothing; or a file that is read stands there, as a look found
abbrev pub IsCauseOfLoss : Error → DocumentsAsked → (job path : List ℕ) → List FileUse → List FileUse → Type 0
IsCauseOfLoss Memory d job path used used' = used' ≡ used
IsCauseOfLoss Read d job path used used' = (IsUtf8 job → IsUtf8 path → ⊥) × (used' ≡ used)
IsCauseOfLoss Write d job path used used' = (name : List ℕ) × IsReadBy d name × Finds path (Some name) used used'
IsCauseOfLoss Turns d job path used used' = ⊥
IsCauseOfLoss NoProfile d job path used used' = ⊥
IsCauseOfLoss Items d job path used used' = ⊥

-- and what is told of it: of a name that is no text the check told that the job cannot be read
abbrev pub TellsLoss : Error → (job : List ℕ) → OutletState → OutletState → Type 0
TellsLoss Read job err err' = err' ≡ err
TellsLoss error job err err' = WritesIfSound (lost_line job (error_words error)) err err'

-- for such a cause
pub record LosesDocument (d : DocumentsAsked) (job path : List ℕ) (well : Bool) (used used' : List FileUse)
    (err err' : OutletState) : Type 0 where
  pub error : Error
  pub cause : IsCauseOfLoss error d job path used used'
  pub well_is : well ≡ false
  pub told : TellsLoss error job err err'

-- the first of the printers that are asked for
abbrev pub first_word : Asked → List ℕ
first_word asked = get_or asked.printers 0 []

-- none is written of a job that can be read only once
abbrev pub WritesDocumentBy : (once : Bool) → DocumentsAsked → (job : List ℕ) → (well : Bool) → List FileUse →
    List FileUse → OutletState → OutletState → Type 0
WritesDocumentBy true d job well used used' err err' = (well ≡ true) × (used' ≡ used) × (err' ≡ err)
WritesDocumentBy false d job well used used' err err' =
    WritesPdf d (first_word d.asked) job (document_path (document_in d.folder job)) well used used' err err'
    ⊎ LosesDocument d job (document_path (document_in d.folder job)) well used used' err err'

abbrev pub WritesDocument : DocumentsAsked → (job : List ℕ) → (well : Bool) → List FileUse → List FileUse →
    OutletState → OutletState → Type 0
WritesDocument d job well used used' err err' =
    WritesDocumentBy (is_read_once d.asked.telling job) d job well used used' err err'

-- ---- all of them

-- one after another; and whether each was written
abbrev pub WritesDocuments : DocumentsAsked → (jobs : List (List ℕ)) → (well : Bool) → List FileUse →
    List FileUse → OutletState → OutletState → Type 0
WritesDocuments d [] well used used' err err' = (well ≡ true) × (used' ≡ used) × (err' ≡ err)
WritesDocuments d (job ∷ jobs) well used used' err err' =
    (one : Bool) × (others : Bool) × (between : List FileUse) × (told : OutletState)
    × WritesDocument d job one used between err told
    × WritesDocuments d jobs others between used' told err' × (well ≡ (one && others))

-- a check that ended so told of each job
abbrev pub has_lines : Status → Bool
has_lines Pass = true
has_lines Fail = true
has_lines (Told NoVerdict) = true
has_lines _ = false

-- and told that a job has no verdict
abbrev pub has_errors : Status → Bool
has_errors (Told NoVerdict) = true
has_errors _ = false

-- how the program ends then
abbrev pub end_with : (well : Bool) → (answer : Status) → Status
end_with well answer = if well then answer else Told NoVerdict

-- they are written behind such a check
abbrev pub WritesBehind : (has_lines : Bool) → DocumentsAsked → (answer status : Status) → List FileUse →
    List FileUse → OutletState → OutletState → Type 0
WritesBehind false d answer status used used' err err' = (status ≡ answer) × (used' ≡ used) × (err' ≡ err)
WritesBehind true d answer status used used' err err' =
    (well : Bool) × WritesDocuments d d.asked.jobs well used used' err err' × (status ≡ end_with well answer)
