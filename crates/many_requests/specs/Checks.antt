-- What is left of a check of many jobs. Nothing is known of files beforehand, so this is said for what the history of
-- files tells: the texts of the fleets under their paths, the file of names, the texts of the printers under their
-- words, and each job under its name, as often as it was read. Standard input is the job `-`; where it has the names,
-- it is not in the history.
use Rattle.std.specs.Prelude.{◌≡◌, ◌⊎◌, ◌∷◌, ◌++◌, ℕ, Bool, List, [], flat_map, map, option_map, Contains, IsFalse}
use Rattle.std.specs.Prelude.{IsTrue, None, Option, Some, false, if◌then◌else◌}
use Rattle.std.specs.declared.alloc.Global.{Global}
use Rattle.requests.specs.declared.many_words.Form.{Form}
use Rattle.requests.specs.declared.many_words.Form.TheVariants.{Line as LineForm, Words as WordsForm}
use Rattle.requests.specs.declared.many_words.Form.TheVariants.{Json as JsonForm, Html as HtmlForm}
use Rattle.requests.specs.declared.many_words.ManyWords.{ManyWords}
use Rattle.streams.specs.declared.error.Error.TheVariants.{Memory}
use Rattle.streams.specs.Ended.{JobRead}
use Rattle.streams.specs.Files.{no_source}
use Rattle.streams.specs.Outlet.{OutletState}
use Rattle.streams.specs.Used.{FileUse, TextsAt, read_of_job}
use Rattle.many_jobs.specs.CheckMany.{Asked, LeavesMany}
use Rattle.many_jobs.specs.FleetFile.{AreFleets, FleetText, TellsOfFleet, words_named}
use Rattle.job_reports.specs.Refusals.{TellsOfNames}
use Rattle.many_jobs.specs.JobChecks.{work}
use Rattle.many_jobs.specs.Telling.{HowTold}
use Rattle.named_inputs.specs.Texts.{text_named}
use Rattle.requests.specs.declared.status.Status.{Status}
use Rattle.requests.specs.declared.status.Status.TheVariants.{Stopped}
use Rattle.requests.specs.Status.{is_stop_of_write}
use Rattle.many_jobs.specs.declared.telling.Format.{Format}
use Rattle.many_jobs.specs.declared.telling.Format.TheVariants.{Line, Words, Json, Html}
use Rattle.many_requests.specs.Documents.{RefusesName, WritesBehind, has_errors, has_lines, same_named}
use Rattle.many_requests.specs.Folders.{RefusesFolder}
use Rattle.many_requests.specs.Inputs.{RefusesInput, reads_input_again}
use Rattle.many_requests.specs.Lists.{RefusesList, is_refused_list, list_fault, path_of}
use Rattle.many_requests.specs.Names.{AreNamesAt, names_in}

-- ---- what is asked for

-- by the words: the jobs, the file of their names, whether that may have none, the printers, the fleets, how many
-- items macros may carry out, whether each printer is told of by itself, whether the notes of a job that passes are
-- told, the form, the explanations of which a FAIL and a note get their own, whether a FAIL counts as a PASS, whether
-- one does by which pclcheck alone says no, and the folder that gets the documents of jobs
pub record Asking : Type 0 where
  pub jobs : List (List ℕ)
  pub names_from : Option (List ℕ)
  pub allows_empty : Bool
  pub printers : List (List ℕ)
  pub fleets : List (List ℕ)
  pub most_items : Option ℕ
  pub is_each : Bool
  pub tells_notes : Bool
  pub form : Form
  pub explanations : List (List ℕ)
  pub exit_zero : Bool
  pub passes_unchecked : Bool
  pub documents : Option (List ℕ)

-- these words ask for that, where these are the explanations
abbrev pub asking : List (List ℕ) → ManyWords → Asking
asking texts words = record {
  jobs = map (λ word. word.now) words.jobs.items;
  names_from = option_map (λ word. word.now) words.names_from;
  allows_empty = words.allows_empty;
  printers = map (λ word. word.now) words.printers.items;
  fleets = map (λ word. word.now) words.fleets.items;
  most_items = words.most_items;
  is_each = words.is_each;
  tells_notes = words.tells_notes;
  form = words.form;
  explanations = if words.explains then texts else [];
  exit_zero = words.exit_zero;
  passes_unchecked = words.passes_unchecked;
  documents = option_map (λ folder. folder.now) words.documents;
}

-- a form, in whatever memory an object is put together
abbrev pub IsForm : Form → Format → Type 0
IsForm LineForm format = format ≡ Line
IsForm WordsForm format = format ≡ Words
IsForm JsonForm format = (memory : Global) × (format ≡ Json memory)
IsForm HtmlForm format = format ≡ Html

-- it is told as it is asked for
pub record IsTelling (asking : Asking) (telling : HowTold) : Type 0 where
  pub form : IsForm asking.form telling.format
  pub explanations : telling.explanations ≡ asking.explanations
  pub exit_zero : telling.exit_zero ≡ asking.exit_zero
  pub passes_unchecked : telling.passes_unchecked ≡ asking.passes_unchecked
  pub documents : telling.documents ≡ asking.documents

-- What is checked: the jobs of the words and then those that the bytes of the file of names have, for the printers of
-- the words and then those that the texts of the fleets name. The history of files has these texts, under the paths of
-- the fleets, and then the file of names.
pub record Completes (asking : Asking) (asked : Asked) (used used' : List FileUse) : Type 0 where
  pub names : List ℕ
  pub fleets : List FleetText
  pub jobs : asked.jobs ≡ asking.jobs ++ names_in names
  pub printers : asked.printers ≡ asking.printers ++ flat_map words_named fleets
  pub are_names : AreNamesAt asking.names_from
      (used ++ TextsAt asking.fleets (map (λ fleet. fleet.text) fleets) false ∷ []) used' names
  pub are_fleets : AreFleets text_named asking.fleets fleets
  pub most_items : asked.most_items ≡ asking.most_items
  pub is_each : asked.is_each ≡ asking.is_each
  pub tells_notes : asked.tells_notes ≡ asking.tells_notes
  pub telling : IsTelling asking asked.telling

-- the texts of the fleets at these paths were read, one after another, and name these words
pub record ReadsFleets (text_of : List ℕ → Option (List ℕ)) (paths old new words : List (List ℕ)) : Type 0 where
  pub fleets : List FleetText
  pub are_fleets : AreFleets text_of paths fleets
  pub given : new ≡ old ++ map (λ fleet. fleet.text) fleets
  pub words_are : words ≡ flat_map words_named fleets

-- ---- what is left

-- of these words the first ones were asked for, in their order, as far as it came, and gave these texts;
-- and then these jobs were read
abbrev pub UsesAll : (words texts : List (List ℕ)) → (failed : Bool) → List JobRead → List FileUse → List FileUse →
    Type 0
UsesAll words texts failed jobs used used' =
    (asked : List (List ℕ)) × (later : List (List ℕ)) × (words ≡ asked ++ later)
    × (used' ≡ used ++ TextsAt asked texts failed ∷ map read_of_job jobs)

-- The jobs are checked, where standard input is read once at most, for the printers of the texts in the history;
-- or they are refused for what can be read only once, no line is written and nothing read.
abbrev pub LeavesAsked : Option (List ℕ) → Asked → Status → List FileUse → List FileUse → OutletState → OutletState →
    OutletState → OutletState → Type 0
LeavesAsked names_from asked status used used' out out' err err' =
    (IsFalse (reads_input_again names_from asked) × (ended : List JobRead) × (texts : List (List ℕ))
    × (read_failed : Bool) × UsesAll asked.printers texts read_failed ended used used'
    × LeavesMany (map text_named asked.printers) [] texts read_failed asked (λ name. no_source) status (work out [])
    (work out' ended) err err'
    × (out'.failed ≡ is_stop_of_write status))
    ⊎ (RefusesInput names_from asked status err err' × (out' ≡ out) × (used' ≡ used))

-- jobs of one name are refused, whose documents would be one file, or a folder that cannot have them
abbrev pub RefusesDocuments : (folder : List ℕ) → (jobs : List (List ℕ)) → Status → List FileUse → List FileUse →
    OutletState → OutletState → Type 0
RefusesDocuments folder jobs status used used' err err' =
    (RefusesName jobs status err err' × (used' ≡ used)) ⊎ RefusesFolder folder status used used' err err'

-- They are checked, and behind that their documents are written; or these are refused.
pub record LeavesDocuments (folder : List ℕ) (names_from : Option (List ℕ)) (fleets : List (List ℕ)) (asked : Asked)
    (status : Status) (used used' : List FileUse) (out out' err err' : OutletState) : Type 0 where
  pub apart : same_named asked.jobs ≡ None
  pub answer : Status
  pub between : List FileUse
  pub told : OutletState
  pub checked : LeavesAsked names_from asked answer used between out out' err told
  pub written : WritesBehind (has_lines answer)
      (record {
        folder = folder;
        asked = asked;
        fleets = fleets;
        names_from = names_from;
        has_errors = has_errors answer;
      })
      answer status between used' told err'

abbrev pub LeavesWith : (documents : Option (List ℕ)) → Option (List ℕ) → (fleets : List (List ℕ)) → Asked → Status →
    List FileUse → List FileUse → OutletState → OutletState → OutletState → OutletState → Type 0
LeavesWith None names_from fleets asked status used used' out out' err err' =
    LeavesAsked names_from asked status used used' out out' err err'
LeavesWith (Some folder) names_from fleets asked status used used' out out' err err' =
    LeavesDocuments folder names_from fleets asked status used used' out out' err err'
    ⊎ (RefusesDocuments folder asked.jobs status used used' err err' × (out' ≡ out))

-- the jobs to which a list of these bytes leads are checked, or the list is refused, no line is written and nothing
-- more read
abbrev pub LeavesFound : Bool → Option (List ℕ) → (fleets : List (List ℕ)) → List ℕ → Asked → Status → List FileUse →
    List FileUse → OutletState → OutletState → OutletState → OutletState → Type 0
LeavesFound allows_empty names_from fleets names asked status used used' out out' err err' =
    (IsFalse (is_refused_list allows_empty names asked.jobs)
    × LeavesWith asked.telling.documents names_from fleets asked status used used' out out' err err')
    ⊎ (IsTrue (is_refused_list allows_empty names asked.jobs)
    × RefusesList (path_of names_from) (list_fault names) status err err' × (out' ≡ out) × (used' ≡ used))

-- why there is nothing to check: one of these fleets is refused, or this file of names cannot be read, of which
-- standard error is told; or there is no memory
abbrev pub LacksSome : List (List ℕ) → Option (List ℕ) → Status → OutletState → OutletState → Type 0
LacksSome fleets names_from status err err' =
    ((path : List ℕ) × Contains fleets path × TellsOfFleet path status err err')
    ⊎ (((path : List ℕ) × (names_from ≡ Some path) × TellsOfNames path status err err')
    ⊎ ((status ≡ Stopped Memory) × (err' ≡ err)))

-- what is asked for is had and checked, or some of it cannot be had, and no line is written
abbrev pub LeavesChecks : Asking → Status → List FileUse → List FileUse → OutletState → OutletState → OutletState →
    OutletState → Type 0
LeavesChecks asking status used used' out out' err err' =
    ((asked : Asked) × (between : List FileUse) × (had : Completes asking asked used between)
    × LeavesFound asking.allows_empty asking.names_from asking.fleets had.names asked status between used' out out' err
    err')
    ⊎ (LacksSome asking.fleets asking.names_from status err err' × (out' ≡ out))
