-- What the command `compare` leaves of many jobs, each compared with one of its own.
use Rattle.std.specs.Prelude.{◌≡◌, ◌⊎◌, ℕ, true, List, [], ◌∷◌, map, IsFalse, IsTrue, Option, None, Some}
use Rattle.device_profile.specs.Printer.{Printer}
use Rattle.streams.specs.declared.error.Error.{Error}
use Rattle.streams.specs.declared.error.Error.TheVariants.{Memory, Write, Read, Turns, NoProfile, Items}
use Rattle.streams.specs.Ended.{JobRead}
use Rattle.streams.specs.Outlet.{OutletState, Adds, AddsFront}
use Rattle.streams.specs.Source.{SourceState}
use Rattle.requests.specs.declared.compare_words.Extent.{Extent}
use Rattle.requests.specs.declared.compare_words.Nearness.{Nearness}
use Rattle.requests.specs.declared.many_words.Form.{Form}
use Rattle.requests.specs.declared.status.Status.{Status}
use Rattle.requests.specs.declared.status.Status.TheVariants.{Pass, Fail, Stopped, Told}
use Rattle.requests.specs.declared.status.Trouble.TheVariants.{NoVerdict}
use Rattle.many_jobs.specs.JobChecks.{Work}
use Rattle.sinks.specs.declared.counts.Counts.{Counts}
use Rattle.comparison.specs.declared.compare.Which.{Which}
use Rattle.compare_command.specs.declared.asked.GoldenAsked.{GoldenAsked}
use Rattle.compare_command.specs.declared.asked.JobPair.{JobPair}
use Rattle.compare_command.specs.declared.found.Found.{Found}
use Rattle.compare_command.specs.declared.golden.Ending.{Ending}
use Rattle.compare_command.specs.declared.golden.Ending.TheVariants.{Agrees, Differs, HasNoVerdict}
use Rattle.compare_command.specs.Compare.{AreOfTexts, Asked, FindsFor, RefusesPrinter, StopsJobs, name_by}
use Rattle.compare_command.specs.Compare.{telling_of}
use Rattle.compare_command.specs.Outcomes.{same_counts}
use Rattle.compare_command.specs.Telling.{found_text, stop_told}

-- ---- what is asked for

-- the names of two jobs
pub record PairNames : Type 0 where
  pub old_name : List ℕ
  pub new_name : List ℕ

abbrev pub pair_names : (old new : List ℕ) → PairNames
pair_names old new = record { old_name = old; new_name = new }

abbrev pub names_of : JobPair → PairNames
names_of pair = pair_names pair.old_name.now pair.new_name.now

-- the names of the pairs, the words of the printers, the form, how near is same, and how much of what differs is told
pub record Golden : Type 0 where
  pub pairs : List PairNames
  pub printers : List (List ℕ)
  pub form : Form
  pub nearness : Nearness
  pub extent : Extent

abbrev pub golden_for : GoldenAsked → Golden
golden_for asked = record {
  pairs = map names_of asked.pairs.now;
  printers = map (λ word. word.now) asked.printers.now;
  form = asked.form;
  nearness = asked.nearness;
  extent = asked.extent;
}

-- so much is asked of a pair
abbrev pub asked_by : Golden → PairNames → Asked
asked_by golden pair = record {
  old_name = pair.old_name;
  new_name = pair.new_name;
  printers = golden.printers;
  form = golden.form;
  nearness = golden.nearness;
  extent = golden.extent;
  is_named = true;
}

-- ---- how they count

-- two jobs that print the same agree
abbrev pub ending_of : Option Counts → Ending
ending_of (Some counts) = Agrees
ending_of None = Differs

-- the greater one
abbrev pub worse : Ending → Ending → Ending
worse Agrees ending = ending
worse Differs Agrees = Differs
worse Differs Differs = Differs
worse Differs HasNoVerdict = HasNoVerdict
worse HasNoVerdict ending = HasNoVerdict

-- how the program ends
abbrev pub status_at : Ending → Status
status_at Agrees = Pass
status_at Differs = Fail
status_at HasNoVerdict = Told NoVerdict

-- ---- what is told of a pair

-- one of the jobs has no verdict, and this is known of why
abbrev pub stop_text : Asked → List (List ℕ) → Which → Error → Option (List ℕ) → List ℕ
stop_text asked names which error cause = stop_told asked.form names (name_by asked which) error cause

-- the text of what is found of a pair on printers with these names, and how it counts
pub record TellsFound (asked : Asked) (fleet : List Printer) (names : List (List ℕ)) (start : List ℕ → SourceState)
    (ended ended' : List JobRead) (text : List ℕ) (ending : Ending) : Type 0 where
  pub found : Found
  pub finds : FindsFor asked fleet start found ended ended'
  pub text_is : text ≡ found_text (telling_of asked names) found.number found.outcome
  pub counts : ending ≡ ending_of (same_counts found.outcome)

-- the text of why a pair has no verdict, which counts so
pub record TellsStop (asked : Asked) (names : List (List ℕ)) (ended ended' : List JobRead) (text : List ℕ)
    (ending : Ending) : Type 0 where
  pub which : Which
  pub error : Error
  pub cause : Option (List ℕ)
  pub stops : StopsJobs asked.old_name asked.new_name which error ended ended'
  pub text_is : text ≡ stop_text asked names which error cause
  pub counts : ending ≡ HasNoVerdict

abbrev pub TellsPair : Asked → List Printer → List (List ℕ) → (List ℕ → SourceState) → List JobRead → List JobRead →
    List ℕ → Ending → Type 0
TellsPair asked fleet names start ended ended' text ending =
    TellsFound asked fleet names start ended ended' text ending ⊎ TellsStop asked names ended ended' text ending

-- the text of a pair was written, which counts so
pub record IsTold (asked : Asked) (fleet : List Printer) (names : List (List ℕ)) (start : List ℕ → SourceState)
    (ending : Ending) (old new : Work) : Type 0 where
  pub text : List ℕ
  pub tells : TellsPair asked fleet names start old.ended new.ended text ending
  pub written : Adds old.out new.out text

-- there was no memory for the text of a pair, and nothing was written; or a front of it was
abbrev pub IsCut : Error → Asked → List Printer → List (List ℕ) → (List ℕ → SourceState) → Work → Work → Type 0
IsCut Memory asked fleet names start old new = new.out ≡ old.out
IsCut Write asked fleet names start old new =
    (text : List ℕ) × (ending : Ending) × TellsPair asked fleet names start old.ended new.ended text ending
    × IsTrue new.out.failed × AddsFront old.out new.out text
IsCut Read asked fleet names start old new = ⊥
IsCut Turns asked fleet names start old new = ⊥
IsCut NoProfile asked fleet names start old new = ⊥
IsCut Items asked fleet names start old new = ⊥

-- ---- what is left

-- One pair after another is told, of which those before count so: the worst is the status.
-- Where the text of one is cut, it is over.
abbrev pub LeavesPairs : Golden → List Printer → List (List ℕ) → (List ℕ → SourceState) → List PairNames → Ending →
    Status → Work → Work → Type 0
LeavesPairs golden fleet names start [] ending status old new =
    (status ≡ status_at ending) × IsFalse new.out.failed × (new ≡ old)
LeavesPairs golden fleet names start (pair ∷ pairs) ending status old new =
    ((told : Ending) × (between : Work) × IsTold (asked_by golden pair) fleet names start told old between
    × LeavesPairs golden fleet names start pairs (worse ending told) status between new)
    ⊎ ((error : Error) × IsCut error (asked_by golden pair) fleet names start old new × (status ≡ Stopped error))

-- The pairs are compared on the printers of these texts; or there are no printers, no job is read and nothing is
-- written.
abbrev pub LeavesGolden : (known : List (Option (List ℕ))) → (given given' : List (List ℕ)) → Golden →
    (List ℕ → SourceState) → Status → Work → Work → OutletState → OutletState → Type 0
LeavesGolden known given given' golden start status old new err err' =
    ((fleet : List Printer) × (names : List (List ℕ)) × AreOfTexts known given given' fleet names
    × LeavesPairs golden fleet names start golden.pairs Agrees status old new × (err' ≡ err))
    ⊎ (RefusesPrinter known given given' golden.form golden.printers status err err' × (new ≡ old))
