-- What the command `picture` leaves.
use Rattle.std.specs.Prelude.{◌≡◌, ◌≢◌, ◌⊎◌, ◌==◌, ◌+◌, ◌-◌, ◌^◌, ℕ, Bool, true, false, nat_lt, List, [], ◌∷◌, ◌++◌}
use Rattle.std.specs.Prelude.{codes, length, take, get_or, if◌then◌else◌, Ok, IsTrue, IsFalse, ⊤}
use Rattle.device_profile.specs.declared.panel.Panel.{Panel}
use Rattle.device_profile.specs.Name.{printer_name}
use Rattle.device_profile.specs.Printer.{Printer}
use Rattle.streams.specs.declared.error.Error.{Error}
use Rattle.streams.specs.declared.error.Error.TheVariants.{Memory, Read, Turns, NoProfile, Items}
use Rattle.renderings.specs.declared.outcome.Outcome.{Outcome}
use Rattle.renderings.specs.declared.outcome.Outcome.TheVariants.{Done as AllDone, Fail as FailsOf}
use Rattle.renderings.specs.Expected.{Rendering, IsExpected, TextNeedsReads, TextStaysOpen}
use Rattle.renderings.specs.Expected.{TextWasOpen, WritesExpected, WritesFront}
use Rattle.streams.specs.Writing.{Writes}
use Rattle.streams.specs.Outlet.{OutletState, Stays}
use Rattle.streams.specs.Pieces.{ByReads}
use Rattle.streams.specs.Source.{SourceState}
use Rattle.requests.specs.declared.selection.DrawnPages.{DrawnPages}
use Rattle.requests.specs.declared.selection.DrawnPages.TheVariants.{All, One}
use Rattle.requests.specs.declared.selection.Selection.{Selection}
use Rattle.job_picture.specs.JobPicture.{picture_rendering}
use Rattle.requests.specs.declared.choices.Choice.{Choice}
use Rattle.requests.specs.declared.status.Status.{Status}
use Rattle.requests.specs.declared.status.Status.TheVariants.{Pass, Fail, Profile, NotAllowed, Stopped}
use Rattle.named_inputs.specs.Choices.{chosen_panel}
use Rattle.job_reports.specs.Groups.{Groups}
use Rattle.job_reports.specs.JobSentences.{named_first}
use Rattle.picture_command.specs.PageSearch.{search_rendering}

-- ---- what the first reading tells

-- this text and this outcome are due of each job that may be by what the reads gave, of which each was needed
abbrev pub TellsOutcome : Rendering → SourceState → SourceState → (text : List ℕ) → Outcome → Type 0
TellsOutcome rendering job job' text outcome =
    ByReads job job' (λ bytes. IsExpected rendering bytes text outcome) × TextNeedsReads rendering job job'

-- it stopped: what is told was open before the last read, and where a read failed, it was open then
pub record StopsSearch (rendering : Rendering) (job job' : SourceState) : Type 0 where
  pub was_open : TextWasOpen rendering job job'
  pub still_open : IsTrue job'.failed → TextStaysOpen rendering job job'

-- the job does not have the page that is wanted alone: nothing fails on it, and yet something is told
abbrev pub is_missing_of : DrawnPages → (text : List ℕ) → Outcome → Bool
is_missing_of (One number) text AllDone = nat_lt 0 (length text)
is_missing_of (One number) text (FailsOf place profile finding) = false
is_missing_of All text outcome = false

abbrev pub is_missing : Selection → (text : List ℕ) → Outcome → Bool
is_missing selection text outcome = is_missing_of selection.pages text outcome

-- why nothing is told
abbrev pub IsErrorOfSearch : Error → Type 0
IsErrorOfSearch Memory = ⊤
IsErrorOfSearch Read = ⊤
IsErrorOfSearch Turns = ⊤
IsErrorOfSearch _ = ⊥

-- a line without its end
abbrev pub without_line_end : List ℕ → List ℕ
without_line_end line = if get_or line (length line - 1) 0 == 10 then take (length line - 1) line else line

-- the second reading came to something else than the first
abbrev pub change_line : (job : List ℕ) → List ℕ
change_line job = named_first job ++ codes "the job is read twice, and was another at the second time\n"

-- what is left of that line, where the program then ends by this status
abbrev pub TellsChange : Status → (job : List ℕ) → OutletState → OutletState → Type 0
TellsChange Fail job err err' = Writes err err' (change_line job)
TellsChange (Stopped Memory) job err err' = Stays err err'
TellsChange _ job err err' = ⊥

-- how the program ends by what came of the pages
abbrev pub status_of : Outcome → Status
status_of AllDone = Pass
status_of (FailsOf place profile finding) = Fail

-- 2^40 reads found no end
abbrev pub HasNoEnd : SourceState → SourceState → Type 0
HasNoEnd job job' = length job'.given ≡ length job.given + 2 ^ 40

-- ---- what is left

-- where the two readings of the job, standard output and standard error stood before and behind
pub record BeforeAndAfter : Type 0 where
  pub first : SourceState
  pub first' : SourceState
  pub second : SourceState
  pub second' : SourceState
  pub out : OutletState
  pub out' : OutletState
  pub err : OutletState
  pub err' : OutletState

-- the second reading has not begun, and nothing was drawn
abbrev pub IsUndrawn : BeforeAndAfter → Type 0
IsUndrawn a = (a.second'.given ≡ a.second.given) × Stays a.out a.out'

-- nor has the first
abbrev pub IsUnsearched : BeforeAndAfter → Type 0
IsUnsearched a = (a.first'.given ≡ a.first.given) × IsUndrawn a

-- where the second reading came to the same, and nothing is told of a change
abbrev pub LeavesSame : Status → Rendering → Outcome → BeforeAndAfter → Type 0
LeavesSame Pass rendering outcome a =
    (outcome ≡ AllDone) × WritesExpected rendering a.second a.second' a.out a.out' outcome × Stays a.err a.err'
LeavesSame Fail rendering outcome a =
    (outcome ≢ AllDone) × WritesExpected rendering a.second a.second' a.out a.out' outcome × Stays a.err a.err'
LeavesSame _ rendering outcome a = ⊥

-- where it came to something else: what it drew stands there, and standard error tells it
abbrev pub LeavesOther : Status → (job : List ℕ) → Rendering → Outcome → BeforeAndAfter → Type 0
LeavesOther Fail job rendering outcome a =
    (other : Outcome) × (other ≢ outcome) × WritesExpected rendering a.second a.second' a.out a.out' other
    × Writes a.err a.err' (change_line job)
LeavesOther (Stopped Memory) job rendering outcome a =
    (other : Outcome) × (other ≢ outcome) × WritesExpected rendering a.second a.second' a.out a.out' other
    × Stays a.err a.err'
LeavesOther _ job rendering outcome a = ⊥

-- where it stopped
abbrev pub LeavesAtStop : Status → Rendering → BeforeAndAfter → Type 0
LeavesAtStop (Stopped error) rendering a =
    (error ≢ NoProfile) × (error ≢ Items) × WritesFront rendering a.second a.second' a.out a.out' × Stays a.err a.err'
LeavesAtStop _ rendering a = ⊥

-- pages were drawn, of a job whose first reading came to this outcome
abbrev pub LeavesDrawn : Status → (job : List ℕ) → Rendering → Outcome → BeforeAndAfter → Type 0
LeavesDrawn status job rendering outcome a =
    LeavesSame status rendering outcome a
    ⊎ (LeavesOther status job rendering outcome a ⊎ LeavesAtStop status rendering a)

-- a page is missing, which standard error tells
pub record LeavesMissing (status : Status) (text : List ℕ) (a : BeforeAndAfter) : Type 0 where
  pub status_is : status ≡ Fail
  pub undrawn : IsUndrawn a
  pub told : Writes a.err a.err' text

-- by this text and this outcome of the first reading
pub record LeavesBehind (status : Status) (printer : Printer) (panel : Panel) (selection : Selection)
    (job text : List ℕ) (outcome : Outcome) (a : BeforeAndAfter) : Type 0 where
  pub missing : IsTrue (is_missing selection text outcome) → LeavesMissing status text a
  pub drawn : IsFalse (is_missing selection text outcome) →
      LeavesDrawn status job (picture_rendering printer panel selection (without_line_end text)) outcome a

-- what the first reading told, and what is left behind it
pub record LeavesTold (status : Status) (printer : Printer) (panel : Panel) (selection : Selection) (job : List ℕ)
    (group : Groups) (a : BeforeAndAfter) : Type 0 where
  pub text : List ℕ
  pub outcome : Outcome
  pub told : TellsOutcome (search_rendering printer panel selection job group) a.first a.first' text outcome
  pub behind : LeavesBehind status printer panel selection job text outcome a

-- what is left for this printer, which sentences name so, from this panel;
-- where the first reading stopped nothing was drawn
abbrev pub Draws : Status → Printer → Panel → Selection → (job : List ℕ) → (group : Groups) → BeforeAndAfter → Type 0
Draws (Stopped error) printer panel selection job group a =
    (IsUndrawn a × Stays a.err a.err'
    × StopsSearch (search_rendering printer panel selection job group) a.first a.first')
    ⊎ LeavesTold (Stopped error) printer panel selection job group a
Draws status printer panel selection job group a = LeavesTold status printer panel selection job group a

-- for a printer with this fact and this name, which sentences name, from the panel that is chosen
pub record LeavesPictureOf (status : Status) (IsPrinter : Printer → List ℕ → Type 0) (choices : List Choice)
    (selection : Selection) (job : List ℕ) (a : BeforeAndAfter) : Type 0 where
  pub printer : Printer
  pub name : List ℕ
  pub is_printer : IsPrinter printer name
  pub panel : Panel
  pub panel_is : chosen_panel printer choices ≡ Ok panel
  pub group : Groups
  pub names_are : group.names ≡ name ∷ []
  pub is_whole : group.is_each ≡ false
  pub draws : Draws status printer panel selection job group a

-- nothing was read of the job, and nothing written
abbrev pub IsUntouched : BeforeAndAfter → Type 0
IsUntouched a = IsUnsearched a × Stays a.err a.err'

-- what `picture` leaves where it ends by this status
abbrev pub LeavesPicture : Status → (Printer → List ℕ → Type 0) → List Choice → Selection → (job : List ℕ) →
    BeforeAndAfter →
    Type 0
LeavesPicture (Profile number line cause) IsPrinter choices selection job a = IsUntouched a
LeavesPicture (NotAllowed choice) IsPrinter choices selection job a = IsUnsearched a
LeavesPicture (Stopped error) IsPrinter choices selection job a =
    IsUntouched a ⊎ LeavesPictureOf (Stopped error) IsPrinter choices selection job a
LeavesPicture status IsPrinter choices selection job a = LeavesPictureOf status IsPrinter choices selection job a

-- the printer is the one that is named, by the only text that was read, which gives it this name
abbrev pub IsNamedBy : (given_before given_after : List (List ℕ)) → (Printer → Type 0) → Printer → List ℕ → Type 0
IsNamedBy given_before given_after IsPrinter printer name =
    IsPrinter printer × ((text : List ℕ) × (given_after ≡ given_before ++ text ∷ []) × (name ≡ printer_name text))
