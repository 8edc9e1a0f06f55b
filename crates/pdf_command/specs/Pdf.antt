-- What the command `pdf` leaves.
use Rattle.std.specs.Prelude.{◌≡◌, ◌⊎◌, ℕ, Bool, true, false, not, ◌&&◌, List, [], ◌∷◌, Ok, Err, Option, None, Result}
use Rattle.std.specs.Prelude.{Some, IsFalse, IsTrue, ⊤}
use Rattle.device_profile.specs.declared.panel.Panel.{Panel}
use Rattle.device_profile.specs.Printer.{Printer}
use Rattle.job_pdf.specs.JobPdf.{pdf_rendering}
use Rattle.job_pdf.specs.Plan.{Plan}
use Rattle.job_reports.specs.Groups.{Groups}
use Rattle.job_reports.specs.Lines.{verdict_line}
use Rattle.named_inputs.specs.Choices.{chosen_panel}
use Rattle.picture_command.specs.PageSearch.{search_rendering}
use Rattle.picture_command.specs.Picture.{HasNoEnd, IsErrorOfSearch, StopsSearch, TellsOutcome, is_missing}
use Rattle.renderings.specs.declared.outcome.Outcome.{Outcome}
use Rattle.renderings.specs.declared.outcome.Outcome.TheVariants.{Done as AllDone, Fail as FailsOf}
use Rattle.renderings.specs.Expected.{Rendering}
use Rattle.requests.specs.declared.choices.Choice.{Choice}
use Rattle.requests.specs.declared.selection.DrawnPages.{DrawnPages}
use Rattle.requests.specs.declared.selection.DrawnPages.TheVariants.{All, One}
use Rattle.requests.specs.declared.selection.Selection.{Selection}
use Rattle.requests.specs.declared.status.Status.{Status}
use Rattle.requests.specs.declared.status.Status.TheVariants.{Pass, Fail, Overwrites, NotAllowed, Profile, Stopped}
use Rattle.requests.specs.Status.{is_answer, is_complete, is_stop_of_read, is_stop_of_write}
use Rattle.streams.specs.declared.error.Error.{Error}
use Rattle.streams.specs.declared.error.Error.TheVariants.{Turns}
use Rattle.streams.specs.Outlet.{Adds, OutletState, Stays}
use Rattle.streams.specs.Source.{SourceState}
use Rattle.streams.specs.Writing.{Writes}
use Rattle.subcommands.specs.JobTexts.{IsUntouchedBeside, LeavesOut}
use Rattle.verdict.specs.declared.reason.Reason.{Reason}
use Rattle.verdict.specs.declared.verdict.Verdict.TheVariants.{Fail as FailOf}
use Rattle.verdict.specs.Limits.{is_many_items}
use Rattle.pdf_command.specs.declared.command.PdfEnd.{PdfEnd}

-- these pages of the job of this name, for printers of this group
abbrev pub plan_of : Selection → (is_proof : Bool) → (name : List ℕ) → Groups → Plan
plan_of selection is_proof name group =
    record { selection = selection; is_proof = is_proof; job = name; group = group }

-- ---- the first reading

-- the first page that is wanted: without it the document would have none
abbrev pub first_page : DrawnPages → DrawnPages
first_page All = One 1
first_page (One number) = One number

abbrev pub first_wanted : Selection → Selection
first_wanted selection = record selection { pages = first_page selection.pages }

-- what is due of the search for it
abbrev pub search_of : Printer → Panel → Plan → Rendering
search_of printer panel plan =
    search_rendering printer panel (first_wanted plan.selection) plan.job plan.group

-- the job has that page: it ends, or the job fails on it
pub record HasPage (search : Rendering) (selection : Selection) (job job' : SourceState) : Type 0 where
  pub text : List ℕ
  pub outcome : Outcome
  pub told : TellsOutcome search job job' text outcome
  pub there : IsFalse (is_missing selection text outcome)

-- it has not, which standard error tells
pub record LacksPage (search : Rendering) (selection : Selection) (job job' : SourceState) (err err' : OutletState)
    : Type 0 where
  pub text : List ℕ
  pub outcome : Outcome
  pub told : TellsOutcome search job job' text outcome
  pub missing : IsTrue (is_missing selection text outcome)
  pub line : Writes err err' text

-- the command ends without a document, by this status: the job lacks that page, or else the reading stopped
abbrev pub EndsBefore : (lacks_page : Bool) → Status → Rendering → Selection → SourceState → SourceState →
    OutletState → OutletState → Type 0
EndsBefore true status search selection job job' err err' =
    (status ≡ Fail) × LacksPage search selection job job' err err'
EndsBefore false (Stopped error) search selection job job' err err' =
    IsErrorOfSearch error × StopsSearch search job job' × Stays err err'
EndsBefore false _ search selection job job' err err' = ⊥

-- so it ends, or it goes on with a job that has the page
abbrev pub Finds : Option PdfEnd → Rendering → Selection → SourceState → SourceState → OutletState → OutletState →
    Type 0
Finds None search selection job job' err err' = HasPage search selection job job'
Finds (Some end) search selection job job' err err' =
    EndsBefore end.lacks_page end.status search selection job job' err err'

-- it stopped at a read that failed
abbrev pub is_stop_at_read : Option PdfEnd → Bool
is_stop_at_read None = false
is_stop_at_read (Some end) = is_stop_of_read end.status

-- the job lacks the page
abbrev pub is_lacking : Option PdfEnd → Bool
is_lacking None = false
is_lacking (Some end) = end.lacks_page

-- how the work on the pages ends: the job passes or fails, OUT is a file that is read, or the work stopped
abbrev pub IsEndOfPages : Status → Type 0
IsEndOfPages Pass = ⊤
IsEndOfPages Fail = ⊤
IsEndOfPages (Overwrites input) = ⊤
IsEndOfPages (Stopped error) = ⊤
IsEndOfPages _ = ⊥

-- ---- how the command ends

-- OUT has all of a document
abbrev pub has_document : PdfEnd → Bool
has_document end = not end.lacks_page && (not end.gives_up && is_complete end.status)

-- ---- the limit of items

-- the printer, whose macros may carry out so many items of a job, or are not limited
abbrev pub limited : Option ℕ → Printer → Printer
limited most printer = record printer { most_items = most }

-- macros would carry out more items of a job than are allowed
abbrev pub passes_limit : Result Outcome Error → Bool
passes_limit (Ok (FailsOf place profile reason)) = is_many_items reason
passes_limit (Ok AllDone) = false
passes_limit (Err error) = false

-- the line of the failure tells whether it is the limit
pub record TellsLimit (gives_up : Bool) (line line' : OutletState) : Type 0 where
  pub place : ℕ
  pub profile : ℕ
  pub reason : Reason
  pub told : Adds line line' (verdict_line (FailOf place profile reason))
  pub is_limit : gives_up ≡ is_many_items reason

-- so where the work on the pages ended by a failure
abbrev pub GivesUpBy : Status → (gives_up : Bool) → OutletState → OutletState → Type 0
GivesUpBy Fail gives_up line line' = TellsLimit gives_up line line'
GivesUpBy _ gives_up line line' = ⊤

-- where the two readings of the job, OUT, standard output and standard error stood before and behind
pub record Around : Type 0 where
  pub first : SourceState
  pub first' : SourceState
  pub second : SourceState
  pub second' : SourceState
  pub out : OutletState
  pub out' : OutletState
  pub line : OutletState
  pub line' : OutletState
  pub err : OutletState
  pub err' : OutletState

-- the second reading has not begun, and nothing was written in OUT or on standard output
abbrev pub IsUndrawn : Around → Type 0
IsUndrawn a = IsUntouchedBeside a.second a.second' a.out a.out' a.line a.line'

-- nor has the first
abbrev pub IsUnsearched : Around → Type 0
IsUnsearched a = (a.first'.given ≡ a.first.given) × IsUndrawn a

abbrev pub IsUntouched : Around → Type 0
IsUntouched a = IsUnsearched a × Stays a.err a.err'

-- the job has a page that is wanted, and its document was written, and beside it the line of its failure
abbrev pub DrawsPages : Status → Printer → Panel → Plan → Around → Type 0
DrawsPages status printer panel plan a =
    HasPage (search_of printer panel plan) (first_wanted plan.selection) a.first a.first'
    × LeavesOut status (pdf_rendering printer panel plan) a.second a.second' a.out a.out' a.line a.line'
    × Stays a.err a.err'

-- the first reading stopped, or else pages were drawn
abbrev pub DrawsOrStops : Status → Printer → Panel → Plan → Around → Type 0
DrawsOrStops (Stopped error) printer panel plan a =
    (StopsSearch (search_of printer panel plan) a.first a.first' × IsUndrawn a × Stays a.err a.err')
    ⊎ DrawsPages (Stopped error) printer panel plan a
DrawsOrStops status printer panel plan a = DrawsPages status printer panel plan a

-- the job has no page that is wanted
abbrev pub DrawsNone : Status → Printer → Panel → Plan → Around → Type 0
DrawsNone status printer panel plan a =
    (status ≡ Fail)
    × LacksPage (search_of printer panel plan) (first_wanted plan.selection) a.first a.first' a.err a.err'
    × IsUndrawn a

-- by whether it has
abbrev pub DrawsBy : (lacks_page : Bool) → Status → Printer → Panel → Plan → Around → Type 0
DrawsBy true status printer panel plan a = DrawsNone status printer panel plan a
DrawsBy false status printer panel plan a = DrawsOrStops status printer panel plan a

-- what is left for a printer with this fact and this name, which the document tells, with this limit of items and from
-- the panel that is chosen
pub record LeavesPdfOf (end : PdfEnd) (IsPrinter : Printer → List ℕ → Type 0) (most : Option ℕ)
    (choices : List Choice) (selection : Selection) (is_proof : Bool) (name : List ℕ) (a : Around) : Type 0 where
  pub printer : Printer
  pub printer_name : List ℕ
  pub is_printer : IsPrinter printer printer_name
  pub panel : Panel
  pub panel_is : chosen_panel printer choices ≡ Ok panel
  pub group : Groups
  pub names_are : group.names ≡ printer_name ∷ []
  pub is_whole : group.is_each ≡ false
  pub draws : DrawsBy end.lacks_page end.status (limited most printer) panel (plan_of selection is_proof name group) a

-- so, unless the profile is not had or the panel may not have a choice, by this status
abbrev pub LeavesPdfBy : Status → PdfEnd → (Printer → List ℕ → Type 0) → (most : Option ℕ) → List Choice →
    Selection → (is_proof : Bool) → (name : List ℕ) → Around → Type 0
LeavesPdfBy (Profile number line cause) end IsPrinter most choices selection is_proof name a = IsUntouched a
LeavesPdfBy (NotAllowed choice) end IsPrinter most choices selection is_proof name a = IsUnsearched a
LeavesPdfBy (Stopped error) end IsPrinter most choices selection is_proof name a =
    IsUntouched a ⊎ LeavesPdfOf end IsPrinter most choices selection is_proof name a
LeavesPdfBy status end IsPrinter most choices selection is_proof name a =
    LeavesPdfOf end IsPrinter most choices selection is_proof name a

-- what `pdf` leaves where it ends so
abbrev pub LeavesPdf : PdfEnd → (Printer → List ℕ → Type 0) → (most : Option ℕ) → List Choice → Selection →
    (is_proof : Bool) → (name : List ℕ) → Around → Type 0
LeavesPdf end IsPrinter most choices selection is_proof name a =
    LeavesPdfBy end.status end IsPrinter most choices selection is_proof name a

-- How the command ends. What it leaves has this fact; it stopped at a read or at a write just where one failed, and
-- for its turns after 2^40 reads.
pub record EndsPdf (end : PdfEnd) (Left : Around → Type 0) (a : Around) (read_failed write_failed : Bool)
    : Type 0 where
  pub left : Left a
  pub read : read_failed ≡ is_stop_of_read end.status
  pub write : write_failed ≡ is_stop_of_write end.status
  pub turns : end.status ≡ Stopped Turns → HasNoEnd a.first a.first' ⊎ HasNoEnd a.second a.second'

-- OUT is created once the job is open: it is as it was, or the job was opened;
-- and it was created where the job has an answer and a page that is wanted
abbrev pub CreatesForPages : {Job Out : Type 0} → PdfEnd → (Job → Job → Type 0) → (Out → Out → Type 0) → Job → Out →
    Out → Type 0
CreatesForPages {Job} {Out} end opens creates job out out' =
    ((out' ≡ out) ⊎ ((ready : Job) × opens job ready))
    × (IsTrue (not end.lacks_page && is_answer end.status) → (created : Out) × creates out created)
