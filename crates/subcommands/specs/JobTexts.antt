-- What the subcommands leave that write a text of a job.
use Rattle.std.specs.Prelude.{◌≡◌, ◌≢◌, ◌⊎◌, ◌||◌, ℕ, ◌+◌, ◌^◌, Bool, List, length, Option, Ok, IsTrue}
use Rattle.device_profile.specs.declared.panel.Panel.{Panel}
use Rattle.device_profile.specs.Printer.{Printer, first_panel}
use Rattle.streams.specs.declared.error.Error.{Error}
use Rattle.streams.specs.declared.error.Error.TheVariants.{Memory, Read, Write, Turns, NoProfile, Items}
use Rattle.renderings.specs.declared.outcome.Outcome.{Outcome}
use Rattle.renderings.specs.declared.outcome.Outcome.TheVariants.{Done, Fail as FailsOf}
use Rattle.verdict.specs.Failing.{failing}
use Rattle.verdict.specs.declared.failure.Failure.{Failure}
use Rattle.verdict.specs.declared.reason.Reason.{Reason}
use Rattle.verdict.specs.declared.verdict.Verdict.TheVariants.{Fail as FailOf}
use Rattle.renderings.specs.Expected.{Rendering, WritesExpected, WritesFront, pages_rendering}
use Rattle.renderings.specs.Outcomes.{fails_with}
use Rattle.renderings.specs.Pins.{pinned_rendering}
use Rattle.streams.specs.Outlet.{OutletState, Adds, AddsFront, Stays}
use Rattle.streams.specs.Source.{SourceState}
use Rattle.requests.specs.declared.status.Status.{Status}
use Rattle.requests.specs.declared.status.Status.TheVariants.{Pass, Fail, Help, Usage, Overwrites, NotAllowed, Told}
use Rattle.requests.specs.declared.status.Status.TheVariants.{Profile, Stopped}
use Rattle.requests.specs.declared.choices.Choice.{Choice}
use Rattle.named_inputs.specs.Choices.{chosen_panel}
use Rattle.named_inputs.specs.Fleet.{RefusesOne, RefusesRead}
use Rattle.job_reports.specs.Lines.{verdict_line}
use Rattle.requests.specs.Status.{is_answer, is_refusal, is_stop_of_read, is_stop_of_write}

-- How a command on a text of a job ends by this status. What it leaves, by what was read of the job,
-- has this fact; it stopped at a read or at a write just where one failed, and for its turns after
-- 2^40 reads.
pub record EndsBy (status : Status) (Left : SourceState → SourceState → Type 0)
    (job job' : SourceState) (read_failed write_failed : Bool) : Type 0 where
  pub left : Left job job'
  pub read : read_failed ≡ is_stop_of_read status
  pub write : write_failed ≡ is_stop_of_write status
  pub turns : status ≡ Stopped Turns → length job'.given ≡ length job.given + 2 ^ 40

-- the whole text of a job that fails stands there, and of the line of this failure the fact holds
abbrev pub StandsUpToFailure : Rendering → SourceState → SourceState → OutletState → OutletState → (List ℕ → Type 0) →
    Type 0
StandsUpToFailure rendering job job' old new P =
    (failure : Failure) × WritesExpected rendering job job' old new (fails_with failure) ×
    P (verdict_line (failing failure))

-- what a subcommand that ends by this status leaves of a text alone
abbrev pub LeavesText : Status → Rendering → SourceState → SourceState → OutletState → OutletState → Type 0
LeavesText Pass rendering job job' old new = WritesExpected rendering job job' old new Done
LeavesText Fail rendering job job' old new =
    (place : ℕ) × (profile : ℕ) × (finding : Reason)
    × WritesExpected rendering job job' old new (FailsOf place profile finding)
LeavesText Help rendering job job' old new = ⊥
LeavesText Usage rendering job job' old new = ⊥
LeavesText (Overwrites input) rendering job job' old new = ⊥
LeavesText (NotAllowed choice) rendering job job' old new = ⊥
LeavesText (Told trouble) rendering job job' old new = ⊥
LeavesText (Profile number line cause) rendering job job' old new = ⊥
LeavesText (Stopped error) rendering job job' old new =
    (error ≢ NoProfile) × (error ≢ Items) × WritesFront rendering job job' old new

-- What is left where work stopped, of a text and, apart from it, of the line of its failure:
-- a front of the text and no line; or the whole text and of the line nothing or, where a write failed, a front.
abbrev pub LeavesAtStopBeside : Error → Rendering → SourceState → SourceState → OutletState → OutletState →
    OutletState → OutletState → Type 0
LeavesAtStopBeside Memory rendering job job' old new start end =
    (WritesFront rendering job job' old new × Stays start end)
    ⊎ StandsUpToFailure rendering job job' old new (λ line. Stays start end)
LeavesAtStopBeside Read rendering job job' old new start end = WritesFront rendering job job' old new × Stays start end
LeavesAtStopBeside Write rendering job job' old new start end =
    (WritesFront rendering job job' old new × Stays start end)
    ⊎ StandsUpToFailure rendering job job' old new (AddsFront start end)
LeavesAtStopBeside Turns rendering job job' old new start end = WritesFront rendering job job' old new × Stays start end
LeavesAtStopBeside NoProfile rendering job job' old new start end = ⊥
LeavesAtStopBeside Items rendering job job' old new start end = ⊥

-- what a subcommand that ends by this status leaves of a text between old and new, and of the line of its failure,
-- where it has one, between start and end
abbrev pub LeavesTextAndLine : Status → Rendering → SourceState → SourceState → OutletState → OutletState →
    OutletState → OutletState → Type 0
LeavesTextAndLine Pass rendering job job' old new start end =
    WritesExpected rendering job job' old new Done × Stays start end
LeavesTextAndLine Fail rendering job job' old new start end =
    StandsUpToFailure rendering job job' old new (Adds start end)
LeavesTextAndLine Help rendering job job' old new start end = ⊥
LeavesTextAndLine Usage rendering job job' old new start end = ⊥
LeavesTextAndLine (Overwrites input) rendering job job' old new start end = ⊥
LeavesTextAndLine (NotAllowed choice) rendering job job' old new start end = ⊥
LeavesTextAndLine (Told trouble) rendering job job' old new start end = ⊥
LeavesTextAndLine (Profile number line cause) rendering job job' old new start end = ⊥
LeavesTextAndLine (Stopped error) rendering job job' old new start end =
    LeavesAtStopBeside error rendering job job' old new start end

-- what is left of the line of an outcome, where the program then ends by this status
abbrev pub LeavesLine : Outcome → Status → OutletState → OutletState → Type 0
LeavesLine Done Pass start end = Stays start end
LeavesLine (FailsOf place profile finding) Fail start end = Adds start end (verdict_line (FailOf place profile finding))
LeavesLine (FailsOf place profile finding) (Stopped Memory) start end = Stays start end
LeavesLine (FailsOf place profile finding) (Stopped Write) start end =
    AddsFront start end (verdict_line (FailOf place profile finding))
LeavesLine _ _ start end = ⊥

-- ---- pages

-- nothing was read of the job, and nothing written
abbrev pub IsUntouched : SourceState → SourceState → OutletState → OutletState → Type 0
IsUntouched job job' old new = (job'.given ≡ job.given) × Stays old new

-- what `pages` leaves for a printer with this fact:
-- the pages from the first panel of it, and behind them the line of the failure
abbrev pub LeavesPagesOf : Status → (Printer → Type 0) → SourceState → SourceState → OutletState → OutletState → Type 0
LeavesPagesOf status IsPrinter job job' old new =
    (printer : Printer) × IsPrinter printer × (behind : OutletState)
    × LeavesTextAndLine status (pages_rendering printer (first_panel printer)) job job' old behind behind new

-- what `pages` leaves on standard output where it ends by this status
abbrev pub LeavesPages : Status → (Printer → Type 0) → SourceState → SourceState → OutletState → OutletState → Type 0
LeavesPages (Profile number line cause) IsPrinter job job' old new = IsUntouched job job' old new
LeavesPages (Stopped error) IsPrinter job job' old new =
    IsUntouched job job' old new ⊎ LeavesPagesOf (Stopped error) IsPrinter job job' old new
LeavesPages status IsPrinter job job' old new = LeavesPagesOf status IsPrinter job job' old new

-- ---- a text in OUT

-- nothing was read of the job, and nothing written, in OUT or on standard output
abbrev pub IsUntouchedBeside : SourceState → SourceState → OutletState → OutletState → OutletState → OutletState →
    Type 0
IsUntouchedBeside job job' old new start end = IsUntouched job job' old new × Stays start end

-- what is left of a text in OUT, and beside it of the line of the failure, where OUT may be a file that is read
abbrev pub LeavesOut : Status → Rendering → SourceState → SourceState → OutletState → OutletState → OutletState →
    OutletState → Type 0
LeavesOut (Overwrites input) rendering job job' old new start end = IsUntouchedBeside job job' old new start end
LeavesOut status rendering job job' old new start end = LeavesTextAndLine status rendering job job' old new start end

-- ---- a pinned job

-- what `pin` leaves for a printer with this fact:
-- the job that is pinned to the panel that is chosen, and beside it the line of the failure
abbrev pub LeavesPinnedOf : Status → (Printer → Type 0) → List Choice → SourceState → SourceState → OutletState →
    OutletState → OutletState → OutletState → Type 0
LeavesPinnedOf status IsPrinter choices job job' old new start end =
    (printer : Printer) × (panel : Panel) × IsPrinter printer × (chosen_panel printer choices ≡ Ok panel)
    × LeavesOut status (pinned_rendering printer panel) job job' old new start end

-- what `pin` leaves where it ends by this status
abbrev pub LeavesPinned : Status → (Printer → Type 0) → List Choice → SourceState → SourceState → OutletState →
    OutletState → OutletState → OutletState → Type 0
LeavesPinned (Profile number line cause) IsPrinter choices job job' old new start end =
    IsUntouchedBeside job job' old new start end
LeavesPinned (NotAllowed choice) IsPrinter choices job job' old new start end =
    IsUntouchedBeside job job' old new start end
LeavesPinned (Stopped error) IsPrinter choices job job' old new start end =
    IsUntouchedBeside job job' old new start end
    ⊎ LeavesPinnedOf (Stopped error) IsPrinter choices job job' old new start end
LeavesPinned status IsPrinter choices job job' old new start end =
    LeavesPinnedOf status IsPrinter choices job job' old new start end

-- The one profile of a command is read and judged before its job is read. Where it is refused, it is the first one, its
-- text was read, and that is what is wrong with it; and where it is refused or could not be read, the job is as it was.
abbrev pub JudgesFirst : {Job : Type 0} → Status → Option (List ℕ) → List (List ℕ) → List (List ℕ) → Bool → Job → Job →
    Type 0
JudgesFirst status text given_before given_after failed job job' =
    RefusesOne text status × RefusesRead given_before given_after 1 status ×
    (IsTrue (is_refusal status || failed) → job' ≡ job)

-- OUT is created once the job is open: it is as it was, or the job was opened;
-- and it was created where the command has an answer, also for a job of no items
abbrev pub CreatesOnceOpen : {Job Out : Type 0} → Status → (Job → Job → Type 0) → (Out → Out → Type 0) → Job → Out →
    Out → Type 0
CreatesOnceOpen {Job} {Out} status opens creates job out out' =
    ((out' ≡ out) ⊎ ((ready : Job) × opens job ready))
    × (IsTrue (is_answer status) → (created : Out) × creates out created)
