-- What the command `profile sheet` leaves.
use Rattle.std.specs.Prelude.{◌≡◌, ◌⊎◌, ◌∷◌, [], ℕ, List, Bool, Option, true, false, codes, ◌++◌, ⊤}
use Rattle.device_profile.specs.Name.{printer_name}
use Rattle.device_profile.specs.Printer.{Printer}
use Rattle.streams.specs.declared.error.Error.TheVariants.{Memory, Read, Write, Turns}
use Rattle.judgement.specs.Verdict.{IsExact, VerdictHolds}
use Rattle.shown_bytes.specs.Shown.{shown}
use Rattle.profile_commands.specs.ProfileReading.{IsRead, IsTextOf, TellsWhyNone}
use Rattle.profile_commands.specs.WholeText.{WritesWhole}
use Rattle.streams.specs.Outlet.{OutletState}
use Rattle.job_reports.specs.Refusals.{TellsLine}
use Rattle.job_reports.specs.Lines.{verdict_line}
use Rattle.requests.specs.declared.status.Input.TheVariants.{Profile as TheProfile}
use Rattle.requests.specs.declared.status.Status.{Status}
use Rattle.requests.specs.declared.status.Status.TheVariants.{Overwrites, Stopped}
use Rattle.requests.specs.declared.status.Trouble.TheVariants.{Refused}
use Rattle.test_sheet.specs.Sheet.{sheet}
use Rattle.verdict.specs.declared.failure.Failure.{Failure}
use Rattle.verdict.specs.declared.verdict.Verdict.TheVariants.{Pass}
use Rattle.verdict.specs.Failing.{failing}

-- the job passes on this printer
abbrev pub Passes : Printer → List ℕ → Type 0
Passes printer job =
    (pages : ℕ) × (marks : ℕ) × IsExact (printer ∷ []) job (Pass pages marks)
    × VerdictHolds (printer ∷ []) job (Pass pages marks)

-- the job fails on it so
abbrev pub FailsBy : Printer → List ℕ → Failure → Type 0
FailsBy printer job failure = IsExact (printer ∷ []) job (failing failure)

-- the word of a profile on whose printer the sheet fails, and how
abbrev pub unprinted_sheet : List ℕ → Failure → List ℕ
unprinted_sheet word failure =
    codes "error: the sheet for '"
    ++ (shown word ++ (codes "' would not pass on it: " ++ verdict_line (failing failure)))

-- OUT could not be created, for want of memory or since the system refused it, and nothing is written
abbrev pub HasNoOut : Status → OutletState → OutletState → Type 0
HasNoOut (Stopped Memory) out out' = out' ≡ record out { failed = false }
HasNoOut (Stopped Write) out out' = out' ≡ record out { failed = true }
HasNoOut _ out out' = ⊥

-- OUT is created and the job written, or a front where a write failed;
-- or OUT is the profile itself or cannot be created, and nothing is written
abbrev pub WritesOut : List ℕ → Status → OutletState → OutletState → Type 0
WritesOut job status out out' =
    WritesWhole job status out out'
    ⊎ ((status ≡ Overwrites TheProfile) × (out' ≡ out))
    ⊎ HasNoOut status out out'

-- memory ran out, or a read of the check failed or came to no end
abbrev pub IsEndOfCheck : Status → Type 0
IsEndOfCheck (Stopped Memory) = ⊤
IsEndOfCheck (Stopped Read) = ⊤
IsEndOfCheck (Stopped Turns) = ⊤
IsEndOfCheck _ = ⊥

-- The sheet of a printer goes to OUT where it passes on it;
-- where it fails, standard error is told how; or there is no verdict.
abbrev pub LeavesSheetOf : List ℕ → Printer → List ℕ → Status → OutletState → OutletState → OutletState → OutletState →
    Type 0
LeavesSheetOf word printer job status out out' err err' =
    (Passes printer job × WritesOut job status out out' × (err' ≡ err))
    ⊎ ((failure : Failure) × FailsBy printer job failure
    × TellsLine status Refused (unprinted_sheet word failure) err err' × (out' ≡ out))
    ⊎ (IsEndOfCheck status × (out' ≡ out) × (err' ≡ err))

-- the sheet of the printer whose text was read, or there is none, and standard error is told why
abbrev pub LeavesSheet : Option (List ℕ) → List ℕ → List (List ℕ) → List (List ℕ) → Bool → Status → OutletState →
    OutletState → OutletState → OutletState → Type 0
LeavesSheet known word old new failed status out out' err err' =
    ((text : List ℕ) × (printer : Printer) × IsRead known old new text × IsTextOf text printer
    × LeavesSheetOf word printer (sheet (printer_name text) printer) status out out' err err')
    ⊎ (TellsWhyNone known word old new failed status err err' × (out' ≡ out))
