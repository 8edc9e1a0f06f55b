-- What the command `notes` leaves.
use Rattle.std.specs.Prelude.{◌≡◌, ◌≢◌, ◌⊎◌, ℕ, List, [], ◌∷◌, ◌++◌}
use Rattle.device_profile.specs.Printer.{Printer, first_panel}
use Rattle.streams.specs.declared.error.Error.TheVariants.{Memory, Write, NoProfile, Items}
use Rattle.renderings.specs.declared.outcome.Outcome.{Outcome}
use Rattle.renderings.specs.declared.outcome.Outcome.TheVariants.{Done, Fail as FailsOf}
use Rattle.renderings.specs.Expected.{Rendering, IsExpected, TextNeedsReads, WritesFront}
use Rattle.streams.specs.Outlet.{OutletState, Adds, AddsFront}
use Rattle.streams.specs.Pieces.{ByReads}
use Rattle.streams.specs.Source.{SourceState}
use Rattle.verdict.specs.declared.verdict.Verdict.TheVariants.{Fail as FailOf}
use Rattle.notes.specs.Note.{Told as ToldNote, note_line}
use Rattle.notes.specs.Notes.{notes_rendering, with_most_items}
use Rattle.requests.specs.declared.status.Status.{Status}
use Rattle.requests.specs.declared.status.Status.TheVariants.{Pass, Fail, Profile, Stopped}
use Rattle.subcommands.specs.JobTexts.{IsUntouched}
use Rattle.job_reports.specs.Lines.{verdict_line}

-- what is told so of a job for this printer, from its first panel, where macros may carry out a million items
abbrev pub noted : (ToldNote → List ℕ) → Printer → Rendering
noted write printer = notes_rendering write (with_most_items printer) (first_panel printer)

-- the line of a failure; of a job that was gone through to its end there is none
abbrev pub outcome_line : Outcome → List ℕ
outcome_line Done = []
outcome_line (FailsOf place profile finding) = verdict_line (FailOf place profile finding)

-- the program passes a job of which it has nothing to say
abbrev pub status_of_text : List ℕ → Status
status_of_text [] = Pass
status_of_text (byte ∷ bytes) = Fail

-- A text and an outcome, of every job that may be by what the reads gave, of which each was needed;
-- and of it with the line of the outcome this holds.
pub record TellsExpected (rendering : Rendering) (job job' : SourceState) (P : List ℕ → Type 0) : Type 0 where
  pub text : List ℕ
  pub outcome : Outcome
  pub due : ByReads job job' (λ bytes. IsExpected rendering bytes text outcome)
  pub needed : TextNeedsReads rendering job job'
  pub told : P (text ++ outcome_line outcome)

-- all of it was written, and the status says whether that is something
abbrev pub Told : Status → OutletState → OutletState → List ℕ → Type 0
Told status old new text = (status ≡ status_of_text text) × Adds old new text

-- this text was written, or where work stopped some front
abbrev pub EndsNotes : Status → List ℕ → OutletState → OutletState → Type 0
EndsNotes Pass text old new = Told Pass old new text
EndsNotes Fail text old new = Told Fail old new text
EndsNotes (Stopped Memory) text old new = AddsFront old new text
EndsNotes (Stopped Write) text old new = AddsFront old new text
EndsNotes _ text old new = ⊥

-- What is left for a printer with this fact: all of it, or where work stopped some front;
-- before the job was gone through, of what is due for the bytes that were read.
abbrev pub LeavesNotesOf : Status → (Printer → Type 0) → SourceState → SourceState → OutletState → OutletState → Type 0
LeavesNotesOf (Stopped error) IsPrinter job job' old new =
    (error ≢ NoProfile) × (error ≢ Items) × (printer : Printer) × IsPrinter printer
    × (WritesFront (noted note_line printer) job job' old new
    ⊎ TellsExpected (noted note_line printer) job job' (AddsFront old new))
LeavesNotesOf status IsPrinter job job' old new =
    (printer : Printer) × IsPrinter printer
    × TellsExpected (noted note_line printer) job job' (Told status old new)

-- what `notes` leaves on standard output where it ends by this status
abbrev pub LeavesNotes : Status → (Printer → Type 0) → SourceState → SourceState → OutletState → OutletState → Type 0
LeavesNotes (Profile number line cause) IsPrinter job job' old new = IsUntouched job job' old new
LeavesNotes (Stopped error) IsPrinter job job' old new =
    IsUntouched job job' old new ⊎ LeavesNotesOf (Stopped error) IsPrinter job job' old new
LeavesNotes status IsPrinter job job' old new = LeavesNotesOf status IsPrinter job job' old new
