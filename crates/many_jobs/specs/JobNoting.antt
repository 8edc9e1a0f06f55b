-- The notes of a job that passes, in a check of many jobs.
use Rattle.std.specs.Prelude.{◌≡◌, ◌≢◌, ◌⊎◌, ℕ, List, [], ◌∷◌, slice_get, Option, None, Some, Result, Ok, Err, IfOk}
use Rattle.std.specs.Prelude.{IfErr, IsErrOf, IsTrue, ⊤}
use Rattle.device_profile.specs.Printer.{Printer, first_panel}
use Rattle.streams.specs.declared.error.Error.{Error}
use Rattle.streams.specs.declared.error.Error.TheVariants.{Memory, Read, Turns}
use Rattle.renderings.specs.declared.outcome.Outcome.{Outcome}
use Rattle.renderings.specs.declared.outcome.Outcome.TheVariants.{Done}
use Rattle.renderings.specs.Expected.{IsExpected, TextNeedsReads, TextStaysOpen}
use Rattle.streams.specs.Ended.{JobRead, job_read}
use Rattle.streams.specs.Pieces.{ByReads}
use Rattle.streams.specs.Source.{SourceState}
use Rattle.verdict.specs.declared.verdict.Verdict.{Verdict}
use Rattle.verdict.specs.declared.verdict.Verdict.TheVariants.{Pass, Fail}
use Rattle.notes.specs.Note.{Told}
use Rattle.notes.specs.Notes.{notes_rendering}
use Rattle.job_reports.specs.Groups.{Groups, reported}
use Rattle.many_jobs.specs.Telling.{HowTold, report_text}
use Rattle.many_jobs.specs.declared.ending.Ending.{Ending}
use Rattle.many_jobs.specs.declared.ending.Ending.TheVariants.{Passes, HasNoVerdict}

-- the printer that notes are told for: the first of these, where the job passes
abbrev pub note_printer : Result Verdict Error → List Printer → Option Printer
note_printer (Ok (Pass pages marks)) printers = slice_get printers 0
note_printer (Ok (Fail place profile reason)) printers = None
note_printer (Err error) printers = None

-- what reading a job a second time came to:
-- what it led to, the text of the notes or why there is none, and what is said of a read that failed
pub record Noted : Type 0 where
  pub after : SourceState
  pub notes : Result (List ℕ) Error
  pub cause : Option (List ℕ)

-- why there are none
abbrev pub IsErrorOfNotes : Error → Type 0
IsErrorOfNotes Memory = ⊤
IsErrorOfNotes Read = ⊤
IsErrorOfNotes Turns = ⊤
IsErrorOfNotes _ = ⊥

-- Of every job that may be by what the second reading gave, this is what is due on this printer from its
-- first panel, and what it comes to.
abbrev pub Comes : (Told → List ℕ) → Printer → (start after : SourceState) → (text : List ℕ) → Outcome → Type 0
Comes write printer start after text outcome =
    ByReads start after (λ job. IsExpected (notes_rendering write printer (first_panel printer)) job text outcome)

-- it does not come to its end, and passed before
abbrev pub IsAnother : (Told → List ℕ) → Printer → (start after : SourceState) → Type 0
IsAnother write printer start after =
    (text : List ℕ) × (outcome : Outcome) × (outcome ≢ Done) × Comes write printer start after text outcome

-- The text is what is due, of a job that comes to its end, and each read was needed.
-- An error is that of a read where one failed, since what is due was still open, and where the job was another.
pub record AreRightNotes (write : Told → List ℕ) (printer : Printer) (start after : SourceState)
    (notes : Result (List ℕ) Error) : Type 0 where
  pub text : IfOk notes (λ text. Comes write printer start after text Done)
  pub needed : IfOk notes (λ text. TextNeedsReads (notes_rendering write printer (first_panel printer)) start after)
  pub error : IfErr notes IsErrorOfNotes
  pub failed : IsTrue after.failed → IsErrOf notes Read
  pub still_open : IsTrue after.failed →
      TextStaysOpen (notes_rendering write printer (first_panel printer)) start after
  pub read : IsErrOf notes Read → IsTrue after.failed ⊎ IsAnother write printer start after

-- a job is read a second time just where there is a printer that notes are told for, and they are right
abbrev pub IsRightlyNoted : (Told → List ℕ) → SourceState → Option Printer → Option Noted → Type 0
IsRightlyNoted write start None None = ⊤
IsRightlyNoted write start None (Some noted) = ⊥
IsRightlyNoted write start (Some printer) None = ⊥
IsRightlyNoted write start (Some printer) (Some noted) = AreRightNotes write printer start noted.after noted.notes

-- the second reading of a job, where there was one
abbrev pub noted_after : List ℕ → Option Noted → List JobRead
noted_after job None = []
noted_after job (Some noted) = job_read job noted.after ∷ []

-- what stands below the line of the job: the notes, or the line of the error
abbrev pub notes_text : HowTold → Groups → List ℕ → Result (List ℕ) Error → Option (List ℕ) → List ℕ
notes_text telling group job (Ok text) cause = text
notes_text telling group job (Err error) cause = report_text telling (reported group job (Err error) cause)

abbrev pub noted_text : HowTold → Groups → List ℕ → Option Noted → List ℕ
noted_text telling group job None = []
noted_text telling group job (Some noted) = notes_text telling group job noted.notes noted.cause

-- how it counts for the exit status: notes change nothing, and where there are none for an error there is no verdict
abbrev pub ending_of_notes : Result (List ℕ) Error → Ending
ending_of_notes (Ok text) = Passes
ending_of_notes (Err error) = HasNoVerdict

abbrev pub ending_of_noted : Option Noted → Ending
ending_of_noted None = Passes
ending_of_noted (Some noted) = ending_of_notes noted.notes
