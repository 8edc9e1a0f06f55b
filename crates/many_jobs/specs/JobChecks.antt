-- What a check of many jobs leaves.
use Rattle.std.specs.Prelude.{◌≡◌, ◌⊎◌, ℕ, ◌&&◌, false, List, [], ◌∷◌, ◌++◌, flat_map, map, fold, IsErrOf, Option, None}
use Rattle.std.specs.Prelude.{Contains, Some, Result, Ok, Err, IfOk, IfErr, ⊤, if◌then◌else◌}
use Rattle.std.specs.List.{AllByRecursion, range_with_len}
use Rattle.device_profile.specs.Printer.{Printer}
use Rattle.streams.specs.declared.error.Error.{Error}
use Rattle.streams.specs.declared.error.Error.TheVariants.{Memory, Read, Write, Turns, NoProfile, Items}
use Rattle.judgement.specs.declared.failing_item.FailingItem.{FailingItem}
use Rattle.judgement.specs.declared.failing_item.Judgement.{Judgement}
use Rattle.judgement.specs.FailingItem.{IsTold}
use Rattle.preflight.specs.Stood.{IsCursorOf, IsFontOf}
use Rattle.preflight.specs.Where.{IsOnPage}
use Rattle.streams.specs.Errors.{is_err_of_read}
use Rattle.judgement.specs.Verdict.{PassesItems}
use Rattle.renderings.specs.Expected.{Rendering}
use Rattle.verdict.specs.declared.verdict.Verdict.{Verdict}
use Rattle.verdict.specs.Limits.{has_many_items}
use Rattle.verdict.specs.declared.verdict.Verdict.TheVariants.{Pass as PassOf, Fail as FailOf}
use Rattle.streams.specs.Ended.{JobRead, job_read}
use Rattle.streams.specs.Pieces.{ByReads}
use Rattle.streams.specs.Outlet.{OutletState, Adds, AddsFront}
use Rattle.streams.specs.Source.{SourceState}
use Rattle.job_reports.specs.Right.{IsRightVerdict}
use Rattle.job_reports.specs.Groups.{Groups, group_at, group_count, reported}
use Rattle.many_jobs.specs.JobNoting.{AreRightNotes, IsRightlyNoted, Noted, ending_of_noted, note_printer}
use Rattle.many_jobs.specs.JobNoting.{noted_text, notes_text}
use Rattle.many_jobs.specs.JobRow.{IsReread, Reread, RowRead, near_of_job, page_of_job, row_afters, row_told}
use Rattle.many_jobs.specs.NoteReports.{subject_of, told_note}
use Rattle.job_reports.specs.declared.kind.Kind.{Kind}
use Rattle.job_reports.specs.Kinds.{is_unchecked, kind_of}
use Rattle.job_reports.specs.Reports.{verdict_told}
use Rattle.many_jobs.specs.Telling.{HowTold, is_html, report_text}
use Rattle.many_jobs.specs.declared.ending.Ending.{Ending}
use Rattle.many_jobs.specs.declared.ending.Ending.TheVariants.{Passes, Fails, HasNoVerdict}

-- ---- one job, for one group of printers

-- why a job has no verdict
abbrev pub IsErrorOfJob : Error → Type 0
IsErrorOfJob Memory = ⊤
IsErrorOfJob Read = ⊤
IsErrorOfJob Turns = ⊤
IsErrorOfJob Write = ⊥
IsErrorOfJob NoProfile = ⊥
IsErrorOfJob Items = ⊤

-- What came of a job of which the reads led from the one state to the other: a verdict that is right for this fleet,
-- with the item that stands at its place, the page that is open there, and where it is told where the cursor stood and
-- which font was asked for; or an error, which is that of a read exactly where one failed. Where the verdict is that
-- macros carry out more items than the printers allow, it is an error.
pub record IsRightAnswer (fleet : List Printer) (start after : SourceState)
    (answer : Result Judgement Error) : Type 0 where
  pub verdict : IfOk answer (λ judgement. IsRightVerdict start after fleet judgement.verdict)
  pub item : IfOk answer (λ judgement. ByReads start after (λ job. IsTold job judgement.verdict judgement.failing_item))
  pub page : IfOk answer (λ judgement. ByReads start after (λ job. IsOnPage fleet job judgement.verdict judgement.page))
  pub cursor : IfOk answer (λ judgement.
      ByReads start after (λ job. IsCursorOf fleet job judgement.verdict judgement.cursor))
  pub font : IfOk answer (λ judgement.
      ByReads start after (λ job. IsFontOf fleet job judgement.verdict judgement.font))
  pub error : IfErr answer IsErrorOfJob
  pub within : IfOk answer (λ judgement. has_many_items judgement.verdict ≡ false)
  pub items : IsErrOf answer Items → PassesItems fleet start after
  pub read : after.failed ≡ is_err_of_read answer

-- how a failure of this kind counts for the exit status
abbrev pub ending_of_kind : HowTold → Kind → Ending
ending_of_kind telling kind =
    if telling.exit_zero then Passes
    else (if telling.passes_unchecked && is_unchecked kind then Passes else Fails)

-- how a verdict does, with the item at the place of a FAIL
abbrev pub ending_of_verdict : HowTold → Option FailingItem → Verdict → Ending
ending_of_verdict telling failing_item (PassOf pages marks) = Passes
ending_of_verdict telling failing_item (FailOf place profile reason) =
    ending_of_kind telling (kind_of reason failing_item)

-- how an answer does
abbrev pub ending_of : HowTold → Result Judgement Error → Ending
ending_of telling (Ok judgement) = ending_of_verdict telling judgement.failing_item judgement.verdict
ending_of telling (Err error) = HasNoVerdict

-- the greater one
abbrev pub worse : Ending → Ending → Ending
worse Passes ending = ending
worse Fails Passes = Fails
worse Fails Fails = Fails
worse Fails HasNoVerdict = HasNoVerdict
worse HasNoVerdict ending = HasNoVerdict

-- why no line could be written
abbrev pub IsErrorOfLine : Error → Type 0
IsErrorOfLine Memory = ⊤
IsErrorOfLine Write = ⊤
IsErrorOfLine Read = ⊥
IsErrorOfLine Turns = ⊥
IsErrorOfLine NoProfile = ⊥
IsErrorOfLine Items = ⊥

-- ---- lines

-- what stands written, and the jobs that were ended, under their names
pub record Work : Type 0 where
  pub out : OutletState
  pub ended : List JobRead

abbrev pub work : OutletState → List JobRead → Work
work out ended = record { out = out; ended = ended }

-- a line, and what stands below it: the job, the number of the group from 0, what reading the job led to, what came of
-- it, what the system said of a read that failed, what came of the notes where they are told, and in a document what
-- came of the items near the place at which it fails, and of the picture of a page
pub record CheckLine : Type 0 where
  pub job : List ℕ
  pub group : ℕ
  pub after : SourceState
  pub answer : Result Judgement Error
  pub cause : Option (List ℕ)
  pub noted : Option Noted
  pub near : Option Reread
  pub page : Option Reread

-- in a document a line is a row, which has all of that
abbrev pub line_text : Groups → HowTold → CheckLine → List ℕ
line_text groups telling line =
    let group = group_at groups line.group in
    if is_html telling.format
    then row_told telling group line.job line.answer line.cause line.noted line.near line.page
    else (report_text telling (reported group line.job line.answer line.cause)
    ++ noted_text telling group line.job line.noted)

-- its answer is right for its group, where reading the job began as this says
abbrev pub IsAnswered : Groups → (List ℕ → SourceState) → CheckLine → Type 0
IsAnswered groups start line = IsRightAnswer (group_at groups line.group).fleet (start line.job) line.after line.answer

-- this is due in a document, and in no other form
abbrev pub in_document : HowTold → Option Rendering → Option Rendering
in_document telling due = if is_html telling.format then due else None

-- and so are the notes for its first printer, which there are just where they are told and the job passes; and in a
-- document the items near the place at which the job fails, and the picture of a page
abbrev pub IsRightLine : Groups → HowTold → (List ℕ → SourceState) → CheckLine → Type 0
IsRightLine groups telling start line =
    let group = group_at groups line.group in
    IsAnswered groups start line
    × IsRightlyNoted (told_note telling (subject_of group line.job)) (start line.job)
    (note_printer (verdict_told line.answer) group.note_printers) line.noted
    × IsReread (in_document telling (near_of_job telling line.job line.answer)) (start line.job) line.near
    × IsReread (in_document telling (page_of_job telling group line.job line.answer)) (start line.job) line.page

abbrev pub keyed : List ℕ → ℕ → List ℕ × ℕ
keyed job number = (job, number)

-- which lines are due: for each job one for each group
abbrev pub due_of : Groups → List ℕ → List (List ℕ × ℕ)
due_of groups job = map (keyed job) (range_with_len 0 (group_count groups))

-- the readings of a job, under its name
abbrev pub afters_of : CheckLine → List JobRead
afters_of line = job_read line.job line.after ∷ row_afters line.job line.noted line.near line.page

abbrev pub afters : List CheckLine → List JobRead
afters lines = flat_map afters_of lines

-- these lines stand there, one for each that is due, each right for what its job gave
pub record TellsLines (groups : Groups) (telling : HowTold) (start : List ℕ → SourceState) (due : List (List ℕ × ℕ))
    (lines : List CheckLine) (old new : Work) : Type 0 where
  pub in_order : map (λ line. (line.job, line.group)) lines ≡ due
  pub right : AllByRecursion (IsRightLine groups telling start) lines
  pub written : Adds old.out new.out (flat_map (line_text groups telling) lines)
  pub ended : new.ended ≡ old.ended ++ afters lines

-- how a line counts, with its notes
abbrev pub ending_of_line : HowTold → CheckLine → Ending
ending_of_line telling line = worse (ending_of telling line.answer) (ending_of_noted line.noted)

abbrev pub worst : HowTold → List CheckLine → Ending
worst telling lines = fold (λ ending line. worse ending (ending_of_line telling line)) Passes lines

-- all lines that are due stand there, and the ending is the worst of theirs
abbrev pub TellsAll : Groups → HowTold → List (List ℕ × ℕ) → (List ℕ → SourceState) → Ending → Work → Work → Type 0
TellsAll groups telling due start ending old new =
    (lines : List CheckLine) × TellsLines groups telling start due lines old new
    × (ending ≡ worst telling lines)

-- each line is right, but the last one may lack its notes
abbrev pub AreRightToCut : Groups → HowTold → (List ℕ → SourceState) → List CheckLine → Type 0
AreRightToCut groups telling start [] = ⊤
AreRightToCut groups telling start (line ∷ lines) =
    (IsRightLine groups telling start line ⊎ (IsAnswered groups start line × (line.noted ≡ None) × (lines ≡ [])))
    × AreRightToCut groups telling start lines

-- the job of a line that is due
abbrev pub job_due : List ℕ × ℕ → List ℕ
job_due due = due.0

-- these are readings of jobs of lines that are due
abbrev pub AreOfDue : List (List ℕ × ℕ) → List JobRead → Type 0
AreOfDue due reads = AllByRecursion (λ (read : JobRead). Contains (map job_due due) read.name) reads

-- Some first lines of those that are due are right, and a front of their text stands there;
-- of the next job, or of the notes of the last one, perhaps there was no memory for the line.
pub record TellsFront (groups : Groups) (telling : HowTold) (start : List ℕ → SourceState) (due : List (List ℕ × ℕ))
    (old new : Work) : Type 0 where
  pub lines : List CheckLine
  pub later : List (List ℕ × ℕ)
  pub untold : List JobRead
  pub of_due : AreOfDue due untold
  pub in_order : map (λ line. (line.job, line.group)) lines ++ later ≡ due
  pub right : AreRightToCut groups telling start lines
  pub written : AddsFront old.out new.out (flat_map (line_text groups telling) lines)
  pub ended : new.ended ≡ old.ended ++ (afters lines ++ untold)

-- ---- one line

-- a text that has what the system said of a read that failed was written
abbrev pub AddsTold : (Option (List ℕ) → List ℕ) → OutletState → OutletState → Type 0
AddsTold text out out' = (cause : Option (List ℕ)) × Adds out out' (text cause)

-- there was no memory for such a text, and nothing was written; or a front of it was
abbrev pub CutsTold : Error → (Option (List ℕ) → List ℕ) → OutletState → OutletState → Type 0
CutsTold Memory text out out' = out' ≡ out
CutsTold Write text out out' = (cause : Option (List ℕ)) × AddsFront out out' (text cause)
CutsTold _ text out out' = ⊥

-- what came of the notes of a job for this printer is right, and so is what was written of it
pub record TellsNotes (group : Groups) (telling : HowTold) (printer : Printer) (start : SourceState) (job : List ℕ)
    (old new : Work) (Written : List ℕ → Type 0) (noted : Noted) : Type 0 where
  pub right : AreRightNotes (told_note telling (subject_of group job)) printer start noted.after noted.notes
  pub written : Written (notes_text telling group job noted.notes noted.cause)
  pub ended : new.ended ≡ old.ended ++ job_read job noted.after ∷ []

-- there was no memory for the line of an error, and nothing was written; or a front of what is due was
abbrev pub CutsNotes : Error → Groups → HowTold → Printer → SourceState → List ℕ → Work → Work → Type 0
CutsNotes Memory group telling printer start job old new =
    (after : SourceState) × (new.out ≡ old.out) × (new.ended ≡ old.ended ++ job_read job after ∷ [])
CutsNotes Write group telling printer start job old new =
    (noted : Noted) × TellsNotes group telling printer start job old new (AddsFront old.out new.out) noted
CutsNotes _ group telling printer start job old new = ⊥

-- ---- one row

-- what was read for the row of a job, of which this came, is right, and so is what was written of it
pub record TellsRow (group : Groups) (telling : HowTold) (start : SourceState) (job : List ℕ)
    (answer : Result Judgement Error) (old new : Work) (Written : List ℕ → Type 0) (row : RowRead) : Type 0 where
  pub noted : IsRightlyNoted (told_note telling (subject_of group job)) start
      (note_printer (verdict_told answer) group.note_printers) row.noted
  pub near : IsReread (near_of_job telling job answer) start row.near
  pub page : IsReread (page_of_job telling group job answer) start row.page
  pub cause : Option (List ℕ)
  pub written : Written (row_told telling group job answer cause row.noted row.near row.page)
  pub ended : new.ended ≡ old.ended ++ row_afters job row.noted row.near row.page

-- the whole row was written, and so it counts
abbrev pub AddsRow : Groups → HowTold → SourceState → List ℕ → Result Judgement Error → Work → Work → Ending → Type 0
AddsRow group telling start job answer old new ending =
    (row : RowRead) × (ending ≡ worse (ending_of telling answer) (ending_of_noted row.noted))
    × TellsRow group telling start job answer old new (Adds old.out new.out) row

-- there was no memory for the row, and nothing was written; or a front of it was
abbrev pub CutsRow : Error → Groups → HowTold → SourceState → List ℕ → Result Judgement Error → Work → Work → Type 0
CutsRow Memory group telling start job answer old new =
    (row : RowRead) × (new.out ≡ old.out) × (new.ended ≡ old.ended ++ row_afters job row.noted row.near row.page)
CutsRow Write group telling start job answer old new =
    (row : RowRead) × TellsRow group telling start job answer old new (AddsFront old.out new.out) row
CutsRow _ group telling start job answer old new = ⊥
