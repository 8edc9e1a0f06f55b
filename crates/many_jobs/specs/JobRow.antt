-- What further readings of a job tell in its row, in a document of many jobs.
use Rattle.std.specs.Prelude.{◌≡◌, ◌-◌, ◌&&◌, ◌||◌, nat_le, ℕ, Bool, false, List, [], ◌∷◌, ◌++◌, slice_get}
use Rattle.std.specs.Prelude.{option_map, Option, None, Some, Result, Ok, Err, IfOk, IfErr, ⊤, if◌then◌else◌}
use Rattle.std.specs.List.{list_any}
use Rattle.std.specs.Str.{bytes_eq}
use Rattle.pcl_items.specs.Items.{Placed}
use Rattle.device_profile.specs.Printer.{Printer, first_panel}
use Rattle.streams.specs.declared.error.Error.{Error}
use Rattle.streams.specs.declared.error.Error.TheVariants.{Memory, Read, Write, Turns, NoProfile, Items}
use Rattle.streams.specs.Ended.{JobRead, job_read}
use Rattle.streams.specs.Errors.{is_err_of_read}
use Rattle.streams.specs.Pieces.{ByReads}
use Rattle.streams.specs.Source.{SourceState}
use Rattle.verdict.specs.declared.verdict.Verdict.{Verdict}
use Rattle.verdict.specs.declared.verdict.Verdict.TheVariants.{Pass, Fail}
use Rattle.judgement.specs.declared.failing_item.Judgement.{Judgement}
use Rattle.line_words.specs.ItemLines.{item_line}
use Rattle.renderings.specs.declared.outcome.Outcome.{Outcome}
use Rattle.renderings.specs.Expected.{IsExpected, Rendering, TextNeedsReads, item_by_item}
use Rattle.requests.specs.declared.selection.DrawnPages.TheVariants.{One}
use Rattle.job_picture.specs.JobPicture.{picture_rendering}
use Rattle.job_reports.specs.Groups.{Groups, reported}
use Rattle.job_reports.specs.Reports.{number_told, verdict_told}
use Rattle.job_rows.specs.Links.{DocumentTold}
use Rattle.job_rows.specs.Rows.{PartsTold, row_text}
use Rattle.named_inputs.specs.FileJobs.{is_input}
use Rattle.many_jobs.specs.JobNoting.{Noted, ending_of_notes, noted_after}
use Rattle.many_jobs.specs.Telling.{HowTold, explained}
use Rattle.many_jobs.specs.declared.ending.Ending.{Ending}
use Rattle.many_jobs.specs.declared.ending.Ending.TheVariants.{Passes}

-- ---- a further reading

-- what it led to, and the text that it gave, or why there is none
pub record Reread : Type 0 where
  pub after : SourceState
  pub text : Result (List ℕ) Error

-- why there is no text; a write fails where the text would be too long for a row
abbrev pub IsErrorOfReread : Error → Type 0
IsErrorOfReread Memory = ⊤
IsErrorOfReread Read = ⊤
IsErrorOfReread Write = ⊤
IsErrorOfReread Turns = ⊤
IsErrorOfReread NoProfile = ⊥
IsErrorOfReread Items = ⊥

-- Of every job that may be by what the reading gave, the text is what is due, and each read was needed.
-- An error is that of a read exactly where one failed.
pub record IsRightText (rendering : Rendering) (start after : SourceState) (text : Result (List ℕ) Error) : Type 0 where
  pub due : IfOk text (λ bytes. (outcome : Outcome) ×
      ByReads start after (λ job. IsExpected rendering job bytes outcome))
  pub needed : IfOk text (λ bytes. TextNeedsReads rendering start after)
  pub error : IfErr text IsErrorOfReread
  pub read : after.failed ≡ is_err_of_read text

-- a job is read again just where something is due of it
abbrev pub IsReread : Option Rendering → SourceState → Option Reread → Type 0
IsReread None start None = ⊤
IsReread None start (Some read) = ⊥
IsReread (Some rendering) start None = ⊥
IsReread (Some rendering) start (Some read) = IsRightText rendering start read.after read.text

-- the further reading of a job, where there was one
abbrev pub reread_after : List ℕ → Option Reread → List JobRead
reread_after job None = []
reread_after job (Some read) = job_read job read.after ∷ []

-- so a reading of a job is told of by its text, and by the jobs that were ended before it and behind it
abbrev pub Rereads : Option Rendering → SourceState → (job : List ℕ) → Option (Result (List ℕ) Error) →
    (ended ended' : List JobRead) → Type 0
Rereads None start job None ended ended' = ended' ≡ ended
Rereads None start job (Some text) ended ended' = ⊥
Rereads (Some rendering) start job None ended ended' = ⊥
Rereads (Some rendering) start job (Some text) ended ended' =
    (after : SourceState) × IsRightText rendering start after text × (ended' ≡ ended ++ job_read job after ∷ [])

-- and one for notes
abbrev pub RereadsNotes : ((printer : Printer) → (after : SourceState) → Result (List ℕ) Error → Type 0) →
    (job : List ℕ) → Option Printer → Option (Result (List ℕ) Error) → (ended ended' : List JobRead) → Type 0
RereadsNotes AreRight job None None ended ended' = ended' ≡ ended
RereadsNotes AreRight job None (Some notes) ended ended' = ⊥
RereadsNotes AreRight job (Some printer) None ended ended' = ⊥
RereadsNotes AreRight job (Some printer) (Some notes) ended ended' =
    (after : SourceState) × AreRight printer after notes × (ended' ≡ ended ++ job_read job after ∷ [])

-- how notes count that are told in a row
abbrev pub ending_of_kept : Option (Result (List ℕ) Error) → Ending
ending_of_kept None = Passes
ending_of_kept (Some notes) = ending_of_notes notes

-- ---- jobs that can be read only once

abbrev pub has_name : (job name : List ℕ) → Bool
has_name job name = bytes_eq name job

-- the job is one of these
abbrev pub is_among : (names : List (List ℕ)) → (job : List ℕ) → Bool
is_among names job = list_any (has_name job) names

-- it is standard input, or one of those that can be read only once
abbrev pub is_read_once : HowTold → (job : List ℕ) → Bool
is_read_once telling job = is_input job || is_among telling.read_once job

-- where the document of a job is: in the folder that has those of jobs that can be read again
abbrev pub document_in : (folder job : List ℕ) → DocumentTold
document_in folder job = record { folder = folder; job = job }

abbrev pub document_of : HowTold → (job : List ℕ) → Option DocumentTold
document_of telling job =
    if is_read_once telling job then None else option_map (λ folder. document_in folder job) telling.documents

-- ---- the picture of a page

-- from the first panel of a printer
abbrev pub page_rendering : Printer → (page : ℕ) → Rendering
page_rendering printer page =
    picture_rendering printer (first_panel printer) (record { pages = One page; has_boxes = false }) []

-- the first page of a job that passes, and else the one that is open where it fails
abbrev pub page_of_verdict : Verdict → Option ℕ → Option ℕ
page_of_verdict (Pass pages marks) page = Some 1
page_of_verdict (Fail place profile reason) page = page

abbrev pub page_shown : Result Judgement Error → Option ℕ
page_shown (Ok judgement) = page_of_verdict judgement.verdict judgement.page
page_shown (Err error) = None

-- the printer for which it fails, and else the first of the group
abbrev pub printer_shown : Result Verdict Error → List Printer → Option Printer
printer_shown answer fleet = slice_get fleet (number_told false answer - 1)

abbrev pub drawn_by : Option ℕ → Option Printer → Option Rendering
drawn_by (Some page) (Some printer) = Some (page_rendering printer page)
drawn_by (Some page) None = None
drawn_by None printer = None

-- what is drawn of a job
abbrev pub page_of_job : HowTold → Groups → (job : List ℕ) → Result Judgement Error → Option Rendering
page_of_job telling group job answer =
    if is_read_once telling job then None
    else drawn_by (page_shown answer) (printer_shown (verdict_told answer) group.fleet)

-- ---- the items near the place at which a job fails

abbrev pub is_near : (place x : ℕ) → Bool
is_near place x = nat_le (place - 40) x && nat_le (x - 16) place

-- an item that is near has its line, as in a list
abbrev pub near_line : (place : ℕ) → Placed → List ℕ
near_line place x = if is_near place x.place then item_line x else []

abbrev pub near_rendering : (place : ℕ) → Rendering
near_rendering place = item_by_item (near_line place)

abbrev pub place_shown : Result Verdict Error → Option ℕ
place_shown (Ok (Pass pages marks)) = None
place_shown (Ok (Fail place profile reason)) = Some place
place_shown (Err error) = None

abbrev pub near_of_job : HowTold → (job : List ℕ) → Result Judgement Error → Option Rendering
near_of_job telling job answer =
    if is_read_once telling job then None else option_map near_rendering (place_shown (verdict_told answer))

-- ---- the row

-- what was read for it
pub record RowRead : Type 0 where
  pub noted : Option Noted
  pub near : Option Reread
  pub page : Option Reread

-- the readings for it, under the job's name
abbrev pub row_afters : List ℕ → Option Noted → Option Reread → Option Reread → List JobRead
row_afters job noted near page = noted_after job noted ++ reread_after job near ++ reread_after job page

-- these parts, of a job that can be read only once just where it is one of those, and else with its document
abbrev pub parts_with : HowTold → (job : List ℕ) → (notes near page : Option (Result (List ℕ) Error)) → PartsTold
parts_with telling job notes near page =
    record {
      notes = notes;
      near = near;
      page = page;
      is_once = is_read_once telling job;
      document = document_of telling job;
    }

abbrev pub parts_of : HowTold → (job : List ℕ) → Option Noted → Option Reread → Option Reread → PartsTold
parts_of telling job noted near page =
    parts_with telling job (option_map (λ (n : Noted). n.notes) noted) (option_map (λ (r : Reread). r.text) near)
    (option_map (λ (r : Reread). r.text) page)

abbrev pub row_with : HowTold → Groups → (job : List ℕ) → Result Judgement Error → Option (List ℕ) → PartsTold → List ℕ
row_with telling group job answer cause parts =
    row_text (explained telling.explanations (verdict_told answer)) (reported group job answer cause) parts

-- with what the system said of a read that failed
abbrev pub row_told : HowTold → Groups → (job : List ℕ) → Result Judgement Error → Option (List ℕ) → Option Noted →
    Option Reread → Option Reread → List ℕ
row_told telling group job answer cause noted near page =
    row_with telling group job answer cause (parts_of telling job noted near page)
