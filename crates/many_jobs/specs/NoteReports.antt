-- How the notes of a job are told, in a check of many jobs.
use Rattle.std.specs.Prelude.{ℕ, List, [], ◌∷◌, ◌++◌, codes, decimal, get_or}
use Rattle.serde_json.specs.Data.{object, Members, no_members}
use Rattle.serde_json.specs.Written.{compact_text}
use Rattle.line_words.specs.Figures.{named}
use Rattle.notes.specs.declared.note.Note.{Note}
use Rattle.notes.specs.Note.{Told, note_name, note_number, short_note}
use Rattle.meanings.specs.Explanations.{explained_by}
use Rattle.job_reports.specs.Groups.{Groups}
use Rattle.shown_bytes.specs.Shown.{shown}
use Rattle.many_jobs.specs.JobObjects.{with_explanation}
use Rattle.job_reports.specs.JobSentences.{named_first}
use Rattle.job_rows.specs.Heads.{note_part}
use Rattle.many_jobs.specs.JsonObject.{with_number, with_text}
use Rattle.many_jobs.specs.JsonTexts.{name_text, words_text}
use Rattle.many_jobs.specs.Telling.{HowTold}
use Rattle.many_jobs.specs.declared.telling.Format.{Format}
use Rattle.many_jobs.specs.declared.telling.Format.TheVariants.{Line, Words, Json, Html}

-- what notes are about: a job, and a printer by its name
pub record NoteSubject : Type 0 where
  pub job : List ℕ
  pub printer : List ℕ

-- a job on the first printer of a group
abbrev pub subject_of : Groups → List ℕ → NoteSubject
subject_of group job = record { job = job; printer = get_or group.names 0 [] }

-- the number and the name of a note
abbrev pub note_words : Note → List ℕ
note_words note = decimal (note_number note) ++ codes " " ++ note_name note

-- ---- a line: `NOTE at=0 printer=front-desk 101 OpenStart in/x.pcl`

abbrev pub told_line : NoteSubject → Told → List ℕ
told_line subject told =
    named (codes "NOTE at=") told.place ++ codes " printer=" ++ subject.printer
    ++ codes " " ++ note_words told.note ++ codes " " ++ shown subject.job ++ codes "\n"

-- ---- a sentence: the job's name, the printer, and the note in short words and as a line has it

abbrev pub note_phrase : Note → List ℕ
note_phrase note = codes ": " ++ short_note note ++ codes " (" ++ note_words note ++ codes ")"

abbrev pub told_sentence : NoteSubject → Told → List ℕ
told_sentence subject told =
    named_first subject.job ++ subject.printer ++ named (codes " has a note at byte ") told.place
    ++ note_phrase told.note ++ codes "\n"

-- ---- an object of JSON on a line

abbrev pub told_members : List ℕ → NoteSubject → Told → Members
told_members explanation subject told =
    with_explanation explanation
    (with_text (codes "note") (words_text (note_name told.note)) (with_number (codes "code") (note_number told.note)
    (with_number (codes "at") told.place
    (with_text (codes "printer") (name_text subject.printer)
    (with_text (codes "job") (name_text subject.job) no_members)))))

abbrev pub told_object : List ℕ → NoteSubject → Told → List ℕ
told_object explanation subject told = compact_text (object (told_members explanation subject told)) ++ 10 ∷ []

-- ---- with the explanation of the note, below a line or a sentence, or in an object, or below a row

abbrev pub told_in : Format → List ℕ → NoteSubject → Told → List ℕ
told_in Line below subject told = told_line subject told ++ below
told_in Words below subject told = told_sentence subject told ++ below
told_in (Json alloc) below subject told = told_object below subject told
told_in Html below subject told = note_part below (told_sentence subject told)

abbrev pub told_note : HowTold → NoteSubject → Told → List ℕ
told_note telling subject told =
    told_in telling.format (explained_by (decimal (note_number told.note)) telling.explanations) subject told
