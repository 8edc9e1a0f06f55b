-- Lemmas on the row of a job, for which the job is read again.
use Rattle.std.proofs.Common.{◌≡◌, ℕ, List, [], ◌++◌, Option, None, Some, Result, Ok, Err, refl, sym, ◌∙◌, ap, append_assoc}
use Rattle.std.proofs.Common.{append-nil, option_map, subst, Bor, length, option_copied, slice_get}
use Rattle.std.proofs.lemmas.Option.{slice_get_past, slice_get_read}
use Rattle.std.specs.Slice.{IsItemAt}
use Rattle.device_profile.specs.Printer.{Printer}
use Rattle.judgement.specs.declared.failing_item.Judgement.{Judgement}
use Rattle.streams.specs.declared.error.Error.{Error}
use Rattle.streams.specs.declared.error.Error.TheVariants.{Memory, Read, Write, Turns, NoProfile, Items}
use Rattle.streams.specs.Ended.{JobRead}
use Rattle.streams.specs.Outlet.{OutletState, Adds, AddsFront}
use Rattle.streams.specs.Pieces.{ByReads}
use Rattle.streams.specs.Source.{SourceState}
use Rattle.renderings.specs.declared.outcome.Outcome.{Outcome}
use Rattle.renderings.specs.Expected.{IsExpected, Rendering, Renders}
use Rattle.named_inputs.specs.KeptText.{kept_error}
use Rattle.notes.specs.Note.{Told}
use Rattle.job_reports.specs.Groups.{Groups}
use Rattle.job_reports.specs.Reports.{verdict_told}
use Rattle.job_rows.specs.Rows.{PartsTold}
use Rattle.many_jobs.specs.JobChecks.{AddsRow, AddsTold, CutsRow, CutsTold, ending_of, work, worse}
use Rattle.many_jobs.specs.JobNoting.{AreRightNotes, IsRightlyNoted, Noted, ending_of_noted, note_printer, noted_after}
use Rattle.many_jobs.specs.JobRow.{IsReread, IsRightText, Reread, Rereads, RereadsNotes, RowRead, ending_of_kept, near_of_job}
use Rattle.many_jobs.specs.JobRow.{page_of_job, parts_of, parts_with, reread_after, row_afters, row_with}
use Rattle.many_jobs.specs.NoteReports.{subject_of, told_note}
use Rattle.many_jobs.specs.Telling.{HowTold}
use Rattle.many_jobs.specs.declared.ending.Ending.{Ending}

-- ---- a text that is kept in memory

module _ (rendering : Rendering) (job job' : SourceState) (kept kept' : OutletState) where
  pub text_had : (outcome : Outcome) (text : List ℕ) → Renders rendering job job' kept kept' (Ok outcome) → kept.taken ≡ [] →
      text ≡ kept'.taken → IsRightText rendering job job' (Ok text)
  text_had outcome text rendered empty is =
      let due = rendered.written in
      let text_is : due.text ≡ text = sym (is ∙ (due.adds.taken ∙ ap (λ l. l ++ due.text) empty)) in
      record {
        due = (outcome, subst (λ (t : List ℕ). ByReads job job' (λ bytes. IsExpected rendering bytes t outcome)) text_is due.due);
        needed = due.needed;
        error = tt;
        read = rendered.read;
      }

  pub text_stopped : (error : Error) → Renders rendering job job' kept kept' (Err error) →
      IsRightText rendering job job' (Err (kept_error error))
  text_stopped Memory rendered = record { due = tt; needed = tt; error = tt; read = rendered.read }
  text_stopped Read rendered = record { due = tt; needed = tt; error = tt; read = rendered.read }
  text_stopped Write rendered = record { due = tt; needed = tt; error = tt; read = rendered.read }
  text_stopped Turns rendered = record { due = tt; needed = tt; error = tt; read = rendered.read }
  text_stopped NoProfile rendered = absurd (rendered.never_no_profile refl)
  text_stopped Items rendered = absurd (rendered.never_items refl)

  -- a text that is limited stops at a write for want of memory or at its limit
  pub limited_stopped : (error : Error) → Renders rendering job job' kept kept' (Err error) →
      IsRightText rendering job job' (Err error)
  limited_stopped Memory rendered = record { due = tt; needed = tt; error = tt; read = rendered.read }
  limited_stopped Read rendered = record { due = tt; needed = tt; error = tt; read = rendered.read }
  limited_stopped Write rendered = record { due = tt; needed = tt; error = tt; read = rendered.read }
  limited_stopped Turns rendered = record { due = tt; needed = tt; error = tt; read = rendered.read }
  limited_stopped NoProfile rendered = absurd (rendered.never_no_profile refl)
  limited_stopped Items rendered = absurd (rendered.never_items refl)

-- ---- the printer that a page is drawn for

-- what a slice has at a place
pub copied_at : {X : Type 0} (xs : List X) (i : ℕ) (found : Option (Bor X)) → IsItemAt xs i found → option_copied found ≡ slice_get xs i
copied_at xs i None item = sym (slice_get_past xs i item.3)
copied_at xs i (Some x) item = sym (slice_get_read xs (length xs) i x.now refl item.3.0 item.1)

-- ---- a further reading, as it stands in a line

module _ (write : Told → List ℕ) (start : SourceState) (job : List ℕ) (ended ended' : List JobRead) where
  noted_of : (printer : Option Printer) (notes : Option (Result (List ℕ) Error)) →
      RereadsNotes (λ printer after notes. AreRightNotes write printer start after notes) job printer notes ended ended' →
      (noted : Option Noted) × IsRightlyNoted write start printer noted × (notes ≡ option_map (λ (n : Noted). n.notes) noted)
      × (ended' ≡ ended ++ noted_after job noted) × (ending_of_kept notes ≡ ending_of_noted noted)
  noted_of None None same = (None, tt, refl, same ∙ sym (append-nil ended), refl)
  noted_of None (Some notes) never = absurd never
  noted_of (Some printer) None never = absurd never
  noted_of (Some printer) (Some notes) read =
      (Some (record { after = read.0; notes = notes; cause = None }), read.1, refl, read.2, refl)

module _ (start : SourceState) (job : List ℕ) (ended ended' : List JobRead) where
  reread_of : (due : Option Rendering) (text : Option (Result (List ℕ) Error)) → Rereads due start job text ended ended' →
      (read : Option Reread) × IsReread due start read × (text ≡ option_map (λ (r : Reread). r.text) read)
      × (ended' ≡ ended ++ reread_after job read)
  reread_of None None same = (None, tt, refl, same ∙ sym (append-nil ended))
  reread_of None (Some text) never = absurd never
  reread_of (Some rendering) None never = absurd never
  reread_of (Some rendering) (Some text) read = (Some (record { after = read.0; text = text }), read.1, refl, read.2)

-- ---- a row

module _ (group : Groups) (telling : HowTold) (start : SourceState) (job : List ℕ) (answer : Result Judgement Error) where
  abbrev write_note : Told → List ℕ
  write_note = told_note telling (subject_of group job)

  -- what was read for a row of these parts, one reading behind another
  abbrev pub HasRead : (notes near page : Option (Result (List ℕ) Error)) → (ended ended' : List JobRead) → Type 0
  HasRead notes near page ended ended' =
      (row : RowRead) × IsRightlyNoted write_note start (note_printer (verdict_told answer) group.note_printers) row.noted
      × IsReread (near_of_job telling job answer) start row.near × IsReread (page_of_job telling group job answer) start row.page
      × (parts_with telling job notes near page ≡ parts_of telling job row.noted row.near row.page)
      × (ended' ≡ ended ++ row_afters job row.noted row.near row.page) × (ending_of_kept notes ≡ ending_of_noted row.noted)

  pub has_read : (notes near page : Option (Result (List ℕ) Error)) (ended first second third : List JobRead) →
      RereadsNotes (λ printer after notes. AreRightNotes write_note printer start after notes) job
      (note_printer (verdict_told answer) group.note_printers) notes ended first →
      Rereads (near_of_job telling job answer) start job near first second →
      Rereads (page_of_job telling group job answer) start job page second third → HasRead notes near page ended third
  has_read notes near page ended first second third noting listing drawing =
      let n = noted_of write_note start job ended first (note_printer (verdict_told answer) group.note_printers) notes noting in
      let r = reread_of start job first second (near_of_job telling job answer) near listing in
      let p = reread_of start job second third (page_of_job telling group job answer) page drawing in
      let row : RowRead = record { noted = n.0; near = r.0; page = p.0 } in
      let notes_of = option_map (λ (n : Noted). n.notes) n.0 in
      let near_text = option_map (λ (r : Reread). r.text) r.0 in (
        row,
        n.1,
        r.1,
        p.1,
        ap (λ (t : Option (Result (List ℕ) Error)). parts_with telling job t near page) n.2
            ∙ ap (λ (t : Option (Result (List ℕ) Error)). parts_with telling job notes_of t page) r.2
            ∙ ap (λ (t : Option (Result (List ℕ) Error)). parts_with telling job notes_of near_text t) p.2,
        p.3 ∙ ap (λ es. es ++ reread_after job p.0) (r.3 ∙ ap (λ es. es ++ reread_after job r.0) n.3)
            ∙ ap (λ es. es ++ reread_after job p.0) (append_assoc ended (noted_after job n.0) (reread_after job r.0))
            ∙ append_assoc ended (noted_after job n.0 ++ reread_after job r.0) (reread_after job p.0),
        n.4,
      )

  module _ (notes near page : Option (Result (List ℕ) Error)) (ended ended' : List JobRead)
      (read : HasRead notes near page ended ended') (out out' : OutletState) where
    abbrev text_with : PartsTold → Option (List ℕ) → List ℕ
    text_with parts cause = row_with telling group job answer cause parts

    -- it was written
    pub row_adds : (ending : Ending) → ending ≡ worse (ending_of telling answer) (ending_of_kept notes) →
        AddsTold (text_with (parts_with telling job notes near page)) out out' →
        AddsRow group telling start job answer (work out ended) (work out' ended') ending
    row_adds ending is adds = (
      read.0,
      is ∙ ap (worse (ending_of telling answer)) read.6,
      record {
        noted = read.1;
        near = read.2;
        page = read.3;
        cause = adds.0;
        written = subst (λ (parts : PartsTold). Adds out out' (text_with parts adds.0)) read.4 adds.1;
        ended = read.5;
      },
    )

    -- it is not there whole
    pub row_cuts : (error : Error) → CutsTold error (text_with (parts_with telling job notes near page)) out out' →
        CutsRow error group telling start job answer (work out ended) (work out' ended')
    row_cuts Memory same = (read.0, same, read.5)
    row_cuts Write cut = (
      read.0,
      record {
        noted = read.1;
        near = read.2;
        page = read.3;
        cause = cut.0;
        written = subst (λ (parts : PartsTold). AddsFront out out' (text_with parts cut.0)) read.4 cut.1;
        ended = read.5;
      },
    )
    row_cuts Read cut = absurd cut
    row_cuts Turns cut = absurd cut
    row_cuts NoProfile cut = absurd cut
    row_cuts Items cut = absurd cut
