-- Lemmas on the notes of a job, in a check of many jobs.
use Rattle.std.proofs.Common.{◌≡◌, ℕ, Bool, true, false, List, [], ◌∷◌, ◌++◌, Option, Result, Ok, Err, IfOk, IfErr, refl, sym, ◌∙◌, ap}
use Rattle.std.proofs.Common.{subst, inl, inr, true≢false}
use Rattle.device_profile.specs.declared.panel.Panel.{Panel}
use Rattle.device_profile.specs.Printer.{Printer, first_panel}
use Rattle.streams.specs.declared.error.Error.{Error}
use Rattle.streams.specs.declared.error.Error.TheVariants.{Memory, Read, Write, Turns, NoProfile, Items}
use Rattle.renderings.specs.declared.outcome.Outcome.{Outcome}
use Rattle.renderings.specs.declared.outcome.Outcome.TheVariants.{Done as AllDone, Fail}
use Rattle.renderings.specs.Expected.{IsExpected, Renders, TextNeedsReads, TextStaysOpen}
use Rattle.streams.specs.Errors.{is_err_of_read, is_read}
use Rattle.streams.specs.Outlet.{OutletState, Adds}
use Rattle.streams.specs.Ended.{job_read}
use Rattle.streams.specs.Pieces.{ByReads}
use Rattle.streams.specs.Source.{SourceState}
use Rattle.verdict.specs.declared.reason.Reason.{Reason}
use Rattle.notes.specs.Note.{Told}
use Rattle.notes.specs.Notes.{notes_rendering}
use Rattle.job_reports.specs.Groups.{Groups}
use Rattle.many_jobs.specs.JobChecks.{AddsTold, CutsNotes, CutsTold, TellsNotes, Work}
use Rattle.named_inputs.specs.KeptText.{kept_error}
use Rattle.many_jobs.specs.JobNoting.{AreRightNotes, Comes, IsErrorOfNotes, Noted, ending_of_notes, notes_text}
use Rattle.many_jobs.specs.NoteReports.{subject_of, told_note}
use Rattle.many_jobs.specs.Telling.{HowTold}
use Rattle.many_jobs.specs.declared.ending.Ending.{Ending}

abbrev is_done : Outcome → Bool
is_done AllDone = true
is_done (Fail place profile reason) = false

module _ (write : Told → List ℕ) (printer : Printer) (panel : Panel) (first : panel ≡ first_panel printer) (job job' : SourceState)
    (kept kept' : OutletState) where
  -- what came of the job that was gone through
  comes : (outcome : Outcome) (text : List ℕ) → Renders (notes_rendering write printer panel) job job' kept kept' (Ok outcome) →
      kept.taken ≡ [] → text ≡ kept'.taken → Comes write printer job job' text outcome
  comes outcome text rendered empty is =
      let due = rendered.written in
      let text_is : due.text ≡ text = sym (is ∙ (due.adds.taken ∙ ap (λ l. l ++ due.text) empty)) in
      subst (λ (p : Panel). ByReads job job' (λ bytes. IsExpected (notes_rendering write printer p) bytes text outcome)) first
      (subst (λ (t : List ℕ). ByReads job job' (λ bytes. IsExpected (notes_rendering write printer panel) bytes t outcome)) text_is due.due)

  -- to its end
  pub notes_had : (text : List ℕ) → Renders (notes_rendering write printer panel) job job' kept kept' (Ok AllDone) → kept.taken ≡ [] →
      text ≡ kept'.taken → AreRightNotes write printer job job' (Ok text)
  notes_had text rendered empty is = record {
    text = comes AllDone text rendered empty is;
    needed = subst (λ (p : Panel). TextNeedsReads (notes_rendering write printer p) job job') first rendered.written.needed;
    error = tt;
    failed = λ failed. absurd (true≢false (sym failed ∙ rendered.read));
    still_open = λ failed. absurd (true≢false (sym failed ∙ rendered.read));
    read = λ it. absurd (true≢false (sym (ap is_err_of_read it)));
  }

  -- to a failure
  pub notes_lost : (place profile : ℕ) (reason : Reason) →
      Renders (notes_rendering write printer panel) job job' kept kept' (Ok (Fail place profile reason)) → kept.taken ≡ [] →
      AreRightNotes write printer job job' (Err Read)
  notes_lost place profile reason rendered empty = record {
    text = tt;
    needed = tt;
    error = tt;
    failed = λ failed. refl;
    still_open = λ failed. absurd (true≢false (sym failed ∙ rendered.read));
    read =
        λ it. inr (
          kept'.taken,
          Fail place profile reason,
          λ is. true≢false (sym (ap is_done is)),
          comes (Fail place profile reason) kept'.taken rendered empty refl,
        );
  }

  -- it was not gone through, for this error, and no read failed
  stopped_by : (error : Error) → IsErrorOfNotes error → is_read error ≡ false → job'.failed ≡ false →
      AreRightNotes write printer job job' (Err error)
  stopped_by error is other read = record {
    text = tt;
    needed = tt;
    error = is;
    failed = λ failed. absurd (true≢false (sym failed ∙ read));
    still_open = λ failed. absurd (true≢false (sym failed ∙ read));
    read = λ it. absurd (true≢false (sym (ap is_err_of_read it) ∙ other));
  }

  pub notes_stopped : (error : Error) → Renders (notes_rendering write printer panel) job job' kept kept' (Err error) →
      AreRightNotes write printer job job' (Err (kept_error error))
  notes_stopped Memory rendered = stopped_by Memory tt refl rendered.read
  notes_stopped Read rendered = record {
    text = tt;
    needed = tt;
    error = tt;
    failed = λ failed. refl;
    still_open =
        λ failed. subst (λ (p : Panel). TextStaysOpen (notes_rendering write printer p) job job') first (rendered.front.still_open failed);
    read = λ it. inl rendered.read;
  }
  notes_stopped Write rendered = stopped_by Memory tt refl rendered.read
  notes_stopped Turns rendered = stopped_by Turns tt refl rendered.read
  notes_stopped NoProfile rendered = absurd (rendered.never_no_profile refl)
  notes_stopped Items rendered = absurd (rendered.never_items refl)

-- ---- what was written of them

module _ (group : Groups) (telling : HowTold) (printer : Printer) (start after : SourceState) (job : List ℕ) (old new : Work)
    (notes : Result (List ℕ) Error)
    (right : AreRightNotes (told_note telling (subject_of group job)) printer start after notes)
    (ended : new.ended ≡ old.ended ++ job_read job after ∷ []) where
  abbrev noted_with : Option (List ℕ) → Noted
  noted_with cause = record { after = after; notes = notes; cause = cause }

  -- all of it
  pub notes_told : (r : Result Ending Error) →
      IfOk r (λ ending. (ending ≡ ending_of_notes notes) × AddsTold (notes_text telling group job notes) old.out new.out)
      → IfOk r (λ ending.
      (noted : Noted) × (ending ≡ ending_of_notes noted.notes)
      × TellsNotes group telling printer start job old new (Adds old.out new.out) noted)
  notes_told (Ok ending) told = (noted_with told.1.0, told.0, record { right = right; written = told.1.1; ended = ended })
  notes_told (Err error) told = tt

  -- a front of it
  pub notes_cut : (r : Result Ending Error) → IfErr r (λ error. CutsTold error (notes_text telling group job notes) old.out new.out)
      → IfErr r (λ error. CutsNotes error group telling printer start job old new)
  notes_cut (Ok ending) cut = tt
  notes_cut (Err Memory) cut = (after, cut, ended)
  notes_cut (Err Write) cut = (noted_with cut.0, record { right = right; written = cut.1; ended = ended })
  notes_cut (Err Read) cut = absurd cut
  notes_cut (Err Turns) cut = absurd cut
  notes_cut (Err NoProfile) cut = absurd cut
  notes_cut (Err Items) cut = absurd cut
