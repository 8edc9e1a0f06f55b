-- Lemmas on what is left of a text of a job.
use Rattle.std.proofs.Common.{false, ◌≡◌, ◌≢◌, inl, inr, ℕ, Bool, List, [], Option, None, Some, Result, Ok, Err, IfErr, IfOk, refl, sym}
use Rattle.std.proofs.Common.{◌∙◌, ap, arith, subst, append-nil}
use Rattle.std.specs.Io.KnownBytes.{Consumes}
use Rattle.pcl_items.specs.declared.item.Mode.TheVariants.{Pcl}
use Rattle.pcl_lexer.specs.Grammar.{here}
use Rattle.pcl_lexer.specs.Reading.{IsReading, Whole, items_of}
use Rattle.device_profile.specs.Printer.{Printer}
use Rattle.streams.specs.declared.error.Error.{Error}
use Rattle.streams.specs.declared.error.Error.TheVariants.{Memory, Read, Write, Turns, NoProfile, Items}
use Rattle.renderings.specs.declared.outcome.Outcome.{Outcome}
use Rattle.renderings.specs.declared.outcome.Outcome.TheVariants.{Done, Fail as FailsOf}
use Rattle.renderings.specs.Expected.{Rendering, IsOver, LeavesTextOpen, Renders, WritesExpected, WritesFront}
use Rattle.renderings.proofs.Renderings.{behind_none, nothing_decided}
use Rattle.std.specs.Prelude.{IsFalse, OnOk, ◌||◌}
use Rattle.std.proofs.Math.Bool.{or-false}
use Rattle.streams.specs.Errors.{is_err_of_write}
use Rattle.streams.specs.Outlet.{OutletState, Adds}
use Rattle.streams.specs.Source.{SourceState}
use Rattle.streams.specs.Writing.{Writes}
use Rattle.std.proofs.KnownBytes.{Appends-nil, Keeps-refl}
use Rattle.requests.specs.declared.status.Status.{Status}
use Rattle.requests.specs.declared.status.Status.TheVariants.{Pass, Fail, Help, Usage, Overwrites, NotAllowed, Told, Profile, Stopped}
use Rattle.named_inputs.specs.Fleet.{IsEndOfProfile}
use Rattle.requests.specs.declared.choices.Choice.{Choice}
use Rattle.named_inputs.specs.Choices.{choice_line, chosen_panel, TellsOfChoice, TellsOfPin}
use Rattle.subcommands.specs.JobTexts.{EndsBy, LeavesAtStopBeside, LeavesLine, LeavesOut, LeavesPages, LeavesPagesOf, LeavesPinned}
use Rattle.subcommands.specs.JobTexts.{LeavesPinnedOf, LeavesTextAndLine}
use Rattle.requests.specs.Status.{is_stop_of_write, IsEndOfOpening}
use Rattle.subcommands.proofs.Leaves.{Stays-none}

nothing_spelled : IsReading [] (Whole [] 0)
nothing_spelled = (Pcl, tt, (0, here), refl)

Consumes-nothing : (a : Option (List ℕ)) → Consumes a a []
Consumes-nothing None = tt
Consumes-nothing (Some xs) = refl

Adds-nothing : (a : OutletState) (failed : Bool) → Adds a (record a { failed = failed }) []
Adds-nothing a failed = record { taken = sym (append-nil a.taken); contents = Appends-nil a.contents }

-- no bytes leave a text open that some job has
nothing_told : (rendering : Rendering) → (IsOver rendering → ⊥) → LeavesTextOpen rendering []
nothing_told rendering matters = record {
  bytes = [];
  spelled = record { leads = λ later job may. (job, refl, may); led = λ later more may. may };
  items = [];
  decided = λ job reading may is. (items_of reading, refl);
  no_more = nothing_decided;
  goes_on =
      λ ends. matters
      (λ one other. let same = ends one other in (
        sym (ap rendering.text (behind_none one)) ∙ (same.0 ∙ ap rendering.text (behind_none other)),
        sym (ap rendering.outcome (behind_none one)) ∙ (same.1 ∙ ap rendering.outcome (behind_none other)),
      ));
}

-- of a job of which nothing was read nothing need stand there, whatever has failed
nothing_written : (rendering : Rendering) → (IsOver rendering → ⊥) → (job : SourceState) (a : OutletState)
    (read_failed write_failed : Bool) →
    WritesFront rendering job (record job { failed = read_failed }) a (record a { failed = write_failed })
nothing_written rendering matters job a read_failed write_failed = record {
  pieces = [];
  given_is = sym (append-nil job.given);
  consumed = Consumes-nothing job.remaining;
  reading = Whole [] 0;
  spelled = nothing_spelled;
  front = ([], rendering.text (Whole [] 0), refl, Adds-nothing a write_failed);
  was_open = ([], [], sym (append-nil job.given), omega arith, nothing_told rendering matters);
  still_open = λ failed. ([], sym (append-nil job.given), nothing_told rendering matters);
}

-- work on the job stopped
pub stopped_within : (error : Error) (rendering : Rendering) (job job' : SourceState) (old new start : OutletState) → error ≢ NoProfile →
    error ≢ Items → WritesFront rendering job job' old new → LeavesAtStopBeside error rendering job job' old new start start
stopped_within Memory rendering job job' old new start known unlimited front = inl (front, Stays-none start)
stopped_within Read rendering job job' old new start known unlimited front = (front, Stays-none start)
stopped_within Write rendering job job' old new start known unlimited front = inl (front, Stays-none start)
stopped_within Turns rendering job job' old new start known unlimited front = (front, Stays-none start)
stopped_within NoProfile rendering job job' old new start known unlimited front = absurd (known refl)
stopped_within Items rendering job job' old new start known unlimited front = absurd (unlimited refl)

-- the whole text stands there, and its outcome was told
pub told : (outcome : Outcome) (status : Status) (rendering : Rendering) (job job' : SourceState) (old new start end : OutletState) →
    WritesExpected rendering job job' old new outcome → LeavesLine outcome status start end →
    LeavesTextAndLine status rendering job job' old new start end
told Done Pass rendering job job' old new start end stands line = (stands, line)
told Done Fail rendering job job' old new start end stands line = absurd line
told Done Help rendering job job' old new start end stands line = absurd line
told Done Usage rendering job job' old new start end stands line = absurd line
told Done (Overwrites input) rendering job job' old new start end stands line = absurd line
told Done (NotAllowed choice) rendering job job' old new start end stands line = absurd line
told Done (Told trouble) rendering job job' old new start end stands line = absurd line
told Done (Profile number row cause) rendering job job' old new start end stands line = absurd line
told Done (Stopped error) rendering job job' old new start end stands line = absurd line
told (FailsOf place profile finding) Pass rendering job job' old new start end stands line = absurd line
told (FailsOf place profile finding) Fail rendering job job' old new start end stands line =
    (record { place = place; profile = profile; reason = finding }, stands, line)
told (FailsOf place profile finding) Help rendering job job' old new start end stands line = absurd line
told (FailsOf place profile finding) Usage rendering job job' old new start end stands line = absurd line
told (FailsOf place profile finding) (Overwrites input) rendering job job' old new start end stands line = absurd line
told (FailsOf place profile finding) (NotAllowed choice) rendering job job' old new start end stands line = absurd line
told (FailsOf place profile finding) (Told trouble) rendering job job' old new start end stands line = absurd line
told (FailsOf place profile finding) (Profile number row cause) rendering job job' old new start end stands line = absurd line
told (FailsOf place profile finding) (Stopped Memory) rendering job job' old new start end stands line =
    inr (record { place = place; profile = profile; reason = finding }, stands, line)
told (FailsOf place profile finding) (Stopped Read) rendering job job' old new start end stands line = absurd line
told (FailsOf place profile finding) (Stopped Write) rendering job job' old new start end stands line =
    inr (record { place = place; profile = profile; reason = finding }, stands, line)
told (FailsOf place profile finding) (Stopped Turns) rendering job job' old new start end stands line = absurd line
told (FailsOf place profile finding) (Stopped NoProfile) rendering job job' old new start end stands line = absurd line
told (FailsOf place profile finding) (Stopped Items) rendering job job' old new start end stands line = absurd line

-- the work on a text ended, and its outcome was told
pub ended : {O : Type 0} (state : O → OutletState) (before after : O) (work : Result Outcome Error) (status : Status)
    (rendering : Rendering) (job job' : SourceState) (old new : OutletState) →
    Renders rendering job job' old new work →
    IfOk work (λ outcome. LeavesLine outcome status (state before) (state after)) →
    IfErr work (λ error. (status ≡ Stopped error) × (after ≡ before)) →
    LeavesTextAndLine status rendering job job' old new (state before) (state after)
ended state before after (Ok outcome) status rendering job job' old new rendered line stop =
    told outcome status rendering job job' old new (state before) (state after) rendered.written line
ended state before after (Err error) status rendering job job' old new rendered line stop =
    subst (λ s. LeavesTextAndLine s rendering job job' old new (state before) (state after)) (sym stop.0)
    (subst (λ o. LeavesAtStopBeside error rendering job job' old new (state before) (state o)) (sym stop.1)
    (stopped_within error rendering job job' old new (state before) rendered.never_no_profile rendered.never_items rendered.front))

-- so where the line goes behind the text: a write failed just where it stopped at one
pub ended_write : {O : Type 0} (state : O → OutletState) (before after : O) (work : Result Outcome Error) (status : Status) →
    (state before).failed ≡ is_err_of_write work →
    IfErr work (λ error. (status ≡ Stopped error) × (after ≡ before)) → OnOk work ((state after).failed ≡ is_stop_of_write status) →
    (state after).failed ≡ is_stop_of_write status
ended_write state before after (Ok outcome) status is stop told = told
ended_write state before after (Err error) status is stop told = ap (λ o. (state o).failed) stop.1 ∙ is ∙ ap is_stop_of_write (sym stop.0)

-- and where it goes elsewhere
pub ended_write_beside : {O : Type 0} (state : O → OutletState) (before after : O) (work : Result Outcome Error) (status : Status)
    (out_failed : Bool) → out_failed ≡ is_err_of_write work → IsFalse (state before).failed →
    IfErr work (λ error. (status ≡ Stopped error) × (after ≡ before)) → OnOk work ((state after).failed ≡ is_stop_of_write status) →
    (out_failed || (state after).failed) ≡ is_stop_of_write status
ended_write_beside state before after (Ok outcome) status out_failed is sound stop told = ap (λ b. b || (state after).failed) is ∙ told
ended_write_beside state before after (Err error) status out_failed is sound stop told =
    ap (λ b. out_failed || b) (ap (λ o. (state o).failed) stop.1 ∙ sound) ∙ or-false out_failed ∙ is ∙ ap is_stop_of_write (sym stop.0)

-- what takes the line has not failed where there is an outcome
pub sound_for_line : (work : Result Outcome Error) (failed : Bool) → failed ≡ is_err_of_write work → OnOk work (IsFalse failed)
sound_for_line (Ok outcome) failed is = is
sound_for_line (Err error) failed is = tt

pub sound_beside : (work : Result Outcome Error) (failed : Bool) → IsFalse failed → OnOk work (IsFalse failed)
sound_beside (Ok outcome) failed sound = sound
sound_beside (Err error) failed sound = tt

-- the job could not be opened or OUT not be created, for want of memory too, or OUT is a file that is read
at_opening : (status : Status) (rendering : Rendering) → (IsOver rendering → ⊥) → (job : SourceState) (read_failed : Bool)
    (old : OutletState) (write_failed : Bool) (start : OutletState) → IsEndOfOpening status →
    LeavesOut status rendering job (record job { failed = read_failed }) old (record old { failed = write_failed }) start start
at_opening (Overwrites input) rendering matters job read_failed old write_failed start end =
    ((refl, record { taken = refl; contents = Keeps-refl old.contents }), Stays-none start)
at_opening (Stopped Memory) rendering matters job read_failed old write_failed start end =
    inl (nothing_written rendering matters job old read_failed write_failed, Stays-none start)
at_opening (Stopped Read) rendering matters job read_failed old write_failed start end =
    (nothing_written rendering matters job old read_failed write_failed, Stays-none start)
at_opening (Stopped Write) rendering matters job read_failed old write_failed start end =
    inl (nothing_written rendering matters job old read_failed write_failed, Stays-none start)
at_opening (Stopped Turns) rendering matters job read_failed old write_failed start end = absurd end
at_opening (Stopped NoProfile) rendering matters job read_failed old write_failed start end = absurd end
at_opening (Stopped Items) rendering matters job read_failed old write_failed start end = absurd end
at_opening Pass rendering matters job read_failed old write_failed start end = absurd end
at_opening Fail rendering matters job read_failed old write_failed start end = absurd end
at_opening Help rendering matters job read_failed old write_failed start end = absurd end
at_opening Usage rendering matters job read_failed old write_failed start end = absurd end
at_opening (NotAllowed choice) rendering matters job read_failed old write_failed start end = absurd end
at_opening (Told trouble) rendering matters job read_failed old write_failed start end = absurd end
at_opening (Profile number line cause) rendering matters job read_failed old write_failed start end = absurd end

pub opening_left : (status : Status) (rendering : Rendering) → (IsOver rendering → ⊥) → (job job' : SourceState) (read_failed : Bool)
    (old new : OutletState) (write_failed : Bool) (start : OutletState) → IsEndOfOpening status →
    job' ≡ record job { failed = read_failed } → new ≡ record old { failed = write_failed } →
    LeavesOut status rendering job job' old new start start
opening_left status rendering matters job job' read_failed old new write_failed start end opened created =
    subst (λ s. LeavesOut status rendering job s old new start start) (sym opened)
    (subst (λ o. LeavesOut status rendering job (record job { failed = read_failed }) old o start start) (sym created)
    (at_opening status rendering matters job read_failed old write_failed start end))

-- what is rendered from a source that was opened, to an outlet that was created, is rendered from and to these as they were
pub rendered_from : (rendering : Rendering) (job ready job' : SourceState) (old created new : OutletState) (work : Result Outcome Error) →
    IsFalse job.failed → ready ≡ record job { failed = false } → IsFalse old.failed → created ≡ record old { failed = false } →
    Renders rendering ready job' created new work → Renders rendering job job' old new work
rendered_from rendering job ready job' old created new work sound opened working made rendered =
    subst (λ s. Renders rendering s job' old new work) (opened ∙ ap (λ f. let s : SourceState = record job { failed = f } in s) (sym sound))
    (subst (λ o. Renders rendering ready job' o new work)
    (made ∙ ap (λ f. let o : OutletState = record old { failed = f } in o) (sym working)) rendered)

-- a text that was left with its line was left in OUT
pub out_left : (status : Status) (rendering : Rendering) (job job' : SourceState) (old new start end : OutletState) →
    LeavesTextAndLine status rendering job job' old new start end → LeavesOut status rendering job job' old new start end
out_left Pass rendering job job' old new start end left = left
out_left Fail rendering job job' old new start end left = left
out_left Help rendering job job' old new start end left = left
out_left Usage rendering job job' old new start end left = left
out_left (Overwrites input) rendering job job' old new start end left = absurd left
out_left (NotAllowed choice) rendering job job' old new start end left = left
out_left (Told trouble) rendering job job' old new start end left = left
out_left (Profile number line cause) rendering job job' old new start end left = left
out_left (Stopped error) rendering job job' old new start end left = left

-- what was left of a pinned job was left where the panel may have each choice
pub pinned_left : (status : Status) (IsPrinter : Printer → Type 0) (choices : List Choice) (job job' : SourceState)
    (old new start end : OutletState) →
    LeavesPinnedOf status IsPrinter choices job job' old new start end → LeavesPinned status IsPrinter choices job job' old new start end
pinned_left Pass IsPrinter choices job job' old new start end left = left
pinned_left Fail IsPrinter choices job job' old new start end left = left
pinned_left Help IsPrinter choices job job' old new start end left = left
pinned_left Usage IsPrinter choices job job' old new start end left = left
pinned_left (Overwrites input) IsPrinter choices job job' old new start end left = left
pinned_left (NotAllowed choice) IsPrinter choices job job' old new start end left = absurd left.4
pinned_left (Told trouble) IsPrinter choices job job' old new start end left = absurd left.4
pinned_left (Profile number line cause) IsPrinter choices job job' old new start end left = absurd left.4
pinned_left (Stopped error) IsPrinter choices job job' old new start end left = inr left

-- what was left for a printer was left where the job was read
pub pages_left : (status : Status) (IsPrinter : Printer → Type 0) (job job' : SourceState) (old new : OutletState) →
    LeavesPagesOf status IsPrinter job job' old new → LeavesPages status IsPrinter job job' old new
pages_left Pass IsPrinter job job' old new left = left
pages_left Fail IsPrinter job job' old new left = left
pages_left Help IsPrinter job job' old new left = left
pages_left Usage IsPrinter job job' old new left = left
pages_left (Overwrites input) IsPrinter job job' old new left = left
pages_left (NotAllowed choice) IsPrinter job job' old new left = left
pages_left (Told trouble) IsPrinter job job' old new left = left
pages_left (Profile number line cause) IsPrinter job job' old new left = absurd left.3
pages_left (Stopped error) IsPrinter job job' old new left = inr left

-- where the profile is not had, nothing was read of the job, and nothing written
pub no_pages : (number : ℕ) (text : Option (List ℕ)) (status : Status) (IsPrinter : Printer → Type 0) (job : SourceState)
    (a : OutletState) → IsEndOfProfile number text status →
    LeavesPages status IsPrinter job job a a
no_pages number text (Profile refused line cause) IsPrinter job a end = (refl, Stays-none a)
no_pages number text (Stopped error) IsPrinter job a end = inl (refl, Stays-none a)
no_pages number text Pass IsPrinter job a end = absurd end
no_pages number text Fail IsPrinter job a end = absurd end
no_pages number text Help IsPrinter job a end = absurd end
no_pages number text Usage IsPrinter job a end = absurd end
no_pages number text (Overwrites input) IsPrinter job a end = absurd end
no_pages number text (NotAllowed choice) IsPrinter job a end = absurd end
no_pages number text (Told trouble) IsPrinter job a end = absurd end

-- a choice that the panel may not have is told, or that memory ran out; nothing was read of the job then, and nothing written
pub choice_told : (status : Status) (printer : Printer) (choice : Choice) (IsPrinter : Printer → Type 0) (choices : List Choice)
    (old new : OutletState) → IsPrinter printer → chosen_panel printer choices ≡ Err choice →
    TellsOfChoice status printer choice old new → TellsOfPin status IsPrinter choices old new
choice_told (NotAllowed told) printer choice IsPrinter choices old new named refused line =
    (printer, named, refused ∙ ap Err (sym line.0), subst (λ c. Writes old new (choice_line printer c)) (sym line.0) line.1)
choice_told (Stopped Memory) printer choice IsPrinter choices old new named refused line = line
choice_told (Stopped Read) printer choice IsPrinter choices old new named refused line = absurd line
choice_told (Stopped Write) printer choice IsPrinter choices old new named refused line = absurd line
choice_told (Stopped Turns) printer choice IsPrinter choices old new named refused line = absurd line
choice_told (Stopped NoProfile) printer choice IsPrinter choices old new named refused line = absurd line
choice_told (Stopped Items) printer choice IsPrinter choices old new named refused line = absurd line
choice_told Pass printer choice IsPrinter choices old new named refused line = absurd line
choice_told Fail printer choice IsPrinter choices old new named refused line = absurd line
choice_told Help printer choice IsPrinter choices old new named refused line = absurd line
choice_told Usage printer choice IsPrinter choices old new named refused line = absurd line
choice_told (Overwrites input) printer choice IsPrinter choices old new named refused line = absurd line
choice_told (Profile number row cause) printer choice IsPrinter choices old new named refused line = absurd line
choice_told (Told trouble) printer choice IsPrinter choices old new named refused line = absurd line

pub choice_refused : (status : Status) (printer : Printer) (choice : Choice) (IsPrinter : Printer → Type 0) (choices : List Choice)
    (old new : OutletState) (job : SourceState) (a b : OutletState) (read_failed write_failed : Bool) →
    IsFalse read_failed → IsFalse write_failed → TellsOfChoice status printer choice old new →
    EndsBy status (λ job job'. LeavesPinned status IsPrinter choices job job' a a b b) job job read_failed write_failed
choice_refused (NotAllowed told) printer choice IsPrinter choices old new job a b read_failed write_failed no_read no_write line = record {
  left = ((refl, Stays-none a), Stays-none b);
  read = no_read;
  write = no_write;
  turns = λ is. absurd (subst (λ s. TellsOfChoice s printer choice old new) is line);
}
choice_refused (Stopped Memory) printer choice IsPrinter choices old new job a b read_failed write_failed no_read no_write line = record {
  left = inl ((refl, Stays-none a), Stays-none b);
  read = no_read;
  write = no_write;
  turns = λ is. absurd (subst (λ s. TellsOfChoice s printer choice old new) is line);
}
choice_refused (Stopped Read) printer choice IsPrinter choices old new job a b read_failed write_failed no_read no_write line = absurd line
choice_refused (Stopped Write) printer choice IsPrinter choices old new job a b read_failed write_failed no_read no_write line = absurd line
choice_refused (Stopped Turns) printer choice IsPrinter choices old new job a b read_failed write_failed no_read no_write line = absurd line
choice_refused (Stopped NoProfile) printer choice IsPrinter choices old new job a b read_failed write_failed no_read no_write line =
    absurd line
choice_refused (Stopped Items) printer choice IsPrinter choices old new job a b read_failed write_failed no_read no_write line = absurd line
choice_refused Pass printer choice IsPrinter choices old new job a b read_failed write_failed no_read no_write line = absurd line
choice_refused Fail printer choice IsPrinter choices old new job a b read_failed write_failed no_read no_write line = absurd line
choice_refused Help printer choice IsPrinter choices old new job a b read_failed write_failed no_read no_write line = absurd line
choice_refused Usage printer choice IsPrinter choices old new job a b read_failed write_failed no_read no_write line = absurd line
choice_refused (Overwrites input) printer choice IsPrinter choices old new job a b read_failed write_failed no_read no_write line =
    absurd line
choice_refused (Profile number row cause) printer choice IsPrinter choices old new job a b read_failed write_failed no_read no_write line =
    absurd line
choice_refused (Told trouble) printer choice IsPrinter choices old new job a b read_failed write_failed no_read no_write line = absurd line

-- where the profile is not had, nothing was pinned
pub no_pinned : (number : ℕ) (text : Option (List ℕ)) (status : Status) (IsPrinter : Printer → Type 0) (choices : List Choice)
    (job : SourceState) (a b : OutletState) → IsEndOfProfile number text status →
    LeavesPinned status IsPrinter choices job job a a b b
no_pinned number text (Profile refused line cause) IsPrinter choices job a b end = ((refl, Stays-none a), Stays-none b)
no_pinned number text (Stopped error) IsPrinter choices job a b end = inl ((refl, Stays-none a), Stays-none b)
no_pinned number text Pass IsPrinter choices job a b end = absurd end
no_pinned number text Fail IsPrinter choices job a b end = absurd end
no_pinned number text Help IsPrinter choices job a b end = absurd end
no_pinned number text Usage IsPrinter choices job a b end = absurd end
no_pinned number text (Overwrites input) IsPrinter choices job a b end = absurd end
no_pinned number text (NotAllowed choice) IsPrinter choices job a b end = absurd end
no_pinned number text (Told trouble) IsPrinter choices job a b end = absurd end
