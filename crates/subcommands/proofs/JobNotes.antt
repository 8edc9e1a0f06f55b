-- Lemmas on what is left of the notes of a job.
use Rattle.std.proofs.Common.{false, true≢false, ◌≡◌, ◌≢◌, inl, inr, ℕ, List, [], ◌∷◌, ◌++◌, Option, Result, Ok, Err, IfOk, IfErr, refl}
use Rattle.std.proofs.Common.{sym, ◌∙◌, ap, subst}
use Rattle.device_profile.specs.declared.panel.Panel.{Panel}
use Rattle.device_profile.specs.Printer.{Printer, first_panel}
use Rattle.streams.specs.declared.error.Error.{Error}
use Rattle.streams.specs.declared.error.Error.TheVariants.{Memory, Read, Write, Turns, NoProfile, Items}
use Rattle.renderings.specs.declared.outcome.Outcome.{Outcome}
use Rattle.renderings.specs.Expected.{IsExpected, Renders, TextNeedsReads, WritesFront}
use Rattle.streams.specs.Errors.{is_read, is_write}
use Rattle.streams.specs.Outlet.{OutletState, Adds}
use Rattle.streams.specs.Pieces.{ByReads}
use Rattle.streams.specs.Source.{SourceState}
use Rattle.streams.proofs.OutletFacts.{Adds-none}
use Rattle.notes.specs.Note.{note_line}
use Rattle.notes.specs.Notes.{notes_rendering, with_most_items}
use Rattle.requests.specs.declared.status.Status.{Status}
use Rattle.requests.specs.declared.status.Status.TheVariants.{Pass, Fail, Help, Usage, Overwrites, NotAllowed, Told, Profile, Stopped}
use Rattle.named_inputs.specs.Fleet.{IsEndOfProfile, RefusesRead, RefusesOne}
use Rattle.requests.specs.Status.{is_refusal, is_stop_of_read}
use Rattle.subcommands.specs.JobNotes.{EndsNotes, LeavesNotes, noted, outcome_line, status_of_text}
use Rattle.named_inputs.specs.KeptText.{kept_error}
use Rattle.subcommands.proofs.Leaves.{Stays-none}

-- ---- why work stopped

pub kept_read : (error : Error) → is_read (kept_error error) ≡ is_read error
kept_read Memory = refl
kept_read Read = refl
kept_read Write = refl
kept_read Turns = refl
kept_read NoProfile = refl
kept_read Items = refl

pub kept_write : (error : Error) → is_write (kept_error error) ≡ false
kept_write Memory = refl
kept_write Read = refl
kept_write Write = refl
kept_write Turns = refl
kept_write NoProfile = refl
kept_write Items = refl

pub kept_turns : (error : Error) → kept_error error ≡ Turns → error ≡ Turns
kept_turns Memory is = is
kept_turns Read is = is
kept_turns Write is = cc
kept_turns Turns is = is
kept_turns NoProfile is = is
kept_turns Items is = is

kept_known : (error : Error) → error ≢ NoProfile → kept_error error ≢ NoProfile
kept_known Memory known = known
kept_known Read known = known
kept_known Write known = λ is. cc
kept_known Turns known = known
kept_known NoProfile known = known
kept_known Items known = known

kept_unlimited : (error : Error) → error ≢ Items → kept_error error ≢ Items
kept_unlimited Memory unlimited = unlimited
kept_unlimited Read unlimited = unlimited
kept_unlimited Write unlimited = λ is. cc
kept_unlimited Turns unlimited = unlimited
kept_unlimited NoProfile unlimited = unlimited
kept_unlimited Items unlimited = unlimited

memory_known : Memory ≢ NoProfile
memory_known is = cc

write_known : Write ≢ NoProfile
write_known is = cc

memory_unlimited : Memory ≢ Items
memory_unlimited is = cc

write_unlimited : Write ≢ Items
write_unlimited is = cc

-- ---- what is left

-- all of a text was written
pub all_told : (text : List ℕ) (old new : OutletState) → Adds old new text → EndsNotes (status_of_text text) text old new
all_told [] old new adds = (refl, adds)
all_told (byte ∷ bytes) old new adds = (refl, adds)

-- no read failed where a text was written
pub told_no_read : (status : Status) (text : List ℕ) (old new : OutletState) → EndsNotes status text old new →
    is_stop_of_read status ≡ false
told_no_read Pass text old new ends = refl
told_no_read Fail text old new ends = refl
told_no_read (Stopped Memory) text old new ends = refl
told_no_read (Stopped Write) text old new ends = refl
told_no_read (Stopped Read) text old new ends = absurd ends
told_no_read (Stopped Turns) text old new ends = absurd ends
told_no_read (Stopped NoProfile) text old new ends = absurd ends
told_no_read (Stopped Items) text old new ends = absurd ends
told_no_read Help text old new ends = absurd ends
told_no_read Usage text old new ends = absurd ends
told_no_read (Overwrites input) text old new ends = absurd ends
told_no_read (NotAllowed choice) text old new ends = absurd ends
told_no_read (Told trouble) text old new ends = absurd ends
told_no_read (Profile number line cause) text old new ends = absurd ends

-- and no profile was refused
told_no_refusal : (status : Status) (text : List ℕ) (old new : OutletState) → EndsNotes status text old new → is_refusal status ≡ false
told_no_refusal Pass text old new ends = refl
told_no_refusal Fail text old new ends = refl
told_no_refusal (Stopped error) text old new ends = refl
told_no_refusal Help text old new ends = absurd ends
told_no_refusal Usage text old new ends = absurd ends
told_no_refusal (Overwrites input) text old new ends = absurd ends
told_no_refusal (NotAllowed choice) text old new ends = absurd ends
told_no_refusal (Told trouble) text old new ends = absurd ends
told_no_refusal (Profile number line cause) text old new ends = absurd ends

-- nor where work stopped
pub never_refused : (work : Result Outcome Error) (status : Status) (kept : List ℕ) (old new : OutletState) (Same : Type 0) →
    IfOk work (λ outcome. EndsNotes status (kept ++ outcome_line outcome) old new) →
    IfErr work (λ error. (status ≡ Stopped (kept_error error)) × Same) → is_refusal status ≡ false
never_refused (Ok outcome) status kept old new Same ends stop = told_no_refusal status (kept ++ outcome_line outcome) old new ends
never_refused (Err error) status kept old new Same ends stop = ap is_refusal stop.0

pub refuses_none : (text : Option (List ℕ)) (status : Status) → is_refusal status ≡ false → RefusesOne text status
refuses_none text (Profile number line cause) never = absurd (true≢false never)
refuses_none text Pass never = tt
refuses_none text Fail never = tt
refuses_none text (Stopped error) never = tt
refuses_none text Help never = tt
refuses_none text Usage never = tt
refuses_none text (Overwrites input) never = tt
refuses_none text (NotAllowed choice) never = tt
refuses_none text (Told trouble) never = tt

pub refuses_no_read : (given given' : List (List ℕ)) (number : ℕ) (status : Status) → is_refusal status ≡ false →
    RefusesRead given given' number status
refuses_no_read given given' number (Profile refused line cause) never = absurd (true≢false never)
refuses_no_read given given' number Pass never = tt
refuses_no_read given given' number Fail never = tt
refuses_no_read given given' number (Stopped error) never = tt
refuses_no_read given given' number Help never = tt
refuses_no_read given given' number Usage never = tt
refuses_no_read given given' number (Overwrites input) never = tt
refuses_no_read given given' number (NotAllowed choice) never = tt
refuses_no_read given given' number (Told trouble) never = tt

pub told_no_turns : (status : Status) (text : List ℕ) (old new : OutletState) → EndsNotes status text old new → status ≢ Stopped Turns
told_no_turns status text old new ends is = subst (λ s. EndsNotes s text old new) is ends

-- of the printer with the limit, at its first panel, what is told is due of the printer
pub noted_of : (printer limited : Printer) (panel : Panel) (job job' : SourceState) (kept kept' : OutletState)
    (work : Result Outcome Error) → limited ≡ with_most_items printer → panel ≡ first_panel limited →
    Renders (notes_rendering note_line limited panel) job job' kept kept' work → Renders (noted note_line printer) job job' kept kept' work
noted_of printer limited panel job job' kept kept' work is first rendered =
    subst (λ p. Renders (notes_rendering note_line p (first_panel p)) job job' kept kept' work) is
    (subst (λ panel. Renders (notes_rendering note_line limited panel) job job' kept kept' work) first rendered)

module _ (IsPrinter : Printer → Type 0) (printer : Printer) (named : IsPrinter printer) (job job' : SourceState) where
  -- the job was gone through
  pub told_left : (status : Status) (text : List ℕ) (outcome : Outcome) (old new : OutletState) →
      ByReads job job' (λ bytes. IsExpected (noted note_line printer) bytes text outcome) →
      TextNeedsReads (noted note_line printer) job job' →
      EndsNotes status (text ++ outcome_line outcome) old new →
      LeavesNotes status IsPrinter job job' old new
  told_left Pass text outcome old new due needed ends =
      (printer, named, record { text = text; outcome = outcome; due = due; needed = needed; told = ends })
  told_left Fail text outcome old new due needed ends =
      (printer, named, record { text = text; outcome = outcome; due = due; needed = needed; told = ends })
  told_left (Stopped Memory) text outcome old new due needed ends =
      inr (
        memory_known,
        memory_unlimited,
        printer,
        named,
        inr (record { text = text; outcome = outcome; due = due; needed = needed; told = ends }),
      )
  told_left (Stopped Write) text outcome old new due needed ends =
      inr (
        write_known,
        write_unlimited,
        printer,
        named,
        inr (record { text = text; outcome = outcome; due = due; needed = needed; told = ends }),
      )
  told_left (Stopped Read) text outcome old new due needed ends = absurd ends
  told_left (Stopped Turns) text outcome old new due needed ends = absurd ends
  told_left (Stopped NoProfile) text outcome old new due needed ends = absurd ends
  told_left (Stopped Items) text outcome old new due needed ends = absurd ends
  told_left Help text outcome old new due needed ends = absurd ends
  told_left Usage text outcome old new due needed ends = absurd ends
  told_left (Overwrites input) text outcome old new due needed ends = absurd ends
  told_left (NotAllowed choice) text outcome old new due needed ends = absurd ends
  told_left (Told trouble) text outcome old new due needed ends = absurd ends
  told_left (Profile number line cause) text outcome old new due needed ends = absurd ends

  -- work stopped before
  pub stopped_left : (error : Error) (kept kept' out : OutletState) → error ≢ NoProfile → error ≢ Items →
      WritesFront (noted note_line printer) job job' kept kept' → LeavesNotes (Stopped (kept_error error)) IsPrinter job job' out out
  stopped_left error kept kept' out known unlimited front = inr (
    kept_known error known,
    kept_unlimited error unlimited,
    printer,
    named,
    inl (record {
      pieces = front.pieces;
      given_is = front.given_is;
      consumed = front.consumed;
      reading = front.reading;
      spelled = front.spelled;
      front = ([], (noted note_line printer).text front.reading, refl, Adds-none out);
      was_open = front.was_open;
      still_open = front.still_open;
    }),
  )

  -- work on the notes ended, which were kept from nothing on
  pub notes_left : (work : Result Outcome Error) (status : Status) (kept kept' old new : OutletState) →
      Renders (noted note_line printer) job job' kept kept' work → kept.taken ≡ [] →
      IfOk work (λ outcome. EndsNotes status (kept'.taken ++ outcome_line outcome) old new) →
      IfErr work (λ error. (status ≡ Stopped (kept_error error)) × (new ≡ old)) →
      LeavesNotes status IsPrinter job job' old new
  notes_left (Ok outcome) status kept kept' old new rendered empty ends stop =
      let due = rendered.written in
      let text_is : kept'.taken ≡ due.text = due.adds.taken ∙ ap (λ l. l ++ due.text) empty in
      told_left status due.text outcome old new due.due due.needed
      (subst (λ t. EndsNotes status (t ++ outcome_line outcome) old new) text_is ends)
  notes_left (Err error) status kept kept' old new rendered empty ends stop =
      subst (λ s. LeavesNotes s IsPrinter job job' old new) (sym stop.0)
      (subst (λ o. LeavesNotes (Stopped (kept_error error)) IsPrinter job job' old o) (sym stop.1)
      (stopped_left error kept kept' old rendered.never_no_profile rendered.never_items rendered.front))

-- what takes a text is as it was, and so is its state
pub stop_state : {O : Type 0} (state : O → OutletState) (before after : O) (work : Result Outcome Error) (status : Status) →
    IfErr work (λ error. (status ≡ Stopped (kept_error error)) × (after ≡ before)) →
    IfErr work (λ error. (status ≡ Stopped (kept_error error)) × (state after ≡ state before))
stop_state state before after (Ok outcome) status stop = stop
stop_state state before after (Err error) status stop = (stop.0, ap state stop.1)

-- where the profile is not had, nothing was read of the job, and nothing written
pub no_notes : (number : ℕ) (text : Option (List ℕ)) (status : Status) (IsPrinter : Printer → Type 0) (job : SourceState)
    (a : OutletState) → IsEndOfProfile number text status →
    LeavesNotes status IsPrinter job job a a
no_notes number text (Profile refused line cause) IsPrinter job a end = (refl, Stays-none a)
no_notes number text (Stopped error) IsPrinter job a end = inl (refl, Stays-none a)
no_notes number text Pass IsPrinter job a end = absurd end
no_notes number text Fail IsPrinter job a end = absurd end
no_notes number text Help IsPrinter job a end = absurd end
no_notes number text Usage IsPrinter job a end = absurd end
no_notes number text (Overwrites input) IsPrinter job a end = absurd end
no_notes number text (NotAllowed choice) IsPrinter job a end = absurd end
no_notes number text (Told trouble) IsPrinter job a end = absurd end
