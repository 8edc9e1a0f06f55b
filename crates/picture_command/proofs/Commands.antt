-- What the command leaves, by what its two readings came to.
use Rattle.std.proofs.Common.{◌≡◌, ◌≢◌, ◌⊎◌, inl, inr, ℕ, Bool, true, false, List, [], ◌∷◌, ◌++◌, map, Option, Result, Ok, Err, refl, ap}
use Rattle.std.proofs.Common.{sym, ◌∙◌, subst}
use Rattle.std.specs.Prelude.{IsFalse, IsTrue, ◌||◌}
use Rattle.std.proofs.KnownBytes.{Keeps-refl}
use Rattle.device_profile.specs.declared.panel.Panel.{Panel}
use Rattle.device_profile.specs.Printer.{Printer}
use Rattle.streams.specs.declared.error.Error.{Error}
use Rattle.streams.specs.declared.error.Error.TheVariants.{Memory, Read, Write, Turns, NoProfile, Items}
use Rattle.renderings.specs.declared.outcome.Outcome.{Outcome}
use Rattle.renderings.specs.declared.outcome.Outcome.TheVariants.{Done as AllDone, Fail as FailsOf}
use Rattle.renderings.specs.Expected.{Rendering, IsExpected, Renders, WritesExpected}
use Rattle.streams.specs.Errors.{is_read}
use Rattle.streams.specs.Outlet.{OutletState, Stays}
use Rattle.streams.specs.Pieces.{ByReads}
use Rattle.streams.specs.Source.{SourceState}
use Rattle.requests.specs.declared.selection.Selection.{Selection}
use Rattle.requests.specs.declared.choices.Choice.{Choice}
use Rattle.requests.specs.declared.status.Status.{Status}
use Rattle.requests.specs.declared.status.Status.TheVariants.{Pass, Fail, Help, Usage, Overwrites, NotAllowed, Told, Profile, Stopped}
use Rattle.named_inputs.specs.Fleet.{IsEndOfProfile, RefusesRead, RefusesOne}
use Rattle.job_reports.specs.Groups.{Groups}
use Rattle.named_inputs.specs.KeptText.{kept_error}
use Rattle.named_inputs.specs.Choices.{TellsOfChoice, TellsOfPin, choice_line, chosen_panel}
use Rattle.streams.specs.Writing.{Writes}
use Rattle.requests.specs.Status.{is_refusal, is_refused_choice, is_stop_of_read, is_stop_of_write}
use Rattle.picture_command.specs.Picture.{BeforeAndAfter, Draws, IsErrorOfSearch, IsUnsearched, IsUntouched, LeavesDrawn, LeavesOther}
use Rattle.picture_command.specs.Picture.{LeavesPicture, LeavesPictureOf, LeavesSame, LeavesTold, StopsSearch, TellsOutcome, TellsChange}
use Rattle.picture_command.specs.Picture.{status_of}

pub Stays-none : (a : OutletState) → Stays a a
Stays-none a = record { taken = refl; contents = Keeps-refl a.contents }

-- ---- the first reading

-- a text that was kept in memory is told
pub kept_told : (rendering : Rendering) (job job' : SourceState) (kept kept' : OutletState) (outcome : Outcome) (text : List ℕ) →
    Renders rendering job job' kept kept' (Ok outcome) → kept.taken ≡ [] → text ≡ kept'.taken → TellsOutcome rendering job job' text outcome
kept_told rendering job job' kept kept' outcome text rendered empty is =
    let due = rendered.written in
    let text_is : due.text ≡ text = sym (is ∙ (due.adds.taken ∙ ap (λ l. l ++ due.text) empty)) in
    (subst (λ (t : List ℕ). ByReads job job' (λ bytes. IsExpected rendering bytes t outcome)) text_is due.due, due.needed)

-- it was not gone through
pub kept_stopped : (rendering : Rendering) (job job' : SourceState) (kept kept' : OutletState) (error : Error) →
    Renders rendering job job' kept kept' (Err error) → StopsSearch rendering job job'
kept_stopped rendering job job' kept kept' error rendered =
    record { was_open = rendered.front.was_open; still_open = rendered.front.still_open }

-- a write in memory fails for want of memory alone
pub search_stops : (error : Error) → error ≢ NoProfile → error ≢ Items → IsErrorOfSearch (kept_error error)
search_stops Memory known unlimited = tt
search_stops Read known unlimited = tt
search_stops Write known unlimited = tt
search_stops Turns known unlimited = tt
search_stops NoProfile known unlimited = absurd (known refl)
search_stops Items known unlimited = absurd (unlimited refl)

pub kept_read : (error : Error) → is_read error ≡ is_read (kept_error error)
kept_read Memory = refl
kept_read Read = refl
kept_read Write = refl
kept_read Turns = refl
kept_read NoProfile = refl
kept_read Items = refl

pub kept_turns : (error : Error) → kept_error error ≡ Turns → error ≡ Turns
kept_turns Memory is = absurd cc
kept_turns Read is = absurd cc
kept_turns Write is = absurd cc
kept_turns Turns is = refl
kept_turns NoProfile is = absurd cc
kept_turns Items is = absurd cc

-- where it stopped, no write failed, and no profile is refused
pub search_writes : (error : Error) → IsErrorOfSearch error → false ≡ is_stop_of_write (Stopped error)
search_writes Memory is = refl
search_writes Read is = refl
search_writes Turns is = refl
search_writes Write is = absurd is
search_writes NoProfile is = absurd is
search_writes Items is = absurd is

-- ---- the second reading

module _ (job : List ℕ) (rendering : Rendering) (a : BeforeAndAfter) where
  -- it came to the same
  same_left : (outcome : Outcome) → WritesExpected rendering a.second a.second' a.out a.out' outcome → Stays a.err a.err' →
      LeavesSame (status_of outcome) rendering outcome a
  same_left AllDone due stays = (refl, due, stays)
  same_left (FailsOf place profile finding) due stays = (λ e. absurd cc, due, stays)

  pub left_same : (found outcome : Outcome) (status : Status) → outcome ≡ found → status ≡ status_of outcome →
      WritesExpected rendering a.second a.second' a.out a.out' outcome → Stays a.err a.err' → LeavesDrawn status job rendering found a
  left_same found outcome status same is due stays =
      subst (λ o. LeavesDrawn status job rendering o a) same
      (subst (λ s. LeavesDrawn s job rendering outcome a) (sym is) (inl (same_left outcome due stays)))

  -- it came to something else
  other_left : (status : Status) (found outcome : Outcome) → TellsChange status job a.err a.err' → outcome ≢ found →
      WritesExpected rendering a.second a.second' a.out a.out' outcome → LeavesOther status job rendering found a
  other_left Fail found outcome told other due = (outcome, other, due, told)
  other_left (Stopped Memory) found outcome told other due = (outcome, other, due, told)
  other_left (Stopped Read) found outcome told other due = absurd told
  other_left (Stopped Write) found outcome told other due = absurd told
  other_left (Stopped Turns) found outcome told other due = absurd told
  other_left (Stopped NoProfile) found outcome told other due = absurd told
  other_left (Stopped Items) found outcome told other due = absurd told
  other_left Pass found outcome told other due = absurd told
  other_left Help found outcome told other due = absurd told
  other_left Usage found outcome told other due = absurd told
  other_left (Overwrites input) found outcome told other due = absurd told
  other_left (NotAllowed choice) found outcome told other due = absurd told
  other_left (Told trouble) found outcome told other due = absurd told
  other_left (Profile number line cause) found outcome told other due = absurd told

  pub left_other : (status : Status) (found outcome : Outcome) → TellsChange status job a.err a.err' → outcome ≢ found →
      WritesExpected rendering a.second a.second' a.out a.out' outcome → LeavesDrawn status job rendering found a
  left_other status found outcome told other due = inr (inl (other_left status found outcome told other due))

  -- it stopped
  pub left_stopped : (error : Error) (found : Outcome) → Renders rendering a.second a.second' a.out a.out' (Err error) →
      Stays a.err a.err' → LeavesDrawn (Stopped error) job rendering found a
  left_stopped error found rendered stays = inr (inr (rendered.never_no_profile, rendered.never_items, rendered.front, stays))

-- how the program ends then
pub record EndsQuietly (status : Status) : Type 0 where
  pub read : false ≡ is_stop_of_read status
  pub write : false ≡ is_stop_of_write status
  pub turns : status ≢ Stopped Turns
  pub answer : IsFalse (is_refusal status)

pub same_ends : (outcome : Outcome) → EndsQuietly (status_of outcome)
same_ends AllDone = record { read = refl; write = refl; turns = λ e. absurd cc; answer = refl }
same_ends (FailsOf place profile finding) = record { read = refl; write = refl; turns = λ e. absurd cc; answer = refl }

pub change_ends : (status : Status) (job : List ℕ) (err err' : OutletState) → TellsChange status job err err' → EndsQuietly status
change_ends Fail job err err' told = record { read = refl; write = refl; turns = λ e. absurd cc; answer = refl }
change_ends (Stopped Memory) job err err' told = record { read = refl; write = refl; turns = λ e. absurd cc; answer = refl }
change_ends (Stopped Read) job err err' told = absurd told
change_ends (Stopped Write) job err err' told = absurd told
change_ends (Stopped Turns) job err err' told = absurd told
change_ends (Stopped NoProfile) job err err' told = absurd told
change_ends (Stopped Items) job err err' told = absurd told
change_ends Pass job err err' told = absurd told
change_ends Help job err err' told = absurd told
change_ends Usage job err err' told = absurd told
change_ends (Overwrites input) job err err' told = absurd told
change_ends (NotAllowed choice) job err err' told = absurd told
change_ends (Told trouble) job err err' told = absurd told
change_ends (Profile number line cause) job err err' told = absurd told

-- ---- both

pub draws_told : (status : Status) (printer : Printer) (panel : Panel) (selection : Selection) (job : List ℕ) (group : Groups)
    (a : BeforeAndAfter) → LeavesTold status printer panel selection job group a → Draws status printer panel selection job group a
draws_told Pass printer panel selection job group a told = told
draws_told Fail printer panel selection job group a told = told
draws_told Help printer panel selection job group a told = told
draws_told Usage printer panel selection job group a told = told
draws_told (Overwrites input) printer panel selection job group a told = told
draws_told (NotAllowed choice) printer panel selection job group a told = told
draws_told (Told trouble) printer panel selection job group a told = told
draws_told (Profile number line cause) printer panel selection job group a told = told
draws_told (Stopped error) printer panel selection job group a told = inr told

-- ---- the command

module _ (IsPrinter : Printer → List ℕ → Type 0) (choices : List Choice) (selection : Selection) (job : List ℕ) (a : BeforeAndAfter) where
  pub picture_left : (status : Status) → IsFalse (is_refusal status) → LeavesPictureOf status IsPrinter choices selection job a →
      LeavesPicture status IsPrinter choices selection job a
  picture_left Pass answer left = left
  picture_left Fail answer left = left
  picture_left Help answer left = left
  picture_left Usage answer left = left
  picture_left (Overwrites input) answer left = left
  picture_left (NotAllowed choice) answer left = absurd cc
  picture_left (Told trouble) answer left = left
  picture_left (Profile number line cause) answer left = absurd cc
  picture_left (Stopped error) answer left = inr left

  -- where the profile is not had nothing was read of the job, and nothing written
  pub no_printer : (number : ℕ) (text : Option (List ℕ)) (status : Status) → IsUntouched a → IsEndOfProfile number text status →
      LeavesPicture status IsPrinter choices selection job a
  no_printer number text (Profile refused line cause) untouched end = untouched
  no_printer number text (Stopped error) untouched end = inl untouched
  no_printer number text Pass untouched end = absurd end
  no_printer number text Fail untouched end = absurd end
  no_printer number text Help untouched end = absurd end
  no_printer number text Usage untouched end = absurd end
  no_printer number text (Overwrites input) untouched end = absurd end
  no_printer number text (NotAllowed choice) untouched end = absurd end
  no_printer number text (Told trouble) untouched end = absurd end

  -- nor where the panel may not have a choice, but for its line
  pub no_panel : (status : Status) (printer : Printer) (choice : Choice) → IsUnsearched a →
      (IsFalse (is_refused_choice status) → Stays a.err a.err') → TellsOfChoice status printer choice a.err a.err' →
      LeavesPicture status IsPrinter choices selection job a
  no_panel (NotAllowed told) printer choice unsearched quiet line = unsearched
  no_panel (Stopped Memory) printer choice unsearched quiet line = inl (unsearched, quiet refl)
  no_panel (Stopped Read) printer choice unsearched quiet line = absurd line
  no_panel (Stopped Write) printer choice unsearched quiet line = absurd line
  no_panel (Stopped Turns) printer choice unsearched quiet line = absurd line
  no_panel (Stopped NoProfile) printer choice unsearched quiet line = absurd line
  no_panel (Stopped Items) printer choice unsearched quiet line = absurd line
  no_panel Pass printer choice unsearched quiet line = absurd line
  no_panel Fail printer choice unsearched quiet line = absurd line
  no_panel Help printer choice unsearched quiet line = absurd line
  no_panel Usage printer choice unsearched quiet line = absurd line
  no_panel (Overwrites input) printer choice unsearched quiet line = absurd line
  no_panel (Profile number row cause) printer choice unsearched quiet line = absurd line
  no_panel (Told trouble) printer choice unsearched quiet line = absurd line

-- the names of a group are those of its texts
pub names_of : {X : Type 0} (bytes : X → List ℕ) (items slice : List X) (name : List ℕ) (group : Groups) → group.names ≡ map bytes slice →
    slice ≡ items → map bytes items ≡ name ∷ [] → group.names ≡ name ∷ []
names_of bytes items slice name group are same named = are ∙ (ap (map bytes) same ∙ named)

-- ---- how the command ends without drawing

-- by a profile that is not had
pub record EndsEarly (text : Option (List ℕ)) (status : Status) : Type 0 where
  pub write : false ≡ is_stop_of_write status
  pub turns : status ≢ Stopped Turns
  pub one : RefusesOne text status

pub early_end : (text : Option (List ℕ)) (status : Status) → IsEndOfProfile 1 text status → EndsEarly text status
early_end text (Profile refused line cause) end = record { write = refl; turns = λ e. absurd cc; one = end }
early_end text (Stopped Memory) end = record { write = refl; turns = λ e. absurd cc; one = tt }
early_end text (Stopped Read) end = record { write = refl; turns = λ e. absurd cc; one = tt }
early_end text (Stopped Write) end = absurd end
early_end text (Stopped Turns) end = absurd end
early_end text (Stopped NoProfile) end = absurd end
early_end text (Stopped Items) end = absurd end
early_end text Pass end = absurd end
early_end text Fail end = absurd end
early_end text Help end = absurd end
early_end text Usage end = absurd end
early_end text (Overwrites input) end = absurd end
early_end text (NotAllowed choice) end = absurd end
early_end text (Told trouble) end = absurd end

-- by a choice that the panel may not have
pub record EndsByChoice (status : Status) : Type 0 where
  pub read : false ≡ is_stop_of_read status
  pub write : false ≡ is_stop_of_write status
  pub turns : status ≢ Stopped Turns
  pub one : (text : Option (List ℕ)) → RefusesOne text status
  pub text : (before after : List (List ℕ)) → RefusesRead before after 1 status

pub choice_ends : (status : Status) (printer : Printer) (choice : Choice) (old new : OutletState) →
    TellsOfChoice status printer choice old new → EndsByChoice status
choice_ends (NotAllowed told) printer choice old new line =
    record { read = refl; write = refl; turns = λ e. absurd cc; one = λ text. tt; text = λ before after. tt }
choice_ends (Stopped Memory) printer choice old new line =
    record { read = refl; write = refl; turns = λ e. absurd cc; one = λ text. tt; text = λ before after. tt }
choice_ends (Stopped Read) printer choice old new line = absurd line
choice_ends (Stopped Write) printer choice old new line = absurd line
choice_ends (Stopped Turns) printer choice old new line = absurd line
choice_ends (Stopped NoProfile) printer choice old new line = absurd line
choice_ends (Stopped Items) printer choice old new line = absurd line
choice_ends Pass printer choice old new line = absurd line
choice_ends Fail printer choice old new line = absurd line
choice_ends Help printer choice old new line = absurd line
choice_ends Usage printer choice old new line = absurd line
choice_ends (Overwrites input) printer choice old new line = absurd line
choice_ends (Profile number row cause) printer choice old new line = absurd line
choice_ends (Told trouble) printer choice old new line = absurd line

-- the line of such a choice
pub choice_told : (status : Status) (printer : Printer) (choice : Choice) (IsPrinter : Printer → Type 0) (choices : List Choice)
    (old new : OutletState) → IsPrinter printer → chosen_panel printer choices ≡ Err choice →
    TellsOfChoice status printer choice old new → TellsOfPin status IsPrinter choices old new
choice_told (NotAllowed told) printer choice IsPrinter choices old new named refused line =
    (printer, named, refused ∙ ap Err (sym line.0), subst (λ c. Writes old new (choice_line printer c)) (sym line.0) line.1)
choice_told (Stopped error) printer choice IsPrinter choices old new named refused line = tt
choice_told Pass printer choice IsPrinter choices old new named refused line = tt
choice_told Fail printer choice IsPrinter choices old new named refused line = tt
choice_told Help printer choice IsPrinter choices old new named refused line = tt
choice_told Usage printer choice IsPrinter choices old new named refused line = tt
choice_told (Overwrites input) printer choice IsPrinter choices old new named refused line = tt
choice_told (Profile number row cause) printer choice IsPrinter choices old new named refused line = tt
choice_told (Told trouble) printer choice IsPrinter choices old new named refused line = tt

-- where nothing is refused no choice is
pub no_choice : (status : Status) (IsPrinter : Printer → Type 0) (choices : List Choice) (old new : OutletState) →
    IsFalse (is_refusal status) → TellsOfPin status IsPrinter choices old new
no_choice (NotAllowed told) IsPrinter choices old new answer = absurd cc
no_choice (Stopped error) IsPrinter choices old new answer = tt
no_choice Pass IsPrinter choices old new answer = tt
no_choice Fail IsPrinter choices old new answer = tt
no_choice Help IsPrinter choices old new answer = tt
no_choice Usage IsPrinter choices old new answer = tt
no_choice (Overwrites input) IsPrinter choices old new answer = tt
no_choice (Profile number row cause) IsPrinter choices old new answer = tt
no_choice (Told trouble) IsPrinter choices old new answer = tt

-- nor a profile
pub none_refused : (status : Status) (text : Option (List ℕ)) → IsFalse (is_refusal status) → RefusesOne text status
none_refused (Profile row line cause) text answer = absurd cc
none_refused (NotAllowed told) text answer = tt
none_refused (Stopped error) text answer = tt
none_refused Pass text answer = tt
none_refused Fail text answer = tt
none_refused Help text answer = tt
none_refused Usage text answer = tt
none_refused (Overwrites input) text answer = tt
none_refused (Told trouble) text answer = tt

pub no_text_refused : (status : Status) (before after : List (List ℕ)) → IsFalse (is_refusal status) → RefusesRead before after 1 status
no_text_refused (Profile row line cause) before after answer = absurd cc
no_text_refused (NotAllowed told) before after answer = tt
no_text_refused (Stopped error) before after answer = tt
no_text_refused Pass before after answer = tt
no_text_refused Fail before after answer = tt
no_text_refused Help before after answer = tt
no_text_refused Usage before after answer = tt
no_text_refused (Overwrites input) before after answer = tt
no_text_refused (Told trouble) before after answer = tt

-- nothing is refused, and no read failed
pub refused_nothing : (refusal failed : Bool) → IsFalse refusal → failed ≡ false → IsTrue (refusal || failed) → ⊥
refused_nothing true failed none working either = absurd cc
refused_nothing false failed none working either = absurd cc
