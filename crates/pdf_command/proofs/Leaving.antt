-- Lemmas on what `pdf` leaves.
use Rattle.std.proofs.Common.{◌≡◌, inl, inr, ℕ, Bool, true, false, true≢false, List, Option, Ok, Err, Result, refl, ap, sym, IsFalse}
use Rattle.std.specs.Prelude.{◌&&◌, IfErr, IfOk, not}
use Rattle.device_profile.specs.declared.panel.Panel.{Panel}
use Rattle.device_profile.specs.Printer.{IsAllowed, Printer}
use Rattle.job_pdf.specs.Plan.{Plan}
use Rattle.named_inputs.specs.Choices.{TellsOfChoice}
use Rattle.named_inputs.specs.Fleet.{IsEndOfProfile}
use Rattle.pdf_command.specs.declared.command.PdfEnd.{PdfEnd}
use Rattle.pdf_command.specs.Pdf.{Around, DrawsBy, DrawsOrStops, DrawsPages, EndsBefore, IsEndOfPages, IsUndrawn, IsUnsearched, IsUntouched}
use Rattle.pdf_command.specs.Pdf.{GivesUpBy, LeavesPdfBy, LeavesPdfOf, first_wanted, limited, passes_limit, search_of}
use Rattle.picture_command.proofs.Commands.{search_writes}
use Rattle.renderings.specs.declared.outcome.Outcome.{Outcome}
use Rattle.renderings.specs.declared.outcome.Outcome.TheVariants.{Done as AllDone, Fail as FailsOf}
use Rattle.renderings.specs.Expected.{Rendering}
use Rattle.requests.specs.declared.choices.Choice.{Choice}
use Rattle.requests.specs.declared.selection.Selection.{Selection}
use Rattle.requests.specs.declared.status.Status.{Status}
use Rattle.requests.specs.declared.status.Status.TheVariants.{Pass, Fail, Help, Usage, Overwrites, NotAllowed, Told, Profile, Stopped}
use Rattle.requests.specs.Status.{IsEndOfOpening, is_answer, is_refusal, is_refused_choice, is_stop_of_write}
use Rattle.streams.specs.declared.error.Error.{Error}
use Rattle.streams.specs.declared.error.Error.TheVariants.{Memory, Read, Write, Turns, NoProfile, Items}
use Rattle.streams.specs.Outlet.{OutletState, Stays}
use Rattle.streams.specs.Source.{SourceState}
use Rattle.subcommands.specs.JobTexts.{LeavesLine}

-- ---- the end before the document

module _ (search : Rendering) (selection : Selection) (job job' : SourceState) (err err' : OutletState) where
  -- no write failed
  pub before_writes : (lacks : Bool) (status : Status) → EndsBefore lacks status search selection job job' err err' →
      false ≡ is_stop_of_write status
  before_writes true status ends = ap is_stop_of_write (sym ends.0)
  before_writes false Pass ends = absurd ends
  before_writes false Fail ends = absurd ends
  before_writes false Help ends = absurd ends
  before_writes false Usage ends = absurd ends
  before_writes false (Overwrites input) ends = absurd ends
  before_writes false (NotAllowed choice) ends = absurd ends
  before_writes false (Told trouble) ends = absurd ends
  before_writes false (Profile number line cause) ends = absurd ends
  before_writes false (Stopped error) ends = search_writes error ends.0

  -- nothing is refused
  pub before_refuses : (lacks : Bool) (status : Status) → EndsBefore lacks status search selection job job' err err' →
      IsFalse (is_refusal status)
  before_refuses true status ends = ap is_refusal ends.0
  before_refuses false Pass ends = absurd ends
  before_refuses false Fail ends = absurd ends
  before_refuses false Help ends = absurd ends
  before_refuses false Usage ends = absurd ends
  before_refuses false (Overwrites input) ends = absurd ends
  before_refuses false (NotAllowed choice) ends = absurd ends
  before_refuses false (Told trouble) ends = absurd ends
  before_refuses false (Profile number line cause) ends = absurd ends
  before_refuses false (Stopped error) ends = refl

  -- there is no answer from a document
  pub before_answers : (lacks : Bool) (status : Status) → EndsBefore lacks status search selection job job' err err' →
      IsFalse (not lacks && is_answer status)
  before_answers true status ends = refl
  before_answers false Pass ends = absurd ends
  before_answers false Fail ends = absurd ends
  before_answers false Help ends = absurd ends
  before_answers false Usage ends = absurd ends
  before_answers false (Overwrites input) ends = absurd ends
  before_answers false (NotAllowed choice) ends = absurd ends
  before_answers false (Told trouble) ends = absurd ends
  before_answers false (Profile number line cause) ends = absurd ends
  before_answers false (Stopped error) ends = refl

-- ---- the pages

module _ (printer : Printer) (panel : Panel) (plan : Plan) (a : Around) where
  -- where it ends before the document
  pub before_left : (lacks : Bool) (status : Status) →
      EndsBefore lacks status (search_of printer panel plan) (first_wanted plan.selection) a.first a.first' a.err a.err' →
      IsUndrawn a → DrawsBy lacks status printer panel plan a
  before_left true status ends undrawn = (ends.0, ends.1, undrawn)
  before_left false Pass ends undrawn = absurd ends
  before_left false Fail ends undrawn = absurd ends
  before_left false Help ends undrawn = absurd ends
  before_left false Usage ends undrawn = absurd ends
  before_left false (Overwrites input) ends undrawn = absurd ends
  before_left false (NotAllowed choice) ends undrawn = absurd ends
  before_left false (Told trouble) ends undrawn = absurd ends
  before_left false (Profile number line cause) ends undrawn = absurd ends
  before_left false (Stopped error) ends undrawn = inl (ends.1, undrawn, ends.2)

  -- where pages are drawn
  pub pages_left : (status : Status) → DrawsPages status printer panel plan a → DrawsOrStops status printer panel plan a
  pages_left Pass drawn = drawn
  pages_left Fail drawn = drawn
  pages_left Help drawn = drawn
  pages_left Usage drawn = drawn
  pages_left (Overwrites input) drawn = drawn
  pages_left (NotAllowed choice) drawn = drawn
  pages_left (Told trouble) drawn = drawn
  pages_left (Profile number line cause) drawn = drawn
  pages_left (Stopped error) drawn = inr drawn

-- ---- the command

module _ (IsPrinter : Printer → List ℕ → Type 0) (most : Option ℕ) (choices : List Choice) (selection : Selection)
    (is_proof : Bool) (name : List ℕ) (a : Around) where
  -- where nothing is refused
  pub left_by : (status : Status) (end : PdfEnd) → IsFalse (is_refusal status) →
      LeavesPdfOf end IsPrinter most choices selection is_proof name a →
      LeavesPdfBy status end IsPrinter most choices selection is_proof name a
  left_by Pass end answer left = left
  left_by Fail end answer left = left
  left_by Help end answer left = left
  left_by Usage end answer left = left
  left_by (Overwrites input) end answer left = left
  left_by (NotAllowed choice) end answer left = absurd cc
  left_by (Told trouble) end answer left = left
  left_by (Profile number line cause) end answer left = absurd cc
  left_by (Stopped error) end answer left = inr left

  -- where the profile is not had nothing was read of the job, and nothing written
  pub no_printer : (number : ℕ) (text : Option (List ℕ)) (status : Status) (end : PdfEnd) → IsUntouched a →
      IsEndOfProfile number text status → LeavesPdfBy status end IsPrinter most choices selection is_proof name a
  no_printer at text Pass end untouched told = absurd told
  no_printer at text Fail end untouched told = absurd told
  no_printer at text Help end untouched told = absurd told
  no_printer at text Usage end untouched told = absurd told
  no_printer at text (Overwrites input) end untouched told = absurd told
  no_printer at text (NotAllowed choice) end untouched told = absurd told
  no_printer at text (Told trouble) end untouched told = absurd told
  no_printer at text (Profile number line cause) end untouched told = untouched
  no_printer at text (Stopped error) end untouched told = inl untouched

  -- nor where the panel may not have a choice, but for its line
  pub no_panel : (status : Status) (end : PdfEnd) (printer : Printer) (choice : Choice) → IsUnsearched a →
      (IsFalse (is_refused_choice status) → Stays a.err a.err') → TellsOfChoice status printer choice a.err a.err' →
      LeavesPdfBy status end IsPrinter most choices selection is_proof name a
  no_panel Pass end printer choice unsearched quiet line = absurd line
  no_panel Fail end printer choice unsearched quiet line = absurd line
  no_panel Help end printer choice unsearched quiet line = absurd line
  no_panel Usage end printer choice unsearched quiet line = absurd line
  no_panel (Overwrites input) end printer choice unsearched quiet line = absurd line
  no_panel (NotAllowed told) end printer choice unsearched quiet line = unsearched
  no_panel (Told trouble) end printer choice unsearched quiet line = absurd line
  no_panel (Profile number row cause) end printer choice unsearched quiet line = absurd line
  no_panel (Stopped Memory) end printer choice unsearched quiet line = inl (unsearched, quiet refl)
  no_panel (Stopped Read) end printer choice unsearched quiet line = absurd line
  no_panel (Stopped Write) end printer choice unsearched quiet line = absurd line
  no_panel (Stopped Turns) end printer choice unsearched quiet line = absurd line
  no_panel (Stopped NoProfile) end printer choice unsearched quiet line = absurd line
  no_panel (Stopped Items) end printer choice unsearched quiet line = absurd line

-- ---- how the work on the pages ends

-- it has no profile and no choice to refuse
pub pages_refuse : (status : Status) → IsEndOfPages status → IsFalse (is_refusal status)
pages_refuse Pass end = refl
pages_refuse Fail end = refl
pages_refuse Help end = absurd end
pages_refuse Usage end = absurd end
pages_refuse (Overwrites input) end = refl
pages_refuse (NotAllowed choice) end = absurd end
pages_refuse (Told trouble) end = absurd end
pages_refuse (Profile number line cause) end = absurd end
pages_refuse (Stopped error) end = refl

-- so it ends where there is no open job beside an OUT that was created
pub opening_ends : (status : Status) → IsEndOfOpening status → IsEndOfPages status
opening_ends Pass end = absurd end
opening_ends Fail end = absurd end
opening_ends Help end = absurd end
opening_ends Usage end = absurd end
opening_ends (Overwrites input) end = tt
opening_ends (NotAllowed choice) end = absurd end
opening_ends (Told trouble) end = absurd end
opening_ends (Profile number line cause) end = absurd end
opening_ends (Stopped Memory) end = tt
opening_ends (Stopped Read) end = tt
opening_ends (Stopped Write) end = tt
opening_ends (Stopped Turns) end = absurd end
opening_ends (Stopped NoProfile) end = absurd end
opening_ends (Stopped Items) end = absurd end

-- ---- the limit of items

-- a panel that the printer may have without it
pub limited_allowed : (most : Option ℕ) (printer : Printer) (panel : Panel) → IsAllowed printer panel →
    IsAllowed (limited most printer) panel
limited_allowed most printer panel allowed = record {
  size = allowed.size;
  orientation = allowed.orientation;
  vmi = allowed.vmi;
  font = allowed.font;
  copies = allowed.copies;
  sides = allowed.sides;
  tray = allowed.tray;
  line_termination = allowed.line_termination;
}

-- the line of the failure tells it, where the work ended by one
pub limit_told : {O : Type 0} (old new : O) (work : Result Outcome Error) (status : Status) (gives_up : Bool)
    (start end : OutletState) → gives_up ≡ passes_limit work → IfOk work (λ outcome. LeavesLine outcome status start end) →
    IfErr work (λ error. (status ≡ Stopped error) × (new ≡ old)) → GivesUpBy status gives_up start end
limit_told old new (Ok (FailsOf place profile reason)) Fail gives_up start end is line stop =
    record { place = place; profile = profile; reason = reason; told = line; is_limit = is }
limit_told old new (Ok AllDone) Fail gives_up start end is line stop = absurd line
limit_told old new (Err error) Fail gives_up start end is line stop = let never : Fail ≡ Stopped error = stop.0 in absurd cc
limit_told old new work Pass gives_up start end is line stop = tt
limit_told old new work Help gives_up start end is line stop = tt
limit_told old new work Usage gives_up start end is line stop = tt
limit_told old new work (Overwrites input) gives_up start end is line stop = tt
limit_told old new work (NotAllowed choice) gives_up start end is line stop = tt
limit_told old new work (Told trouble) gives_up start end is line stop = tt
limit_told old new work (Profile number row cause) gives_up start end is line stop = tt
limit_told old new work (Stopped error) gives_up start end is line stop = tt

-- and where there is no open job beside an OUT that was created, there is no failure
pub opening_gives_up : (status : Status) (start end : OutletState) → IsEndOfOpening status → GivesUpBy status false start end
opening_gives_up Pass start end ends = absurd ends
opening_gives_up Fail start end ends = absurd ends
opening_gives_up Help start end ends = absurd ends
opening_gives_up Usage start end ends = absurd ends
opening_gives_up (Overwrites input) start end ends = tt
opening_gives_up (NotAllowed choice) start end ends = absurd ends
opening_gives_up (Told trouble) start end ends = absurd ends
opening_gives_up (Profile number row cause) start end ends = absurd ends
opening_gives_up (Stopped error) start end ends = tt

-- nor where it ends before the document, and the job does not lack the page
module _ (search : Rendering) (selection : Selection) (job job' : SourceState) (err err' line line' : OutletState) where
  pub before_gives_up : (lacks : Bool) (status : Status) (gives_up : Bool) →
      EndsBefore lacks status search selection job job' err err' → IsFalse lacks → GivesUpBy status gives_up line line'
  before_gives_up true status gives_up ends there = absurd (true≢false there)
  before_gives_up false Pass gives_up ends there = absurd ends
  before_gives_up false Fail gives_up ends there = absurd ends
  before_gives_up false Help gives_up ends there = absurd ends
  before_gives_up false Usage gives_up ends there = absurd ends
  before_gives_up false (Overwrites input) gives_up ends there = absurd ends
  before_gives_up false (NotAllowed choice) gives_up ends there = absurd ends
  before_gives_up false (Told trouble) gives_up ends there = absurd ends
  before_gives_up false (Profile number row cause) gives_up ends there = absurd ends
  before_gives_up false (Stopped error) gives_up ends there = tt

-- nor where the profile is not had
pub profile_gives_up : (number : ℕ) (text : Option (List ℕ)) (status : Status) (start end : OutletState) →
    IsEndOfProfile number text status → GivesUpBy status false start end
profile_gives_up at text Pass start end told = absurd told
profile_gives_up at text Fail start end told = absurd told
profile_gives_up at text Help start end told = absurd told
profile_gives_up at text Usage start end told = absurd told
profile_gives_up at text (Overwrites input) start end told = absurd told
profile_gives_up at text (NotAllowed choice) start end told = absurd told
profile_gives_up at text (Told trouble) start end told = absurd told
profile_gives_up at text (Profile number row cause) start end told = tt
profile_gives_up at text (Stopped error) start end told = tt

-- nor where the panel may not have a choice
pub panel_gives_up : (status : Status) (printer : Printer) (choice : Choice) (err err' start end : OutletState) →
    TellsOfChoice status printer choice err err' → GivesUpBy status false start end
panel_gives_up Pass printer choice err err' start end line = absurd line
panel_gives_up Fail printer choice err err' start end line = absurd line
panel_gives_up Help printer choice err err' start end line = absurd line
panel_gives_up Usage printer choice err err' start end line = absurd line
panel_gives_up (Overwrites input) printer choice err err' start end line = absurd line
panel_gives_up (NotAllowed told) printer choice err err' start end line = tt
panel_gives_up (Told trouble) printer choice err err' start end line = absurd line
panel_gives_up (Profile number row cause) printer choice err err' start end line = absurd line
panel_gives_up (Stopped error) printer choice err err' start end line = tt
