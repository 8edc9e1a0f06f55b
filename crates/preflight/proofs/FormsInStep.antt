-- Commands of forms that the machines of a fleet execute in step.
use Rattle.std.specs.Prelude.{IfSome, is_none}
use Rattle.std.proofs.Common.{◌≡◌, ◌⊎◌, inl, inr, ℕ, true, false, Option, None, Some, List, [], ◌∷◌, map, length, refl, sym, ap, subst, ◌∙◌}
use Rattle.std.proofs.Common.{arith}
use Rattle.device_profile.specs.Printer.{Printer}
use Rattle.pcl_items.specs.declared.pcl.command.Command.{Command}
use Rattle.pcl_items.specs.Escapes.Value.{Amount}
use Rattle.pcl_items.specs.Items.{Entry, HalfLineFeed, Parameterized}
use Rattle.page_env.specs.declared.page.Page.{Page}
use Rattle.page_env.specs.declared.lookup.FormBounds.{FormBounds}
use Rattle.page_env.specs.Forms.{Across, AcrossDecipoints, Columns, Down, DownDecipoints, Filled, Form, Height, LeavesRest, Rows}
use Rattle.page_env.specs.Forms.{Stacked, Width, command_of}
use Rattle.page_env.specs.Likeness.{command_asks_alike}
use Rattle.page_env.specs.Mark.{Shape}
use Rattle.page_env.specs.Settings.{state_at}
use Rattle.page_env.specs.declared.text_lines.TextAppearance.{TextAppearance}
use Rattle.page_env.specs.declared.text_lines.TextPlace.{TextPlace}
use Rattle.page_env.specs.TextLines.{behind}
use Rattle.page_env.specs.TextMeasure.{TextMeasure}
use Rattle.page_env.proofs.FormFacts.{bounds_still, measure_still}
use Rattle.page_machine.specs.Event.{Event, Marked}
use Rattle.page_machine.specs.Forms.{FormsOn, RunsFeed, RunsForm}
use Rattle.page_machine.specs.Likeness.{RunsOnLike}
use Rattle.page_machine.specs.MachineState.{MachineState}
use Rattle.page_machine.specs.Run.{peaks_of}
use Rattle.page_machine.specs.TextLines.{MeasuresLines, PrintsLines, machine_behind}
use Rattle.sinks.specs.declared.counts.Counts.{Counts}
use Rattle.sinks.specs.Counts.{counts_after}
use Rattle.preflight.specs.declared.fleet_mode.FleetMode.{FleetMode}
use Rattle.preflight.specs.declared.fleet_mode.FleetMode.TheVariants.{Alone, Together, Defining, Apart}
use Rattle.preflight.specs.Carriers.Each.{Each}
use Rattle.preflight.specs.Carriers.FleetMode.{AskAlike, others_in, IsFormed, GoesAsOne}
use Rattle.preflight.specs.Carriers.FormsInStep.{FirstForms, FirstKeeps, FirstMeasures}
use Rattle.preflight.specs.Carriers.Lockstep.{Execute, Does}
use Rattle.preflight.proofs.FleetModes.{all_do, command_as_one}

-- it asks nothing of the device
form_asks : (form : Form) (p q : Printer) (n : Amount) → command_asks_alike p q (command_of form) n ≡ true
form_asks Across p q n = refl
form_asks Down p q n = refl
form_asks AcrossDecipoints p q n = refl
form_asks DownDecipoints p q n = refl
form_asks Columns p q n = refl
form_asks Rows p q n = refl
form_asks Stacked p q n = refl
form_asks Width p q n = refl
form_asks Height p q n = refl
form_asks Filled p q n = refl

module _ (law : (item : Entry) → RunsOnLike item) (command : Command) (n : Amount) (marks : ℕ) (fleet_mode : FleetMode)
    (first first' : MachineState) (others : List MachineState)
    (running : first.stopped ≡ false) (formed : IsFormed fleet_mode first others)
    (together : (fleet_mode ≡ Alone) ⊎ (fleet_mode ≡ Together))
    (bare : first.page.env.job.overlay ≡ None) (runs : RunsForm command n marks first first') where
  abbrev item : Entry
  item = Parameterized command n

  abbrev events : List Event
  events = map Marked runs.shapes

  first_does : Does (Execute item) events first first'
  first_does = record {
    is = runs.is ∙ (λ i. record first { page = first'.page; macros = sym runs.macros i; mode = sym runs.mode i; stopped = running i });
    peaks = λ panel. peaks_of (state_at panel first'.page);
    run = runs.run;
  }

  asks_nothing : (p q : Printer) (m : Amount) → command_asks_alike p q command m ≡ true
  asks_nothing p q m = subst (λ c. command_asks_alike p q c m ≡ true) (sym runs.command_is) (form_asks runs.form p q m)

  as_one : (f : FleetMode) → (f ≡ Alone) ⊎ (f ≡ Together) → GoesAsOne f first others item
  as_one Alone h = tt
  as_one Together h = command_as_one first command n others asks_nothing bare
  as_one Defining (inl e) = absurd cc
  as_one Defining (inr e) = absurd cc
  as_one Apart (inl e) = absurd cc
  as_one Apart (inr e) = absurd cc

  pub all_form : Each (Does (Execute item) events) (first ∷ others_in fleet_mode first others) (first' ∷ others_in fleet_mode first' others)
  all_form = all_do law item events first first' first_does fleet_mode others formed (as_one fleet_mode together)

module _ (law : (item : Entry) → RunsOnLike item) (fleet_mode : FleetMode) (first first' : MachineState) (others : List MachineState)
    (running : first.stopped ≡ false) (formed : IsFormed fleet_mode first others)
    (together : (fleet_mode ≡ Alone) ⊎ (fleet_mode ≡ Together))
    (bare : first.page.env.job.overlay ≡ None) (runs : RunsFeed first first') where
  feed_does : Does (Execute HalfLineFeed) [] first first'
  feed_does = record {
    is = runs.is ∙ (λ i. record first { page = first'.page; macros = sym runs.macros i; mode = sym runs.mode i; stopped = running i });
    peaks = λ panel. peaks_of (state_at panel first'.page);
    run = runs.run;
  }

  -- it asks nothing of the device
  feed_asks : (machines : List MachineState) → AskAlike first HalfLineFeed machines
  feed_asks [] = tt
  feed_asks (m ∷ machines) = (record { asks = refl; leaves = λ e. absurd cc }, feed_asks machines)

  feed_as_one : (f : FleetMode) → (f ≡ Alone) ⊎ (f ≡ Together) → GoesAsOne f first others HalfLineFeed
  feed_as_one Alone h = tt
  feed_as_one Together h = inl (record { no_overlay = bare; leaves = λ e. absurd cc; alike = feed_asks others })
  feed_as_one Defining (inl e) = absurd cc
  feed_as_one Defining (inr e) = absurd cc
  feed_as_one Apart (inl e) = absurd cc
  feed_as_one Apart (inr e) = absurd cc

  pub all_feed :
      Each (Does (Execute HalfLineFeed) []) (first ∷ others_in fleet_mode first others) (first' ∷ others_in fleet_mode first' others)
  all_feed = all_do law HalfLineFeed [] first first' feed_does fleet_mode others formed (feed_as_one fleet_mode together)

-- no marks are counted as none
pub no_marks : (shapes : List Shape) (counts : Counts) → length shapes ≡ 0 → counts ≡ counts_after (map Marked shapes) counts
no_marks [] counts none = refl
no_marks (shape ∷ shapes) counts none = absurd (omega (arith, none))

-- what moves and rectangles take stays what it is
pub forms_kept : (bounds : FormBounds) (old new : List MachineState) → FirstKeeps old new → FirstForms bounds old → FirstForms bounds new
forms_kept bounds [] new kept forms = absurd forms
forms_kept bounds (m ∷ ms) [] kept forms = absurd kept
forms_kept bounds (m ∷ ms) (m' ∷ ms') kept forms =
    subst (λ (x : MachineState). FormsOn bounds x × (x.page.env.job.overlay ≡ None)) (sym kept.0) (
      record {
        page = bounds_still m.printer m.page m'.page bounds kept.1 forms.0.page;
        no_definition = forms.0.no_definition;
        mode = forms.0.mode;
      },
      ap (λ (p : Page). p.env.job.overlay) kept.1 ∙ forms.1,
    )

pub bound_kept : (known : Option FormBounds) (old new : List MachineState) → FirstKeeps old new →
    IfSome known (λ bounds. FirstForms bounds old) → IfSome known (λ bounds. FirstForms bounds new)
bound_kept None old new kept forms = tt
bound_kept (Some bounds) old new kept forms = forms_kept bounds old new kept forms

-- what text takes stays what it is
pub measures_kept : (measure : TextMeasure) (old new : List MachineState) → FirstKeeps old new → FirstMeasures measure old →
    FirstMeasures measure new
measures_kept measure [] new kept measures = absurd measures
measures_kept measure (m ∷ ms) [] kept measures = absurd kept
measures_kept measure (m ∷ ms) (m' ∷ ms') kept measures =
    subst (MeasuresLines measure) (sym kept.0) record {
      measure = measure_still m.printer m.page m'.page measure kept.1 measures.measure;
      no_definition = measures.no_definition;
      mode = measures.mode;
    }

-- where none is kept, each that is kept is right
pub none_of : {R : Type 0} (o : Option R) → is_none o ≡ true → o ≡ None
none_of None e = refl
none_of (Some r) e = absurd cc

pub none_kept : {R : Type 0} (P : R → Type 0) (o : Option R) → o ≡ None → IfSome o P
none_kept P o e = subst (λ known. IfSome known P) (sym e) tt

-- so they do where there may be none
pub some_kept : {R : Type 0} (P Q : R → Type 0) (known : Option R) → ((r : R) → P r → Q r) → IfSome known P → IfSome known Q
some_kept P Q None goes h = tt
some_kept P Q (Some r) goes h = goes r h

pub measure_kept : (measure : Option TextMeasure) (old new : List MachineState) → FirstKeeps old new →
    IfSome measure (λ m. FirstMeasures m old) → IfSome measure (λ m. FirstMeasures m new)
measure_kept None old new kept measured = tt
measure_kept (Some m) old new kept measured = measures_kept m old new kept measured

-- machines that were not moved stand where they did
pub keeps_self : (machines : List MachineState) → FirstKeeps machines machines
keeps_self [] = tt
keeps_self (m ∷ ms) = (refl, refl)

-- bytes that a machine prints change nothing else
pub prints_keep : (codes : List ℕ) (look : TextAppearance) (place : TextPlace) (old new : MachineState) →
    PrintsLines look place codes old new → (new ≡ record old { page = new.page }) × LeavesRest old.page new.page
prints_keep [] look place old new same =
    subst (λ (m : MachineState). (m ≡ record old { page = m.page }) × LeavesRest old.page m.page) (sym same) (refl, refl)
prints_keep (code ∷ codes) look place old new prints =
    prints_keep codes look (behind look code place) (machine_behind look place code old) new prints.2

-- a fleet whose first machine alone is moved is not apart
pub not_apart : (f : FleetMode) → (f ≡ Alone) ⊎ (f ≡ Together) → f ≡ Apart → ⊥
not_apart Alone h is = absurd cc
not_apart Together h is = absurd cc
not_apart Defining h is = absurd cc
not_apart Apart (inl e) is = absurd cc
not_apart Apart (inr e) is = absurd cc
