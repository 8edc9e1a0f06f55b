-- What an item comes to at once, and where it has begun.
use Rattle.std.proofs.Common.{◌≡◌, [], ◌∷◌, None, Bool, true, false, cond, Result, Ok, Err, refl, ap, sym, ◌∙◌, subst}
use Rattle.device_profile.specs.declared.panel.Panel.{Panel}
use Rattle.device_profile.specs.Printer.{Printer}
use Rattle.macro_store.specs.Store.{Store}
use Rattle.pcl_items.specs.declared.pcl.command.Command.TheVariants.{MacroControl}
use Rattle.pcl_items.specs.Items.{Entry, Reset, Parameterized, ExitLanguage}
use Rattle.page_env.specs.declared.change.Carried.{Carried}
use Rattle.page_env.specs.declared.change.Carried.TheVariants.{Stepped}
use Rattle.page_env.specs.declared.finding.Finding.{Finding}
use Rattle.page_env.specs.declared.page.Env.{Env}
use Rattle.page_env.specs.declared.page.Page.{Page}
use Rattle.page_env.specs.declared.table.PageItem.{PageItem}
use Rattle.page_env.specs.declared.table.PageItem.TheVariants as pages
use Rattle.page_env.specs.Action.{EndsWithStep, page_view}
use Rattle.page_env.specs.Answers.{CarriesOut, StandsStill, carried_of, effect_at}
use Rattle.page_env.specs.Effect.{effect_of}
use Rattle.page_env.specs.Rasters.{begun_by, is_of_raster}
use Rattle.page_env.specs.Settings.{Settings, State, settings_at, state_at}
use Rattle.page_env.specs.Table.{transition_of, coordinates_of}
use Rattle.page_machine.specs.declared.stop.Stop.{Stop}
use Rattle.page_machine.specs.declared.stop.Stop.TheVariants as stops
use Rattle.page_machine.specs.declared.steps.Interruption.{Interruption}
use Rattle.page_machine.specs.declared.steps.Interruption.TheVariants.{Found, Refused}
use Rattle.page_machine.specs.Defining.{LeavesMacros, is_defining, macros_after}
use Rattle.page_machine.specs.Event.{Event}
use Rattle.page_machine.specs.Follows.{Follows}
use Rattle.page_machine.specs.Macros.{in_job}
use Rattle.page_machine.specs.MachineState.{MachineState}
use Rattle.page_machine.specs.Machine.{CarriesOn, context_of, fields_of, item_of}
use Rattle.page_machine.specs.Run.{Conditions, Run, just, after, no_peaks, Done, Halts, drawing, printing, effect_run, own_run, begun_run}
use Rattle.page_machine.specs.Run.{item_run}
use Rattle.page_machine.specs.Still.{StaysFound, StaysPut, StillFound, is_one_step}
use Rattle.page_machine.proofs.Answering.{Alike, item-is_carried}
use Rattle.page_machine.proofs.Composed.{Follows-is, TakesUpTo-is}
use Rattle.page_machine.proofs.Still.{any_panel}

-- an item that is one step leaves the macros
leaves : (printer : Printer) (defaults : Settings) (s : State) (panel : Panel) (page : Page) (item : Entry) (step : Result Unit Finding) →
    effect_of s.settings (transition_of printer defaults s item) ≡ effect_at panel defaults page (carried_of step) → LeavesMacros item
leaves printer defaults s panel page Reset (Ok done) h = absurd cc
leaves printer defaults s panel page Reset (Err finding) h = absurd cc
leaves printer defaults s panel page ExitLanguage (Ok done) h = absurd cc
leaves printer defaults s panel page ExitLanguage (Err finding) h = absurd cc
leaves printer defaults s panel page (Parameterized MacroControl n) (Ok done) h = absurd cc
leaves printer defaults s panel page (Parameterized MacroControl n) (Err finding) h = absurd cc
leaves printer defaults s panel page _ step h = (refl, refl)

module _ (printer : Printer) (item : Entry) (old new : Page) (step : Result Unit Finding) (ends : EndsWithStep item)
    (h : CarriesOut (λ defaults s. transition_of printer defaults s item) old new (carried_of step)) where
  pub step_leaves : LeavesMacros item
  unfolding CarriesOut
  step_leaves =
      let defaults : Settings = settings_at any_panel old.env in
      leaves printer defaults (state_at any_panel old) any_panel new item step (h any_panel defaults)

  -- the run of an item that ends with its own step is what that came to
  pub step_runs : (conditions : Conditions) (panel : Panel) →
      begun_run printer conditions item (state_at panel old)
      ≡ effect_run conditions (effect_at panel conditions.defaults new (carried_of step))
  unfolding CarriesOut
  step_runs conditions panel =
      let own : Run = own_run printer conditions item (state_at panel old) in
      ap (λ bytes. drawing printer conditions (printing printer conditions own bytes) (coordinates_of item)) ends.0
      ∙ ap (drawing printer conditions own) ends.1
      ∙ ap (effect_run conditions) (h panel conditions.defaults)

-- an item that may close the page ends with its own step
pub page_run : (printer : Printer) (conditions : Conditions) (item : PageItem) (s : State) →
    begun_run printer conditions (page_view item) s ≡ own_run printer conditions (page_view item) s
page_run printer conditions pages.CarriageReturn s = refl
page_run printer conditions pages.LineFeed s = refl
page_run printer conditions pages.HalfLineFeed s = refl
page_run printer conditions pages.FormFeed s = refl
page_run printer conditions pages.Reset s = refl
page_run printer conditions pages.ExitLanguage s = refl
page_run printer conditions (pages.Command command n) s = refl

-- what is left of an item of the job, where it has begun
module _ (printer : Printer) (item : Entry) (left : PageItem) (old new : Page) (result : Result Carried Finding)
    (is : item ≡ page_view left) (begun : (panel : Panel) → begun_by item (state_at panel old) ≡ state_at panel old)
    (h : CarriesOut (λ defaults s. transition_of printer defaults s (page_view left)) old new result) where
  pub left_runs : (conditions : Conditions) (panel : Panel) →
      item_run printer conditions item (state_at panel old) ≡ effect_run conditions (effect_at panel conditions.defaults new result)
  unfolding CarriesOut
  left_runs conditions panel =
      ap (begun_run printer conditions item) (begun panel)
      ∙ ap (λ entry. begun_run printer conditions entry (state_at panel old)) is
      ∙ page_run printer conditions left (state_at panel old)
      ∙ ap (effect_run conditions) (h panel conditions.defaults)

  pub left_leaves : result ≡ Ok Stepped → LeavesMacros item
  unfolding CarriesOut
  left_leaves stepped =
      let defaults : Settings = settings_at any_panel old.env in
      subst LeavesMacros (sym is)
      (leaves printer defaults (state_at any_panel old) any_panel new (page_view left) (Ok tt)
      (h any_panel defaults ∙ ap (effect_at any_panel defaults new) stepped))

-- ---- an item that has begun

module _ (item : Entry) (old begun : Page) (begins : (panel : Panel) → begun_by item (state_at panel old) ≡ state_at panel begun) where
  -- its run is that of the item that it is
  pub item_run-begun : (printer : Printer) (conditions : Conditions) (panel : Panel) (same : Entry) (new : Page) → item ≡ same →
      new ≡ begun → item_run printer conditions item (state_at panel old) ≡ begun_run printer conditions same (state_at panel new)
  item_run-begun printer conditions panel same new is page =
      ap (begun_run printer conditions item) (begins panel)
      ∙ ap (λ entry. begun_run printer conditions entry (state_at panel begun)) is
      ∙ ap (λ p. begun_run printer conditions same (state_at panel p)) (sym page)

  module _ {S : Type 0} (takes refuses : S → Event → S → Type 0) (F : Type 0) (sink sink' : S) (page : Page) (printer : Printer)
      (result : Result Unit (Interruption F)) where
    pub Follows-begun : (same : Entry) (new : Page) → item ≡ same → new ≡ begun →
        ((conditions : Panel → Conditions) →
        Follows takes refuses (λ panel. begun_run printer (conditions panel) same (state_at panel new)) sink sink' page result) →
        (conditions : Panel → Conditions) →
        Follows takes refuses (λ panel. item_run printer (conditions panel) item (state_at panel old)) sink sink' page result
    Follows-begun same new is begin h conditions =
        Follows-is takes refuses F sink sink' page (λ panel. begun_run printer (conditions panel) same (state_at panel new))
        (λ panel. item_run printer (conditions panel) item (state_at panel old)) result
        (λ panel. item_run-begun printer (conditions panel) panel same new is begin) (h conditions)

  again : (b : Bool) (s : State) → let ended : State =
      record s { raster = None } in cond b (cond b s ended) (record (cond b s ended) { raster = None }) ≡ cond b s ended
  again true s = refl
  again false s = refl

  -- an item that has begun goes on as it does from where it begins
  pub begins_again : (panel : Panel) → begun_by item (state_at panel begun) ≡ state_at panel begun
  begins_again panel = subst (λ s. begun_by item s ≡ s) (begins panel) (again (is_of_raster item) (state_at panel old))

  kept : (b : Bool) (s : State) → (cond b s (record s { raster = None })).settings ≡ s.settings
  kept true s = refl
  kept false s = refl

  -- as it begins it ends no more than a raster
  same_settings : (panel : Panel) → settings_at panel begun.env ≡ settings_at panel old.env
  same_settings panel = sym (ap (λ s. s.settings) (begins panel)) ∙ kept (is_of_raster item) (state_at panel old)

  there : (b : Bool) (s : State) → (cond b s (record s { raster = None })).cursor ≡ s.cursor
  there true s = refl
  there false s = refl

  same_cursor : begun.cursor ≡ old.cursor
  same_cursor = sym (ap (λ s. s.cursor) (begins any_panel)) ∙ there (is_of_raster item) (state_at any_panel old)

  pub begun_stays : (new : Page) → StandsStill begun new → StaysPut old new
  begun_stays new still = λ panel. (ap (settings_at panel) still.env ∙ same_settings panel, still.cursor ∙ same_cursor)

  -- a step from where the item has begun leaves what it leaves
  pub StaysFound-begun : {F : Type 0} (mid new : Page) → mid ≡ begun → (ran : Result Unit (Interruption F)) → StillFound mid new ran →
      StaysFound old new ran
  StaysFound-begun mid new is (Ok done) still = tt
  StaysFound-begun mid new is (Err (Found finding)) still = begun_stays new (subst (λ (p : Page). StandsStill p new) is still)
  StaysFound-begun mid new is (Err (Refused fault)) still = tt

  same_id : begun.env.job.macro_id ≡ old.env.job.macro_id
  same_id =
      sym (ap (λ s. s.settings.job.macro_id) (begins any_panel))
      ∙ ap (λ settings. settings.job.macro_id) (kept (is_of_raster item) (state_at any_panel old))

  pub item-has_begun : (printer : Printer) (defaults : Env) (macros : Store) → is_defining macros ≡ false →
      Alike (item_of (fields_of printer defaults begun macros) item) (item_of (fields_of printer defaults old macros) item)
  item-has_begun printer defaults macros none =
      let machine_before : MachineState = fields_of printer defaults old macros in
      let behind : MachineState = fields_of printer defaults begun macros in (
        λ panel.
            (item-is_carried item machine_before none).0 panel
            ∙ ap (begun_run printer (in_job (context_of machine_before panel)) item) (begins panel ∙ sym (begins_again panel))
            ∙ sym ((item-is_carried item behind none).0 panel),
        ap (λ id. macros_after id item macros) (sym same_id),
        refl,
      )

not_both : false ≡ true → ⊥
not_both h = absurd cc

-- a call from where an item of more than one step has begun is one from where the item begins
module _ {S : Type 0} (takes refuses : S → Event → S → Type 0) (F : Type 0) (sink sink' : S) (item : Entry) (old machine' : MachineState)
    (begun : Page) (running : old.stopped ≡ false) (many : is_one_step item ≡ false) where
  abbrev pub from : MachineState
  from = record old { page = begun }

  pub CarriesOn-begun : (result : Result Unit (Stop F)) → Alike (item_of from item) (item_of old item) →
      CarriesOn takes refuses (item_of from item) false sink sink' from machine' result →
      CarriesOn takes refuses (item_of old item) false sink sink' old machine' result
  CarriesOn-begun (Ok done) e h = (
    running,
    h.1 ∙ ap (λ macros. record old { page = machine'.page; macros = macros; mode = (item_of old item).mode; stopped = false }) (sym e.1),
    TakesUpTo-is takes refuses sink sink' (item_of from item).run (item_of old item).run
        (λ panel. just [] (Done (state_at panel machine'.page))) e.0 h.2,
  )
  CarriesOn-begun (Err (stops.Found finding)) e h = (
    running,
    h.1,
    TakesUpTo-is takes refuses sink sink' (item_of from item).run (item_of old item).run (λ panel. just [] (Halts finding)) e.0 h.2,
    record { printer = h.3.printer; stays = λ one. absurd (not_both (sym many ∙ one)) },
  )
  CarriesOn-begun (Err (stops.Refused fault)) e h = (
    running,
    h.1,
    record {
      mid = h.2.mid;
      event = h.2.event;
      rest = h.2.rest;
      took =
          TakesUpTo-is takes refuses sink h.2.mid (item_of from item).run (item_of old item).run
          (λ panel. after (h.2.event ∷ []) no_peaks (h.2.rest panel)) e.0 h.2.took;
      refused = h.2.refused;
    },
  )
  CarriesOn-begun (Err (stops.Memory error)) e h = (
    running,
    h.1,
    e.2 ∙ h.2,
    (
      h.3.0,
      TakesUpTo-is takes refuses sink sink' (item_of from item).run (item_of old item).run
          (λ panel. just [] (Done (state_at panel h.3.0))) e.0 h.3.1,
    ),
  )
  CarriesOn-begun (Err stops.Stopped) e h = absurd (not_both (sym running ∙ h.0))
