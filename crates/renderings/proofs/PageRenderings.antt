-- What an item does on a machine that knows its panel, and what is due of the rest of the job.
use Rattle.std.proofs.Common.{◌≡◌, ℕ, false, unwrap_or, IsFalse, Ok, Err, List, [], ◌∷◌, ◌++◌, None, Some, refl, ap, sym, ◌∙◌, subst}
use Rattle.std.proofs.Common.{append_assoc, append-nil}
use Rattle.pcl_items.specs.declared.item.Mode.{Mode}
use Rattle.pcl_items.specs.Modes.{follows}
use Rattle.pcl_items.specs.Items.{Entry, Placed}
use Rattle.pcl_lexer.specs.Reading.{Reading, Whole, Stopped, with_item}
use Rattle.device_profile.specs.declared.panel.Panel.{Panel}
use Rattle.device_profile.specs.Printer.{Printer}
use Rattle.macro_store.specs.Store.{no_macros}
use Rattle.page_env.specs.declared.finding.Finding.{Finding}
use Rattle.page_env.specs.Settings.{Settings, State, settings_at, state_at, start_state, user_defaults, unwatched}
use Rattle.page_machine.specs.declared.machine.Start.TheVariants.{At}
use Rattle.page_machine.specs.Event.{Event, TakesAll}
use Rattle.page_machine.specs.Run.{Peaks, Run, just, after, Ending, Done, Halts}
use Rattle.page_machine.specs.Job.{JobRun, events_of, after_item, ended_item, at_end, reading_run}
use Rattle.page_machine.specs.Follows.{TakesUpTo, Refuses}
use Rattle.page_machine.specs.MachineState.{MachineState}
use Rattle.page_machine.specs.Machine.{IsNew, TakesWhole, item_of, end_of}
use Rattle.streams.specs.declared.error.Error.{Error}
use Rattle.renderings.specs.declared.outcome.Outcome.{Outcome}
use Rattle.renderings.specs.declared.outcome.Outcome.TheVariants.{Done as AllDone, Fail}
use Rattle.verdict.specs.declared.reason.Reason.TheVariants.{Finding as FindingOfRun}
use Rattle.renderings.specs.declared.pages.PageText.{PageText}
use Rattle.renderings.specs.Expected.{Rendering, nothing_at_fault, pages_rendering}
use Rattle.streams.specs.Outlet.{OutletState, AddsFront}
use Rattle.renderings.specs.PageTexts.{event_line, events_text, page_after, run_outcome}
use Rattle.renderings.specs.Texts.{reading_outcome}
use Rattle.renderings.specs.Carriers.PageRendering.{LeadsTo, TakesLine, RefusesLine, any_panel, rest_run, pages_from}
use Rattle.renderings.specs.Carriers.Rendering.{RestGoesOn, EndsWith, BeginsWith, StartsWith, Ended, RendersItem}
use Rattle.streams.specs.Writing.{Puts}
use Rattle.renderings.proofs.Renderings.{Puts-none, Puts-trans, Puts-front, Puts-cut-front, same_outcome}

-- ---- the text of events

-- the number of the page behind events
abbrev pub pages_after : ℕ → List Event → ℕ
pages_after n [] = n
pages_after n (e ∷ es) = pages_after (page_after n e) es

pub events_text-append : (n : ℕ) (es fs : List Event) → events_text n (es ++ fs) ≡ events_text n es ++ events_text (pages_after n es) fs
events_text-append n [] fs = refl
events_text-append n (e ∷ es) fs =
    ap (λ t. event_line n e ++ t) (events_text-append (page_after n e) es fs)
    ∙ sym (append_assoc (event_line n e) (events_text (page_after n e) es) (events_text (pages_after (page_after n e) es) fs))

-- ---- what a sink took

module _ {W A : Type 0} (state : W → OutletState) where
  -- the text of all of them was put
  pub record HasLed (old new : PageText W A) (events : List Event) : Type 0 where
    pub same_outlet : new.outlet.ghost_name ≡ old.outlet.ghost_name
    pub same_kept : new.kept.ghost_name ≡ old.kept.ghost_name
    pub working : IsFalse (state new.outlet.now).failed
    pub puts : Puts (state old.outlet.now) (state new.outlet.now) old.kept.now.items new.kept.now.items (events_text old.page events)
    pub page_is : new.page ≡ pages_after old.page events

  pub led_all : (old new : PageText W A) (events : List Event) → IsFalse (state old.outlet.now).failed →
      TakesAll (TakesLine state) old events new → HasLed old new events
  led_all old new [] working h =
      subst (λ s. HasLed old s []) (sym h) (record {
        same_outlet = refl;
        same_kept = refl;
        working = working;
        puts = Puts-none (state old.outlet.now) old.kept.now.items;
        page_is = refl;
      })
  led_all old new (e ∷ es) working h =
      let mid : PageText W A = h.0 in
      let rest : HasLed mid new es = led_all mid new es h.1.2.working h.2 in
      let line : List ℕ = event_line old.page e in
      record {
        same_outlet = rest.same_outlet ∙ h.1.0;
        same_kept = rest.same_kept ∙ h.1.1;
        working = rest.working;
        puts =
            Puts-trans (state old.outlet.now) (state mid.outlet.now) (state new.outlet.now) old.kept.now.items mid.kept.now.items
            new.kept.now.items line (events_text (page_after old.page e) es) h.1.2.puts
            (subst (λ n. Puts (state mid.outlet.now) (state new.outlet.now) mid.kept.now.items new.kept.now.items (events_text n es))
            h.1.2.page_is rest.puts);
        page_is = rest.page_is ∙ ap (λ n. pages_after n es) h.1.2.page_is;
      }

  -- and of one more a front was written
  pub led_to : (old mid : PageText W A) (new : OutletState) (events : List Event) (event : Event) → HasLed old mid events →
      LeadsTo (state mid.outlet.now) new mid.kept.now.items mid.page event →
      AddsFront (state old.outlet.now) new (old.kept.now.items ++ events_text old.page (events ++ event ∷ []))
  led_to old mid new events event led front =
      let last : event_line mid.page event ≡ events_text (pages_after old.page events) (event ∷ []) =
      ap (λ n. event_line n event) led.page_is ∙ sym (append-nil (event_line (pages_after old.page events) event)) in
      subst (λ t. AddsFront (state old.outlet.now) new (old.kept.now.items ++ t))
      (ap (λ t. events_text old.page events ++ t) last ∙ sym (events_text-append old.page events (event ∷ [])))
      (Puts-front (state old.outlet.now) (state mid.outlet.now) new old.kept.now.items mid.kept.now.items (events_text old.page events)
      (event_line mid.page event) led.puts front)

-- ---- the run of the rest of a job

-- the events of an item stand first, however it ended
first_ended : (place : ℕ) (events : List Event) (peaks : Peaks) (ending : Ending) (next : State → JobRun) →
    (more : List Event) × (events_of (ended_item place events peaks ending next).items ≡ events ++ more)
first_ended place events peaks (Done s) next = (events_of (next s).items, refl)
first_ended place events peaks (Halts finding) next = ([], refl)

events_first : (place : ℕ) (r : Run) (next : State → JobRun) →
    (more : List Event) × (events_of (after_item place r next).items ≡ r.events ++ more)
events_first place r next = first_ended place r.events r.peaks r.ending next

-- an item's run, and then the next
module _ (n place : ℕ) (r : Run) (next : State → JobRun) (later : Outcome) where
  abbrev job : JobRun
  job = after_item place r next

  -- the item was done
  text_done : (events : List Event) (peaks : Peaks) (s : State) → r ≡ after events peaks (just [] (Done s)) →
      events_text n (events_of job.items) ≡ events_text n events ++ events_text (pages_after n events) (events_of (next s).items)
  text_done events peaks s e =
      ap (λ x. events_text n (events_of (after_item place x next).items)) e
      ∙ (ap (λ es. events_text n (es ++ events_of (next s).items)) (append-nil events)
      ∙ events_text-append n events (events_of (next s).items))

  outcome_done : (events : List Event) (peaks : Peaks) (s : State) → r ≡ after events peaks (just [] (Done s)) →
      run_outcome job.items later ≡ run_outcome (next s).items later
  outcome_done events peaks s e = ap (λ x. run_outcome (after_item place x next).items later) e

  -- it had a finding
  text_found : (events : List Event) (peaks : Peaks) (finding : Finding) → r ≡ after events peaks (just [] (Halts finding)) →
      events_text n (events_of job.items) ≡ events_text n events
  text_found events peaks finding e =
      ap (λ x. events_text n (events_of (after_item place x next).items)) e
      ∙ ap (events_text n) (append-nil (events ++ []) ∙ append-nil events)

  outcome_found : (events : List Event) (peaks : Peaks) (finding : Finding) → r ≡ after events peaks (just [] (Halts finding)) →
      run_outcome job.items later ≡ Fail place 1 (FindingOfRun finding)
  outcome_found events peaks finding e = ap (λ x. run_outcome (after_item place x next).items later) e

  -- its first events are known
  text_begun : (events others : List Event) → r.events ≡ events ++ others →
      (more : List ℕ) × (events_text n (events_of job.items) ≡ events_text n events ++ more)
  text_begun events others e =
      let first = events_first place r next in (
        events_text (pages_after n events) (others ++ first.0),
        ap (events_text n) (first.1 ∙ (ap (λ es. es ++ first.0) e ∙ append_assoc events others first.0))
            ∙ events_text-append n events (others ++ first.0),
      )

-- ---- what is rendered from a machine

module _ (machine : MachineState) (n : ℕ) where
  abbrev defaults : Settings
  defaults = settings_at any_panel machine.defaults

  abbrev behind_item : Placed → Reading → State → JobRun
  behind_item x rest s = reading_run machine.printer defaults rest (item_of machine x.item).macros s

  item_first : (x : Placed) (rest : Reading) →
      rest_run machine (with_item x rest) ≡ after_item x.place ((item_of machine x.item).run any_panel) (behind_item x rest)
  item_first x (Whole items place) = refl
  item_first x (Stopped items place cause) = refl

  -- the item was executed to its end
  pub item_goes : (x : Placed) (machine' : MachineState) (events : List Event) (peaks : Peaks)
      → machine'
      ≡ record machine {
        page = machine'.page;
        macros = (item_of machine x.item).macros;
        mode = (item_of machine x.item).mode;
        stopped = false;
      }
      → (item_of machine x.item).run any_panel ≡ after events peaks (just [] (Done (state_at any_panel machine'.page)))
      → RestGoesOn (pages_from machine n) (pages_from machine' (pages_after n events)) x (events_text n events)
  item_goes x machine' events peaks is run =
      let r : Run = (item_of machine x.item).run any_panel in
      let end : State = state_at any_panel machine'.page in
      let rest_is : (rest : Reading) → behind_item x rest end ≡ rest_run machine' rest =
      λ rest. sym (ap (λ (m : MachineState). reading_run m.printer (settings_at any_panel m.defaults) rest m.macros end) is) in
      record {
        due = λ rest.
            ap (λ (j : JobRun). events_text n (events_of j.items)) (item_first x rest)
            ∙ (text_done n x.place r (behind_item x rest) AllDone events peaks end run
            ∙ ap (λ (j : JobRun). events_text n events ++ events_text (pages_after n events) (events_of j.items)) (rest_is rest));
        outcome = λ rest.
            ap (λ (j : JobRun). run_outcome j.items (reading_outcome (with_item x rest))) (item_first x rest)
            ∙ (outcome_done n x.place r (behind_item x rest) (reading_outcome (with_item x rest)) events peaks end run
            ∙ (ap (λ (j : JobRun). run_outcome j.items (reading_outcome (with_item x rest))) (rest_is rest)
            ∙ ap (run_outcome (rest_run machine' rest).items) (same_outcome x rest)));
        fault = λ rest place cause. refl;
      }

  -- it had a finding
  pub item_found : (x : Placed) (finding : Finding) (events : List Event) (peaks : Peaks)
      → (item_of machine x.item).run any_panel ≡ after events peaks (just [] (Halts finding))
      → EndsWith (pages_from machine n) (StartsWith x) (events_text n events) (Fail x.place 1 (FindingOfRun finding))
  item_found x finding events peaks run =
      let r : Run = (item_of machine x.item).run any_panel in
      record {
        due = λ reading starts.
            ap (pages_from machine n).text starts.1
            ∙ (ap (λ (j : JobRun). events_text n (events_of j.items)) (item_first x starts.0)
            ∙ text_found n x.place r (behind_item x starts.0) AllDone events peaks finding run);
        outcome_is = λ reading starts.
            ap (pages_from machine n).outcome starts.1
            ∙ (ap (λ (j : JobRun). run_outcome j.items (reading_outcome (with_item x starts.0))) (item_first x starts.0)
            ∙ outcome_found n x.place r (behind_item x starts.0) (reading_outcome (with_item x starts.0)) events peaks finding run);
      }

  -- or some of its events were taken
  pub item_begun : (x : Placed) (events others : List Event) → ((item_of machine x.item).run any_panel).events ≡ events ++ others →
      BeginsWith (pages_from machine n) (StartsWith x) (events_text n events)
  item_begun x events others run = λ reading starts.
      let begun = text_begun n x.place ((item_of machine x.item).run any_panel) (behind_item x starts.0) AllDone events others run in (
        begun.0,
        ap (pages_from machine n).text starts.1
            ∙ (ap (λ (j : JobRun). events_text n (events_of j.items)) (item_first x starts.0) ∙ begun.1),
      )

  -- ---- the end of the bytes

  module _ (place : ℕ) where
    abbrev end : Run
    end = (end_of machine).run any_panel

    -- it was executed
    pub end_goes : (s : State) (events : List Event) (peaks : Peaks) → end ≡ after events peaks (just [] (Done s)) →
        EndsWith (pages_from machine n) (λ reading. reading ≡ Whole [] place) (events_text n events) AllDone
    end_goes s events peaks run = record {
      due = λ reading is.
          ap (pages_from machine n).text is
          ∙ (text_done n place end at_end AllDone events peaks s run
          ∙ append-nil (events_text n events));
      outcome_is = λ reading is. ap (pages_from machine n).outcome is ∙ outcome_done n place end at_end AllDone events peaks s run;
    }

    pub end_found : (finding : Finding) (events : List Event) (peaks : Peaks) → end ≡ after events peaks (just [] (Halts finding)) →
        EndsWith (pages_from machine n) (λ reading. reading ≡ Whole [] place) (events_text n events) (Fail place 1 (FindingOfRun finding))
    end_found finding events peaks run = record {
      due = λ reading is. ap (pages_from machine n).text is ∙ text_found n place end at_end AllDone events peaks finding run;
      outcome_is = λ reading is. ap (pages_from machine n).outcome is ∙ outcome_found n place end at_end AllDone events peaks finding run;
    }

    pub end_begun : (events others : List Event) → end.events ≡ events ++ others →
        BeginsWith (pages_from machine n) (λ reading. reading ≡ Whole [] place) (events_text n events)
    end_begun events others run = λ reading is.
        let begun = text_begun n place end at_end AllDone events others run in
        (begun.0, ap (pages_from machine n).text is ∙ begun.1)

-- ---- what a call of the machine tells

module _ {W A : Type 0} (state : W → OutletState) (machine : MachineState) (old new : PageText W A)
    (working : IsFalse (state old.outlet.now).failed) where
  abbrev takes : PageText W A → Event → PageText W A → Type 0
  takes = TakesLine state

  abbrev refuses : PageText W A → Event → PageText W A → Type 0
  refuses = RefusesLine state

  abbrev rendering : Rendering
  rendering = pages_from machine old.page

  abbrev led : (mid : PageText W A) (events : List Event) → TakesAll takes old events mid → HasLed state old mid events
  led mid events h = led_all state old mid events working h

  -- the item was executed to its end
  pub tells_item : (x : Placed) (machine' : MachineState) →
      machine'
      ≡ record machine {
        page = machine'.page;
        macros = (item_of machine x.item).macros;
        mode = (item_of machine x.item).mode;
        stopped = false;
      } →
      TakesUpTo takes old new (item_of machine x.item).run (λ panel. just [] (Done (state_at panel machine'.page)))
      → (page' : ℕ) → page' ≡ new.page
      → RendersItem rendering (pages_from machine' page') x (state old.outlet.now)
      (state new.outlet.now) old.kept.now.items new.kept.now.items (Ok None)
  tells_item x machine' is took page' same =
      let h = led new took.events took.leads in (
        events_text old.page took.events,
        h.puts,
        subst (λ n. RestGoesOn rendering (pages_from machine' n) x (events_text old.page took.events)) (sym (same ∙ h.page_is))
            (item_goes machine old.page x machine' took.events (took.peaks any_panel) is (took.is any_panel)),
      )

  -- it had a finding
  pub tells_finding : (x : Placed) (finding : Finding) →
      TakesUpTo takes old new (item_of machine x.item).run (λ panel. just [] (Halts finding)) →
      Ended rendering (StartsWith x) (state old.outlet.now) (state new.outlet.now) old.kept.now.items new.kept.now.items
      (Ok (Fail x.place 1 (FindingOfRun finding)))
  tells_finding x finding took =
      let h = led new took.events took.leads in (
        events_text old.page took.events,
        h.puts,
        item_found machine old.page x finding took.events (took.peaks any_panel) (took.is any_panel),
      )

  -- memory was refused behind its events
  pub tells_whole : (x : Placed) (e : Error) → TakesWhole takes old new (item_of machine x.item).run →
      Ended rendering (StartsWith x) (state old.outlet.now) (state new.outlet.now) old.kept.now.items new.kept.now.items (Err e)
  tells_whole x e whole =
      let took = whole.1 in
      let h = led new took.events took.leads in (
        events_text old.page took.events,
        Puts-cut-front (state old.outlet.now) (state new.outlet.now) old.kept.now.items new.kept.now.items
            (events_text old.page took.events) h.puts,
        item_begun machine old.page x took.events [] (ap (λ (r : Run). r.events) (took.is any_panel)),
      )

  -- an event was refused
  pub tells_refused : (x : Placed) (e : Error) → Refuses takes refuses old new (item_of machine x.item).run →
      Ended rendering (StartsWith x) (state old.outlet.now) (state new.outlet.now) old.kept.now.items new.kept.now.items (Err e)
  tells_refused x e refused =
      let took = refused.took in
      let h = led refused.mid took.events took.leads in
      let events_are :
      ((item_of machine x.item).run any_panel).events ≡ (took.events ++ refused.event ∷ []) ++ (refused.rest any_panel).events =
      ap (λ (r : Run). r.events) (took.is any_panel)
      ∙ sym (append_assoc took.events (refused.event ∷ []) (refused.rest any_panel).events) in (
        events_text old.page (took.events ++ refused.event ∷ []),
        led_to state old refused.mid (state new.outlet.now) took.events refused.event h refused.refused.2,
        item_begun machine old.page x (took.events ++ refused.event ∷ []) (refused.rest any_panel).events events_are,
      )

  -- the same of the end of the bytes
  pub tells_end : (place : ℕ) (s : Panel → State) → TakesUpTo takes old new (end_of machine).run (λ panel. just [] (Done (s panel))) →
      Ended rendering (λ reading. reading ≡ Whole [] place) (state old.outlet.now)
      (state new.outlet.now) old.kept.now.items new.kept.now.items (Ok AllDone)
  tells_end place s took =
      let h = led new took.events took.leads in (
        events_text old.page took.events,
        h.puts,
        end_goes machine old.page place (s any_panel) took.events (took.peaks any_panel) (took.is any_panel),
      )

  pub tells_end_finding : (place : ℕ) (finding : Finding) →
      TakesUpTo takes old new (end_of machine).run (λ panel. just [] (Halts finding)) →
      Ended rendering (λ reading. reading ≡ Whole [] place) (state old.outlet.now)
      (state new.outlet.now) old.kept.now.items new.kept.now.items (Ok (Fail place 1 (FindingOfRun finding)))
  tells_end_finding place finding took =
      let h = led new took.events took.leads in (
        events_text old.page took.events,
        h.puts,
        end_found machine old.page place finding took.events (took.peaks any_panel) (took.is any_panel),
      )

  pub tells_end_refused : (place : ℕ) (e : Error) → Refuses takes refuses old new (end_of machine).run →
      Ended rendering (λ reading. reading ≡ Whole [] place) (state old.outlet.now)
      (state new.outlet.now) old.kept.now.items new.kept.now.items (Err e)
  tells_end_refused place e refused =
      let took = refused.took in
      let h = led refused.mid took.events took.leads in
      let events_are : ((end_of machine).run any_panel).events ≡ (took.events ++ refused.event ∷ []) ++ (refused.rest any_panel).events =
      ap (λ (r : Run). r.events) (took.is any_panel)
      ∙ sym (append_assoc took.events (refused.event ∷ []) (refused.rest any_panel).events) in (
        events_text old.page (took.events ++ refused.event ∷ []),
        led_to state old refused.mid (state new.outlet.now) took.events refused.event h refused.refused.2,
        end_begun machine old.page place (took.events ++ refused.event ∷ []) (refused.rest any_panel).events events_are,
      )

-- the mode behind an item that was executed
pub mode_goes : (machine machine' : MachineState) (item : Entry) (mode next : Mode) →
    machine'
    ≡ record machine { page = machine'.page; macros = (item_of machine item).macros; mode = (item_of machine item).mode; stopped = false } →
    machine.mode ≡ mode → follows mode item ≡ Some next → (machine'.stopped ≡ false) × (machine'.mode ≡ next)
mode_goes machine machine' item mode next is same admitted = (
  ap (λ (m : MachineState). m.stopped) is,
  ap (λ (m : MachineState). m.mode) is ∙ ap (λ m. unwrap_or (follows m item) m) same ∙ ap (λ o. unwrap_or o mode) admitted,
)

-- ---- the start

-- a machine that has executed nothing tells the pages of the job
pub pages_start : (printer : Printer) (panel : Panel) (machine : MachineState) → IsNew printer (At panel) machine →
    pages_from machine 1 ≡ pages_rendering printer panel
pages_start printer panel machine new =
    let settings : Settings = user_defaults unwatched panel in
    let defaults_are : settings_at any_panel machine.defaults ≡ settings = new.defaults any_panel in
    let state_is : state_at any_panel machine.page ≡ start_state printer.most_items settings =
    new.page any_panel ∙ ap (start_state printer.most_items) defaults_are in
    let run_is : (reading : Reading) →
    rest_run machine reading ≡ reading_run printer settings reading (no_macros printer.memory) (start_state printer.most_items settings) =
    λ reading. λ i. reading_run (new.printer_is i) (defaults_are i) reading (new.macros i) (state_is i) in
    λ i. record {
      text = λ reading. events_text 1 (events_of (run_is reading i).items);
      outcome = λ reading. run_outcome (run_is reading i).items (reading_outcome reading);
      at_fault = nothing_at_fault;
    }
