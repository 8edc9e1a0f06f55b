-- What an item does on a machine that knows its panel, and which notes are due of the rest of the job.
use Rattle.std.proofs.Common.{◌≡◌, ℕ, Bool, true, false, not, ◌||◌, cond, unwrap_or, Result, Ok, Err, List, [], ◌∷◌, ◌++◌, flat_map, Option}
use Rattle.std.proofs.Common.{None, Some, refl, ap, sym, ◌∙◌, subst, append_assoc, append-nil}
use Rattle.std.specs.Option.{option_map_or}
use Rattle.std.specs.Result.{IsErr}
use Rattle.pcl_items.specs.declared.fault.LexCause.{LexCause}
use Rattle.pcl_items.specs.declared.item.Mode.{Mode}
use Rattle.pcl_items.specs.Modes.{follows}
use Rattle.pcl_items.specs.Items.{Entry, Placed}
use Rattle.pcl_lexer.specs.Reading.{Reading, Whole, Stopped, with_item, items_of}
use Rattle.device_profile.specs.declared.panel.Panel.{Panel}
use Rattle.device_profile.specs.Printer.{Printer}
use Rattle.macro_store.specs.Store.{Store, no_macros}
use Rattle.page_env.specs.declared.finding.Finding.{Finding}
use Rattle.page_env.specs.declared.page.Page.{Page}
use Rattle.page_env.specs.Settings.{Settings, State, settings_at, state_at, start_state, user_defaults, unwatched}
use Rattle.page_machine.specs.declared.machine.Start.TheVariants.{At}
use Rattle.page_machine.specs.Event.{Event, Marked, Ended, TakesAll}
use Rattle.page_machine.specs.Run.{Peaks, Run, just, after, Ending, Done, Halts}
use Rattle.page_machine.specs.Defining.{is_defining, job_item_run, macros_after}
use Rattle.page_machine.specs.Job.{JobRun, events_of, after_item, at_end, reading_run, plain_run, with_macros}
use Rattle.page_machine.specs.MachineState.{MachineState}
use Rattle.page_machine.specs.Machine.{IsNew, item_of, end_of}
use Rattle.page_machine.specs.Follows.{TakesUpTo}
use Rattle.streams.specs.declared.error.Error.{Error}
use Rattle.renderings.specs.declared.outcome.Outcome.{Outcome}
use Rattle.renderings.specs.declared.outcome.Outcome.TheVariants.{Done as AllDone, Fail}
use Rattle.verdict.specs.declared.reason.Reason.TheVariants.{Finding as FindingOfRun}
use Rattle.verdict.specs.Failing.{fault_at}
use Rattle.renderings.specs.Expected.{Rendering, nothing_at_fault}
use Rattle.renderings.specs.Outcomes.{fails_with}
use Rattle.renderings.specs.PageTexts.{run_outcome}
use Rattle.renderings.specs.Texts.{reading_outcome}
use Rattle.renderings.specs.Carriers.Rendering.{RestGoesOn, EndsWith, StartsWith, Ended as EndedWith, RendersItem}
use Rattle.streams.specs.Writing.{Puts}
use Rattle.streams.specs.Outlet.{OutletState}
use Rattle.streams.proofs.OutletFacts.{Adds-none}
use Rattle.notes.specs.declared.closing.Closing.{Closing}
use Rattle.notes.specs.declared.note.Note.{Note}
use Rattle.notes.specs.declared.past.Past.{Past}
use Rattle.notes.specs.declared.state_before.StateBefore.{StateBefore}
use Rattle.notes.specs.Note.{Told, firsts}
use Rattle.notes.specs.StateNotes.{has_rows_left, state_notes}
use Rattle.notes.specs.Notes.{carried_notes, ended_notes, notes_of_items, is_end_of_page, closes_page, is_done, notes_at_end, end_notes}
use Rattle.notes.specs.Notes.{long_run, noted_outcome, notes_rendering}
use Rattle.notes.specs.Carriers.Past.{no_past, past_behind, past_notes, past_of}
use Rattle.notes.specs.Carriers.Rest.{WritesNotes, told_behind, closing_behind, rest_of_items, rest_of_end, rest_run, rest_notes}
use Rattle.notes.specs.Carriers.Rest.{notes_from}
use Rattle.notes.specs.Carriers.StateBefore.{state_before_of, state_before_at, before_notes, behind_notes}
use Rattle.notes.proofs.Pasts.{past_is, ends_open_more, ends_open_none}
use Rattle.notes.proofs.ToldNotes.{WritesNotes-then, lines-then}

-- ---- whether a page was closed

or_assoc : (a b c : Bool) → a || (b || c) ≡ (a || b) || c
or_assoc a b c = elim a as (λ v. v || (b || c) ≡ (v || b) || c) [ true ↦ refl | false ↦ refl ]

or_false : (b : Bool) → b ≡ b || false
or_false b = elim b as (λ v. v ≡ v || false) [ true ↦ refl | false ↦ refl ]

or_true : (b : Bool) → true ≡ b || true
or_true b = elim b as (λ v. true ≡ v || true) [ true ↦ refl | false ↦ refl ]

closes-append : (es fs : List Event) → closes_page (es ++ fs) ≡ closes_page es || closes_page fs
closes-append [] fs = refl
closes-append (e ∷ es) fs =
    ap (λ b. is_end_of_page e || b) (closes-append es fs) ∙ or_assoc (is_end_of_page e) (closes_page es) (closes_page fs)

closing_one : (e : Event) (closing : Closing) → (closing_behind e closing).closed ≡ closing.closed || is_end_of_page e
closing_one (Marked mark) closing = or_false closing.closed
closing_one (Ended page) closing = or_true closing.closed

-- what a sink takes, and refuses
abbrev pub takes : Closing → Event → Closing → Type 0
takes old event new = new ≡ closing_behind event old

abbrev pub refuses : Closing → Event → Closing → Type 0
refuses old event new = ⊥

-- behind events that a sink took
pub closing_all : (old new : Closing) (events : List Event) → TakesAll takes old events new → new.closed ≡ old.closed || closes_page events
closing_all old new [] h = ap (λ (s : Closing). s.closed) h ∙ or_false old.closed
closing_all old new (e ∷ es) h =
    closing_all h.0 new es h.2
    ∙ (ap (λ b. b || closes_page es) (ap (λ (s : Closing). s.closed) h.1 ∙ closing_one e old)
    ∙ sym (or_assoc old.closed (is_end_of_page e) (closes_page es)))

-- ---- what was kept of the state before an item

pub carried_is : (machine : MachineState) (panel : Panel) (x : Placed) (t : State) →
    behind_notes x t (state_before_at machine panel x.item) ≡ carried_notes machine.printer machine.macros x (state_at panel machine.page) t
carried_is machine panel x t =
    let before : StateBefore = state_before_of machine.printer x.item (state_at panel machine.page) in
    elim (is_defining machine.macros) as (λ b.
    option_map_or (before_notes x t) (cond b None (Some before)) []
    ≡ cond b [] (state_notes machine.printer x (state_at panel machine.page) t)) [
      | true ↦ refl
      | false ↦ refl
    ]

-- ---- the run of an item, and then the next

closes_more : (closed : Bool) (events others : List Event) →
    closed || closes_page ((events ++ []) ++ others) ≡ (closed || closes_page events) || closes_page others
closes_more closed events others =
    ap (λ es. closed || closes_page (es ++ others)) (append-nil events)
    ∙ (ap (λ b. closed || b) (closes-append events others)
    ∙ or_assoc closed (closes_page events) (closes_page others))

module _ (place : ℕ) (r : Run) (next : State → JobRun) (later : Outcome) where
  outcome_done : (events : List Event) (peaks : Peaks) (s : State) → r ≡ after events peaks (just [] (Done s)) →
      run_outcome (after_item place r next).items later ≡ run_outcome (next s).items later
  outcome_done events peaks s e = ap (λ x. run_outcome (after_item place x next).items later) e

  outcome_found : (events : List Event) (peaks : Peaks) (finding : Finding) → r ≡ after events peaks (just [] (Halts finding)) →
      run_outcome (after_item place r next).items later ≡ Fail place 1 (FindingOfRun finding)
  outcome_found events peaks finding e = ap (λ x. run_outcome (after_item place x next).items later) e

-- the outcome does not go by the item
same_outcome : (x : Placed) (rest : Reading) → reading_outcome (with_item x rest) ≡ reading_outcome rest
same_outcome x (Whole items place) = refl
same_outcome x (Stopped items place cause) = refl

-- ---- what is due from a machine

module _ (machine : MachineState) (panel : Panel) (past : Past) (closed : Bool) where
  abbrev defaults : Settings
  defaults = settings_at panel machine.defaults

  abbrev here : State
  here = state_at panel machine.page

  abbrev behind_item : Placed → Reading → State → JobRun
  behind_item x rest s = reading_run machine.printer defaults rest (item_of machine x.item).macros s

  -- the notes of an item by its run, and those of the rest behind it
  abbrev by_run : Placed → Reading → Run → List Told
  by_run x rest r =
      (past_notes past x
      ++ ended_notes machine.printer machine.macros x here r.ending
      (rest_of_items machine.printer defaults (rest_of_end past closed (with_item x rest) (after_item x.place r (behind_item x rest)))
      (past_behind past x.item) (items_of rest) (item_of machine x.item).macros))
      ++ long_run (run_outcome (after_item x.place r (behind_item x rest)).items (reading_outcome (with_item x rest)))

  item_first : (x : Placed) (rest : Reading) →
      rest_notes machine panel past closed (with_item x rest) ≡ by_run x rest ((item_of machine x.item).run panel)
  item_first x (Whole items place) = refl
  item_first x (Stopped items place cause) = refl

  run_first : (x : Placed) (rest : Reading) →
      rest_run machine panel (with_item x rest) ≡ after_item x.place ((item_of machine x.item).run panel) (behind_item x rest)
  run_first x (Whole items place) = refl
  run_first x (Stopped items place cause) = refl

  module _ (x : Placed) (events : List Event) (peaks : Peaks) where
    -- the end, where the item was done
    end_behind : (rest : Reading) (t s : State) →
        rest_of_end past closed (with_item x rest) (after_item x.place (after events peaks (just [] (Done t))) (behind_item x rest)) s
        ≡ rest_of_end (past_behind past x.item) (closed || closes_page events) rest (behind_item x rest t) s
    end_behind (Whole items place) t s = λ i.
        let run : JobRun = behind_item x (Whole items place) t in
        cond (is_done run.ending)
        (notes_at_end (ends_open_more past x items i) (not (closes_more closed events (events_of run.items) i))
        (has_rows_left s.raster) place)
        []
    end_behind (Stopped items place cause) t s = refl

    by_done : (rest : Reading) (t : State) → by_run x rest (after events peaks (just [] (Done t)))
        ≡ (past_notes past x ++ carried_notes machine.printer machine.macros x here t)
        ++ (rest_of_items machine.printer defaults
        (rest_of_end (past_behind past x.item) (closed || closes_page events) rest (behind_item x rest t)) (past_behind past x.item)
        (items_of rest) (item_of machine x.item).macros t
        ++ long_run (run_outcome (behind_item x rest t).items (reading_outcome rest)))
    by_done rest t =
        let own : List Told = past_notes past x in
        let carried : List Told = carried_notes machine.printer machine.macros x here t in
        let others : (State → List Told) → List Told =
        λ finally.
        rest_of_items machine.printer defaults finally (past_behind past x.item) (items_of rest) (item_of machine x.item).macros t in
        let end : State → List Told = rest_of_end (past_behind past x.item) (closed || closes_page events) rest (behind_item x rest t) in
        let long : Outcome → List Told = λ later. long_run (run_outcome (behind_item x rest t).items later) in
        (λ i. (own ++ (carried ++ others (λ s. end_behind rest t s i))) ++ long (reading_outcome (with_item x rest)))
        ∙ (ap (λ later. (own ++ (carried ++ others end)) ++ long later) (same_outcome x rest)
        ∙ (ap (λ l. l ++ long (reading_outcome rest)) (sym (append_assoc own carried (others end)))
        ∙ append_assoc (own ++ carried) (others end) (long (reading_outcome rest))))

    -- or had a finding
    by_found : (rest : Reading) (finding : Finding) →
        by_run x rest (after events peaks (just [] (Halts finding))) ≡ past_notes past x ++ long_run (Fail x.place 1 (FindingOfRun finding))
    by_found rest finding = ap (λ l. l ++ long_run (Fail x.place 1 (FindingOfRun finding))) (append-nil (past_notes past x))

  module _ (write : Told → List ℕ) (told : List Note) where
    -- the item was executed to its end
    pub item_goes : (x : Placed) (machine' : MachineState) (events : List Event) (peaks : Peaks)
        → machine'
        ≡ record machine {
          page = machine'.page;
          macros = (item_of machine x.item).macros;
          mode = (item_of machine x.item).mode;
          stopped = false;
        }
        → (item_of machine x.item).run panel ≡ after events peaks (just [] (Done (state_at panel machine'.page)))
        → RestGoesOn (notes_from write machine panel past closed told)
        (notes_from write machine' panel (past_behind past x.item) (closed || closes_page events)
        (told_behind told (past_notes past x ++ carried_notes machine.printer machine.macros x here (state_at panel machine'.page))))
        x (flat_map write
        (firsts told (past_notes past x ++ carried_notes machine.printer machine.macros x here (state_at panel machine'.page))))
    item_goes x machine' events peaks is run =
        let r : Run = (item_of machine x.item).run panel in
        let t : State = state_at panel machine'.page in
        let held : List Told = past_notes past x ++ carried_notes machine.printer machine.macros x here t in
        let rest_is : (rest : Reading) → behind_item x rest t ≡ rest_run machine' panel rest =
        λ rest. sym (ap (λ (m : MachineState). reading_run m.printer (settings_at panel m.defaults) rest m.macros t) is) in
        let others_are : (rest : Reading) →
        rest_of_items machine.printer defaults
        (rest_of_end (past_behind past x.item) (closed || closes_page events) rest (behind_item x rest t)) (past_behind past x.item)
        (items_of rest) (item_of machine x.item).macros t
        ++ long_run (run_outcome (behind_item x rest t).items (reading_outcome rest))
        ≡ rest_notes machine' panel (past_behind past x.item) (closed || closes_page events) rest
        = λ rest.
        sym (ap (λ (m : MachineState).
        rest_of_items m.printer (settings_at panel m.defaults)
        (rest_of_end (past_behind past x.item) (closed || closes_page events) rest
        (reading_run m.printer (settings_at panel m.defaults) rest m.macros t))
        (past_behind past x.item) (items_of rest) m.macros t
        ++ long_run
        (run_outcome (reading_run m.printer (settings_at panel m.defaults) rest m.macros t).items (reading_outcome rest))) is) in
        record {
          due = λ rest.
              ap (λ l. flat_map write (firsts told l))
              (item_first x rest ∙ (ap (by_run x rest) run ∙ (by_done x events peaks rest t ∙ ap (λ l. held ++ l) (others_are rest))))
              ∙ lines-then write told held (rest_notes machine' panel (past_behind past x.item) (closed || closes_page events) rest);
          outcome = λ rest.
              ap noted_outcome (ap (λ (j : JobRun). run_outcome j.items (reading_outcome (with_item x rest))) (run_first x rest)
              ∙ (outcome_done x.place r (behind_item x rest) (reading_outcome (with_item x rest)) events peaks t run
              ∙ (ap (λ (j : JobRun). run_outcome j.items (reading_outcome (with_item x rest))) (rest_is rest)
              ∙ ap (run_outcome (rest_run machine' panel rest).items) (same_outcome x rest))));
          fault = λ rest place cause. refl;
        }

    -- it had a finding
    pub item_found : (x : Placed) (finding : Finding) (events : List Event) (peaks : Peaks)
        → (item_of machine x.item).run panel ≡ after events peaks (just [] (Halts finding))
        → EndsWith (notes_from write machine panel past closed told) (StartsWith x)
        (flat_map write (firsts told (past_notes past x ++ long_run (Fail x.place 1 (FindingOfRun finding)))))
        (noted_outcome (Fail x.place 1 (FindingOfRun finding)))
    item_found x finding events peaks run =
        let r : Run = (item_of machine x.item).run panel in
        record {
          due = λ reading starts.
              ap (notes_from write machine panel past closed told).text starts.1
              ∙ ap (λ l. flat_map write (firsts told l))
              (item_first x starts.0 ∙ (ap (by_run x starts.0) run ∙ by_found x events peaks starts.0 finding));
          outcome_is = λ reading starts.
              ap (notes_from write machine panel past closed told).outcome starts.1
              ∙ ap noted_outcome (ap (λ (j : JobRun). run_outcome j.items (reading_outcome (with_item x starts.0))) (run_first x starts.0)
              ∙ outcome_found x.place r (behind_item x starts.0) (reading_outcome (with_item x starts.0)) events peaks finding run);
        }

    -- ---- the end of the bytes

    module _ (place : ℕ) where
      abbrev end : Run
      end = (end_of machine).run panel

      abbrev at_whole : Run → List Told
      at_whole r =
          rest_of_end past closed (Whole [] place) (after_item place r at_end) here
          ++ long_run (run_outcome (after_item place r at_end).items AllDone)

      -- it was executed
      pub end_goes : (s : State) (events : List Event) (peaks : Peaks) → end ≡ after events peaks (just [] (Done s))
          → EndsWith (notes_from write machine panel past closed told) (λ reading. reading ≡ Whole [] place)
          (flat_map write
          (firsts told (notes_at_end past.is_open (not (closed || closes_page events)) (has_rows_left machine.page.raster) place)))
          AllDone
      end_goes s events peaks run =
          let closes : closed || closes_page ((events ++ []) ++ []) ≡ closed || closes_page events =
          ap (λ es. closed || closes_page es) (append-nil (events ++ []) ∙ append-nil events) in
          let is_short : Bool = has_rows_left machine.page.raster in
          let ends : List Told = notes_at_end past.is_open (not (closed || closes_page events)) is_short place in
          let told_is : at_whole (after events peaks (just [] (Done s))) ≡ ends ++ [] =
          λ i. notes_at_end (ends_open_none past i) (not (closes i)) is_short place ++ [] in
          let at_done : at_whole (after events peaks (just [] (Done s))) ≡ ends = told_is ∙ append-nil ends in
          record {
            due = λ reading is.
                ap (notes_from write machine panel past closed told).text is
                ∙ ap (λ l. flat_map write (firsts told l)) (ap at_whole run ∙ at_done);
            outcome_is =
                λ reading is. ap (notes_from write machine panel past closed told).outcome is
                ∙ ap noted_outcome (outcome_done place end at_end AllDone events peaks s run);
          }

      pub end_found : (finding : Finding) (events : List Event) (peaks : Peaks) → end ≡ after events peaks (just [] (Halts finding)) →
          EndsWith (notes_from write machine panel past closed told) (λ reading. reading ≡ Whole [] place)
          (flat_map write (firsts told (long_run (Fail place 1 (FindingOfRun finding)))))
          (noted_outcome (Fail place 1 (FindingOfRun finding)))
      end_found finding events peaks run = record {
        due = λ reading is.
            ap (notes_from write machine panel past closed told).text is
            ∙ ap (λ l. flat_map write (firsts told l)) (ap at_whole run);
        outcome_is =
            λ reading is. ap (notes_from write machine panel past closed told).outcome is
            ∙ ap noted_outcome (outcome_found place end at_end AllDone events peaks finding run);
      }

-- ---- what is put

-- text went behind what is kept
puts : (a : OutletState) (kept kept' text : List ℕ) → kept' ≡ kept ++ text → Puts a a kept kept' text
puts a kept kept' text e = record { front = []; adds = Adds-none a; split = sym e }

-- nothing was written
pub none_written : (before behind : Rendering) (x : Placed) (a : OutletState) (kept kept' : List ℕ) (r : Result (Option Outcome) Error) →
    IsErr r → RendersItem before behind x a a kept kept' r
none_written before behind x a kept kept' (Ok o) is = cc
none_written before behind x a kept kept' (Err e) is =
    ([], ([], kept ++ [], refl, Adds-none a), λ reading starts. (before.text reading, refl))

-- ---- what a call of the machine tells

module _ (write : Told → List ℕ) (machine : MachineState) (panel : Panel) (past : Past) (closing : Closing) (told : List Note)
    (a : OutletState) (kept kept' : List ℕ) where
  abbrev rendering : Rendering
  rendering = notes_from write machine panel past closing.closed told

  -- the item was executed to its end
  pub tells_item : (x : Placed) (machine' : MachineState) (closing' : Closing) (past' : Past) (before : Option StateBefore) (page : Page)
      (mid told' : List Note) (middle : List ℕ)
      → machine'
      ≡ record machine {
        page = machine'.page;
        macros = (item_of machine x.item).macros;
        mode = (item_of machine x.item).mode;
        stopped = false;
      }
      → TakesUpTo takes closing closing' (item_of machine x.item).run (λ panel. just [] (Done (state_at panel machine'.page)))
      → WritesNotes write told mid kept middle (past_notes past x)
      → before ≡ state_before_at machine panel x.item → page ≡ machine'.page
      → WritesNotes write mid told' middle kept' (behind_notes x (state_at panel page) before)
      → past' ≡ past_behind past x.item
      → RendersItem rendering (notes_from write machine' panel past' closing'.closed told') x a a kept kept' (Ok None)
  tells_item x machine' closing' past' before page mid told' middle is took first before_is page_is second past_is =
      let t : State = state_at panel machine'.page in
      let own : List Told = past_notes past x in
      let carried : List Told = carried_notes machine.printer machine.macros x (state_at panel machine.page) t in
      let carried_by : behind_notes x (state_at panel page) before ≡ carried =
      ap (λ p. behind_notes x (state_at panel p) before) page_is ∙ (ap (behind_notes x t) before_is ∙ carried_is machine panel x t) in
      let both : WritesNotes write told told' kept kept' (own ++ carried) =
      WritesNotes-then first (subst (WritesNotes write mid told' middle kept') carried_by second) in
      let text : List ℕ = flat_map write (firsts told (own ++ carried)) in
      let closed_is : closing'.closed ≡ closing.closed || closes_page took.events = closing_all closing closing' took.events took.leads in (
        text,
        puts a kept kept' text both.text_is,
        subst (λ (l : List Note). RestGoesOn rendering (notes_from write machine' panel past' closing'.closed l) x text) (sym both.told_is)
            (subst (λ (b : Bool). RestGoesOn rendering (notes_from write machine' panel past' b (told_behind told (own ++ carried))) x text)
            (sym closed_is)
            (subst
            (λ (p : Past). RestGoesOn rendering
            (notes_from write machine' panel p (closing.closed || closes_page took.events) (told_behind told (own ++ carried))) x text)
            (sym past_is)
            (item_goes machine panel past closing.closed write told x machine' took.events (took.peaks panel) is (took.is panel)))),
      )

  -- it had a finding
  pub tells_finding : (x : Placed) (closing' : Closing) (told' : List Note) (finding : Finding)
      → TakesUpTo takes closing closing' (item_of machine x.item).run (λ panel. just [] (Halts finding))
      → WritesNotes write told told' kept kept' (past_notes past x ++ long_run (Fail x.place 1 (FindingOfRun finding)))
      → EndedWith rendering (StartsWith x) a a kept kept' (Ok (noted_outcome (Fail x.place 1 (FindingOfRun finding))))
  tells_finding x closing' told' finding took tells =
      let text : List ℕ = flat_map write (firsts told (past_notes past x ++ long_run (Fail x.place 1 (FindingOfRun finding)))) in (
        text,
        puts a kept kept' text tells.text_is,
        item_found machine panel past closing.closed write told x finding took.events (took.peaks panel) (took.is panel),
      )

  -- the end of the bytes was executed
  pub tells_end : (place : ℕ) (page : Page) (is_short : Bool) (closing' : Closing) (told' : List Note) (s : Panel → State)
      → page ≡ machine.page → is_short ≡ has_rows_left page.raster
      → TakesUpTo takes closing closing' (end_of machine).run (λ panel. just [] (Done (s panel)))
      → WritesNotes write told told' kept kept' (notes_at_end past.is_open (not closing'.closed) is_short place)
      → EndedWith rendering (λ reading. reading ≡ Whole [] place) a a kept kept' (Ok AllDone)
  tells_end place page is_short closing' told' s page_is short_is took last =
      let closed_is : closing'.closed ≡ closing.closed || closes_page took.events = closing_all closing closing' took.events took.leads in
      let rows_are : is_short ≡ has_rows_left machine.page.raster = short_is ∙ ap (λ (p : Page). has_rows_left p.raster) page_is in
      let text : Bool → Bool → List ℕ = λ b rows. flat_map write (firsts told (notes_at_end past.is_open (not b) rows place)) in (
        text closing'.closed is_short,
        puts a kept kept' (text closing'.closed is_short) last.text_is,
        subst (λ (rows : Bool). EndsWith rendering (λ reading. reading ≡ Whole [] place) (text closing'.closed rows) AllDone) (sym rows_are)
            (subst
            (λ (b : Bool).
            EndsWith rendering (λ reading. reading ≡ Whole [] place) (text b (has_rows_left machine.page.raster)) AllDone)
            (sym closed_is)
            (end_goes machine panel past closing.closed write told place (s panel) took.events (took.peaks panel) (took.is panel))),
      )

  pub tells_end_finding : (place : ℕ) (closing' : Closing) (told' : List Note) (finding : Finding)
      → TakesUpTo takes closing closing' (end_of machine).run (λ panel. just [] (Halts finding))
      → WritesNotes write told told' kept kept' (long_run (Fail place 1 (FindingOfRun finding)))
      → EndedWith rendering (λ reading. reading ≡ Whole [] place) a a kept kept' (Ok (noted_outcome (Fail place 1 (FindingOfRun finding))))
  tells_end_finding place closing' told' finding took tells =
      let text : List ℕ = flat_map write (firsts told (long_run (Fail place 1 (FindingOfRun finding)))) in (
        text,
        puts a kept kept' text tells.text_is,
        end_found machine panel past closing.closed write told place finding took.events (took.peaks panel) (took.is panel),
      )

  -- the bytes have a fault
  pub tells_fault : (place : ℕ) (cause : LexCause) → kept' ≡ kept →
      (outcome : Outcome) → outcome ≡ fails_with (fault_at place cause)
      → EndedWith rendering (λ reading. reading ≡ Stopped [] place cause) a a kept kept' (Ok outcome)
  tells_fault place cause same outcome outcome_is = (
    [],
    puts a kept kept' [] (same ∙ sym (append-nil kept)),
    record {
      due = λ reading is. ap rendering.text is;
      outcome_is = λ reading is. ap rendering.outcome is ∙ sym outcome_is;
    },
  )

-- the mode behind an item that was executed
pub mode_goes : (machine machine' : MachineState) (item : Entry) (mode next : Mode) →
    machine'
    ≡ record machine { page = machine'.page; macros = (item_of machine item).macros; mode = (item_of machine item).mode; stopped = false } →
    machine.mode ≡ mode → follows mode item ≡ Some next → (machine'.stopped ≡ false) × (machine'.mode ≡ next)
mode_goes machine machine' item mode next is same admitted = (
  ap (λ (m : MachineState). m.stopped) is,
  ap (λ (m : MachineState). m.mode) is ∙ ap (λ m. unwrap_or (follows m item) m) same ∙ ap (λ o. unwrap_or o mode) admitted,
)

-- ---- the start

-- behind items, by what was kept of them
module _ (printer : Printer) (defaults : Settings) where
  ended_are : (x : Placed) (macros : Store) (s : State) (f g : State → List Told) → ((t : State) → f t ≡ g t) → (ending : Ending) →
      ended_notes printer macros x s ending f ≡ ended_notes printer macros x s ending g
  ended_are x macros s f g e (Done t) = ap (λ l. carried_notes printer macros x s t ++ l) (e t)
  ended_are x macros s f g e (Halts finding) = refl

  -- and then the same of what comes last
  module _ (finally finally' : State → List Told) (same : (s : State) → finally s ≡ finally' s) where
    items_are : (before : List Placed) (items : List Placed) (macros : Store) (s : State) →
        rest_of_items printer defaults finally (past_of before) items macros s
        ≡ notes_of_items printer defaults finally' before items macros s
    items_are before [] macros s = same s
    items_are before (x ∷ items) macros s =
        let macros' : Store = macros_after s.settings.job.macro_id x.item macros in
        λ i.
        past_is before x i
        ++ ended_are x macros s (rest_of_items printer defaults finally (past_of (x ∷ before)) items macros')
        (notes_of_items printer defaults finally' (x ∷ before) items macros')
        (λ t. items_are (x ∷ before) items macros' t) (job_item_run (with_macros printer defaults macros) x.item s).ending i

end_is : (reading : Reading) (run : JobRun) (s : State) → rest_of_end no_past false reading run s ≡ end_notes reading run s
end_is (Whole items place) run s = refl
end_is (Stopped items place cause) run s = refl

-- a machine that has executed nothing tells the notes of the job
pub notes_start : (write : Told → List ℕ) (printer : Printer) (panel : Panel) (machine : MachineState) (past : Past) (told : List Note) →
    IsNew printer (At panel) machine → past ≡ no_past → told ≡ [] →
    notes_from write machine panel past false told ≡ notes_rendering write printer panel
notes_start write printer panel machine past told new nothing none =
    let settings : Settings = user_defaults unwatched panel in
    let defaults_are : settings_at panel machine.defaults ≡ settings = new.defaults panel in
    let start : State = start_state printer.most_items settings in
    let state_is : state_at panel machine.page ≡ start = new.page panel ∙ ap (start_state printer.most_items) defaults_are in
    let run_is : (reading : Reading) → rest_run machine panel reading ≡ plain_run printer panel reading =
    λ reading. λ i. reading_run (new.printer_is i) (defaults_are i) reading (new.macros i) (state_is i) in
    let of_items : (reading : Reading) →
    rest_of_items machine.printer (settings_at panel machine.defaults)
    (rest_of_end past false reading (rest_run machine panel reading)) past (items_of reading) machine.macros (state_at panel machine.page)
    ≡ notes_of_items printer settings (end_notes reading (plain_run printer panel reading)) [] (items_of reading)
    (no_macros printer.memory) start
    = λ reading.
    let run : JobRun = plain_run printer panel reading in
    (λ i. rest_of_items (new.printer_is i) (defaults_are i) (rest_of_end (nothing i) false reading (run_is reading i)) (nothing i)
    (items_of reading) (new.macros i) (state_is i))
    ∙ items_are printer settings (rest_of_end no_past false reading run) (end_notes reading run) (end_is reading run) [] (items_of reading)
    (no_macros printer.memory) start in
    λ i. record {
      text =
          λ reading. flat_map write
          (firsts (none i) (of_items reading i ++ long_run (run_outcome (run_is reading i).items (reading_outcome reading))));
      outcome = λ reading. noted_outcome (run_outcome (run_is reading i).items (reading_outcome reading));
      at_fault = nothing_at_fault;
    }
