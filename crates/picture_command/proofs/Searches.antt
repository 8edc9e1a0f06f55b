-- What is told of an item on a machine that knows its panel, and of the rest of the job.
use Rattle.std.proofs.Common.{◌≡◌, ℕ, Bool, true, false, if◌then◌else◌, List, [], ◌∷◌, ◌++◌, None, refl, ap, sym, ◌∙◌, append-nil}
use Rattle.pcl_items.specs.declared.fault.LexCause.{LexCause}
use Rattle.pcl_items.specs.Items.{Placed}
use Rattle.pcl_lexer.specs.Reading.{Reading, Whole, Stopped, with_item}
use Rattle.device_profile.specs.declared.panel.Panel.{Panel}
use Rattle.device_profile.specs.Printer.{Printer}
use Rattle.macro_store.specs.Store.{Store, no_macros}
use Rattle.page_env.specs.declared.finding.Finding.{Finding}
use Rattle.page_env.specs.Settings.{Settings, State, settings_at, state_at, start_state, user_defaults, unwatched}
use Rattle.page_machine.specs.declared.machine.Start.TheVariants.{At}
use Rattle.page_machine.specs.Event.{Event, TakesAll}
use Rattle.page_machine.specs.Follows.{TakesUpTo}
use Rattle.page_machine.specs.Run.{Run, just, after, Ending, Done, Halts}
use Rattle.page_machine.specs.MachineState.{MachineState}
use Rattle.page_machine.specs.Machine.{IsNew, item_of, end_of}
use Rattle.sinks.specs.declared.counts.Counts.{Counts}
use Rattle.sinks.specs.Counts.{counted, counts_after, no_counts}
use Rattle.verdict.specs.Failing.{found_at}
use Rattle.renderings.specs.declared.outcome.Outcome.TheVariants.{Done as AllDone}
use Rattle.renderings.specs.Expected.{Rendering}
use Rattle.renderings.specs.Carriers.PageRendering.{any_panel}
use Rattle.renderings.specs.Carriers.Rendering.{RestGoesOn, EndsWith, StartsWith}
use Rattle.requests.specs.declared.selection.Selection.{Selection}
use Rattle.requests.specs.Selection.{is_behind}
use Rattle.job_reports.specs.Groups.{Groups}
use Rattle.job_reports.specs.JobSentences.{FailsAt, fails_at}
use Rattle.picture_command.specs.Carriers.{HasRun, rest_search, search_from}
use Rattle.picture_command.specs.PageSearch.{Searched, at_item, behind_ending, found_at_end, found_at_failure, nothing_told}
use Rattle.picture_command.specs.PageSearch.{open_page, reading_search, run_search, search_rendering}

-- ---- what was counted

counts_taken : (old new : Counts) (events : List Event) → TakesAll (λ before event behind. behind ≡ counted event before) old events new →
    new ≡ counts_after events old
counts_taken old new [] h = h
counts_taken old new (e ∷ es) h = counts_taken h.0 new es h.2 ∙ ap (counts_after es) h.1

-- the events of a run that ended so were counted
pub has_run : (old new : Counts) (run : Panel → Run) (ending : Panel → Ending) →
    TakesUpTo (λ before event behind. behind ≡ counted event before) old new run (λ panel. just [] (ending panel)) →
    HasRun (run any_panel) (ending any_panel) old new
has_run old new run ending took = record {
  ending_is = ap (λ (r : Run). r.ending) (took.is any_panel);
  counts_are =
      counts_taken old new took.events took.leads
      ∙ (ap (λ l. counts_after l old) (sym (append-nil took.events))
      ∙ ap (λ (r : Run). counts_after r.events old) (sym (took.is any_panel)));
}

module _ (selection : Selection) (job : List ℕ) (group : Groups) where
  -- ---- a run, and what follows

  module _ (counts : Counts) (at : FailsAt) (place : ℕ) (next : Counts → State → Searched) where
    abbrev failed : Counts → Finding → Searched
    failed counts' finding = found_at_failure selection job group counts' at (found_at place 1 finding)

    abbrev by_ending : Counts → Ending → Bool → Searched
    by_ending counts' ending is_over = if is_over then nothing_told else (behind_ending ending (next counts') (failed counts'))

    -- by what was counted and how it ended alone, where it is known whether more is searched for
    run_known : (r : Run) (ending : Ending) (counts' : Counts) (is_over : Bool) → HasRun r ending counts counts' →
        is_behind selection (open_page counts') ≡ is_over →
        run_search selection job group counts at place r next ≡ by_ending counts' ending is_over
    run_known r ending counts' is_over has over =
        ap (λ (c : Counts). by_ending c r.ending (is_behind selection (open_page c))) (sym has.counts_are)
        ∙ (ap (λ e. by_ending counts' e (is_behind selection (open_page counts'))) has.ending_is
        ∙ ap (by_ending counts' ending) over)

  -- ---- what is told from a machine on

  module _ (machine : MachineState) (counts counts' : Counts) where
    abbrev defaults : Settings
    defaults = settings_at any_panel machine.defaults

    abbrev rendering : Rendering
    rendering = search_from selection job group machine counts

    -- ---- an item

    module _ (x : Placed) where
      abbrev behind_item : Reading → Counts → State → Searched
      behind_item rest c t = reading_search selection job group machine.printer defaults c rest (item_of machine x.item).macros t

      abbrev item_run : Run
      item_run = (item_of machine x.item).run any_panel

      abbrev here : FailsAt
      here = at_item machine.printer (state_at any_panel machine.page) x.item

      item_first : (rest : Reading) →
          rest_search selection job group machine counts (with_item x rest)
          ≡ run_search selection job group counts here x.place item_run (behind_item rest)
      item_first (Whole items place) = refl
      item_first (Stopped items place cause) = refl

      item_known : (rest : Reading) (ending : Ending) (is_over : Bool) → HasRun item_run ending counts counts' →
          is_behind selection (open_page counts') ≡ is_over
          → rest_search selection job group machine counts (with_item x rest)
          ≡ by_ending counts here x.place (behind_item rest) counts' ending is_over
      item_known rest ending is_over has over =
          item_first rest ∙ run_known counts here x.place (behind_item rest) item_run ending counts' is_over has over

      -- the item was carried out to its end
      pub item_goes : (machine' : MachineState) →
          machine'
          ≡ record machine {
            page = machine'.page;
            macros = (item_of machine x.item).macros;
            mode = (item_of machine x.item).mode;
            stopped = false;
          }
          → HasRun item_run (Done (state_at any_panel machine'.page)) counts counts' → is_behind selection (open_page counts') ≡ false
          → RestGoesOn rendering (search_from selection job group machine' counts') x []
      item_goes machine' is has goes =
          let t : State = state_at any_panel machine'.page in
          let known : (rest : Reading) →
          rest_search selection job group machine counts (with_item x rest) ≡ rest_search selection job group machine' counts' rest =
          λ rest. item_known rest (Done t) false has goes
          ∙ sym (ap
          (λ (m : MachineState). reading_search selection job group m.printer (settings_at any_panel m.defaults) counts' rest m.macros t)
          is) in
          record {
            due = λ rest. ap (λ (s : Searched). s.text) (known rest);
            outcome = λ rest. ap (λ (s : Searched). s.outcome) (known rest);
            fault = λ rest place cause. ap (λ (s : Searched). s.text) (known (Stopped rest place cause));
          }

      -- all that is searched for has come, or it had a finding
      item_ended : (ending : Ending) (is_over : Bool) (found : Searched) → HasRun item_run ending counts counts' →
          is_behind selection (open_page counts') ≡ is_over
          → ((rest : Reading) → by_ending counts here x.place (behind_item rest) counts' ending is_over ≡ found)
          → EndsWith rendering (StartsWith x) found.text found.outcome
      item_ended ending is_over found has over comes = record {
        due =
            λ reading starts.
            ap rendering.text starts.1 ∙ ap (λ (s : Searched). s.text) (item_known starts.0 ending is_over has over ∙ comes starts.0);
        outcome_is =
            λ reading starts.
            ap rendering.outcome starts.1 ∙ ap (λ (s : Searched). s.outcome) (item_known starts.0 ending is_over has over ∙ comes starts.0);
      }

      pub item_over : (ending : Ending) → HasRun item_run ending counts counts' → is_behind selection (open_page counts') ≡ true →
          EndsWith rendering (StartsWith x) [] AllDone
      item_over ending has over = item_ended ending true nothing_told has over (λ rest. refl)

      abbrev item_failed : Finding → Searched
      item_failed finding = found_at_failure selection job group counts' here (found_at x.place 1 finding)

      pub item_found : (finding : Finding) → HasRun item_run (Halts finding) counts counts' →
          is_behind selection (open_page counts') ≡ false →
          EndsWith rendering (StartsWith x) (item_failed finding).text (item_failed finding).outcome
      item_found finding has goes = item_ended (Halts finding) false (item_failed finding) has goes (λ rest. refl)

    -- ---- the end of the bytes

    module _ (place : ℕ) where
      abbrev end_run : Run
      end_run = (end_of machine).run any_panel

      abbrev last : Counts → State → Searched
      last c t = found_at_end selection job group c

      end_ended : (ending : Ending) (is_over : Bool) (found : Searched) → HasRun end_run ending counts counts' →
          is_behind selection (open_page counts') ≡ is_over
          → by_ending counts (fails_at None None) place last counts' ending is_over ≡ found
          → EndsWith rendering (λ reading. reading ≡ Whole [] place) found.text found.outcome
      end_ended ending is_over found has over comes =
          let known : rest_search selection job group machine counts (Whole [] place) ≡ found =
          run_known counts (fails_at None None) place last end_run ending counts' is_over has over ∙ comes in
          record {
            due = λ reading is. ap rendering.text is ∙ ap (λ (s : Searched). s.text) known;
            outcome_is = λ reading is. ap rendering.outcome is ∙ ap (λ (s : Searched). s.outcome) known;
          }

      pub end_over : (ending : Ending) → HasRun end_run ending counts counts' → is_behind selection (open_page counts') ≡ true →
          EndsWith rendering (λ reading. reading ≡ Whole [] place) [] AllDone
      end_over ending has over = end_ended ending true nothing_told has over refl

      abbrev at_end : Searched
      at_end = found_at_end selection job group counts'

      pub end_goes : (s : State) → HasRun end_run (Done s) counts counts' → is_behind selection (open_page counts') ≡ false →
          EndsWith rendering (λ reading. reading ≡ Whole [] place) at_end.text at_end.outcome
      end_goes s has goes = end_ended (Done s) false at_end has goes refl

      abbrev end_failed : Finding → Searched
      end_failed finding = found_at_failure selection job group counts' (fails_at None None) (found_at place 1 finding)

      pub end_found : (finding : Finding) → HasRun end_run (Halts finding) counts counts' →
          is_behind selection (open_page counts') ≡ false →
          EndsWith rendering (λ reading. reading ≡ Whole [] place) (end_failed finding).text (end_failed finding).outcome
      end_found finding has goes = end_ended (Halts finding) false (end_failed finding) has goes refl

-- ---- the start

-- a machine that has carried out nothing searches the pages of the job
pub search_start : (selection : Selection) (job : List ℕ) (group : Groups) (printer : Printer) (panel : Panel) (machine : MachineState)
    (counts : Counts) → IsNew printer (At panel) machine → counts ≡ no_counts →
    search_from selection job group machine counts ≡ search_rendering printer panel selection job group
search_start selection job group printer panel machine counts new none =
    let settings : Settings = user_defaults unwatched panel in
    let defaults_are : settings_at any_panel machine.defaults ≡ settings = new.defaults any_panel in
    let state_is : state_at any_panel machine.page ≡ start_state printer.most_items settings =
    new.page any_panel ∙ ap (start_state printer.most_items) defaults_are in
    let searched : (reading : Reading) →
    rest_search selection job group machine counts reading
    ≡ reading_search selection job group printer settings no_counts reading (no_macros printer.memory)
    (start_state printer.most_items settings) =
    λ reading. λ i. reading_search selection job group (new.printer_is i) (defaults_are i) (none i) reading (new.macros i) (state_is i) in
    λ i. record {
      text = λ reading. (searched reading i).text;
      outcome = λ reading. (searched reading i).outcome;
      at_fault = λ items place cause. (searched (Stopped items place cause) i).text;
    }
