-- What an item draws on a machine that knows its panel, and what is due of the rest of the job.
use Rattle.std.proofs.Common.{◌≡◌, ℕ, Bool, true, false, if◌then◌else◌, List, [], ◌∷◌, ◌++◌, refl, ap, sym, ◌∙◌, append_assoc, append-nil}
use Rattle.std.proofs.Common.{Option, None, Some}
use Rattle.pcl_items.specs.declared.fault.LexCause.{LexCause}
use Rattle.pcl_items.specs.Items.{Placed}
use Rattle.pcl_lexer.specs.Reading.{Reading, Whole, Stopped, with_item}
use Rattle.device_profile.specs.declared.panel.Panel.{Panel}
use Rattle.device_profile.specs.Printer.{Printer}
use Rattle.macro_store.specs.Store.{Store, no_macros}
use Rattle.page_env.specs.declared.finding.Finding.{Finding}
use Rattle.page_env.specs.Settings.{Settings, State, settings_at, state_at, start_state, user_defaults, unwatched}
use Rattle.page_machine.specs.declared.machine.Start.TheVariants.{At}
use Rattle.page_machine.specs.Event.{Event}
use Rattle.page_machine.specs.Run.{Peaks, Run, just, after, Ending, Done, Halts}
use Rattle.page_machine.specs.MachineState.{MachineState}
use Rattle.page_machine.specs.Machine.{IsNew, item_of, end_of}
use Rattle.renderings.specs.declared.outcome.Outcome.TheVariants.{Done as AllDone, Fail}
use Rattle.renderings.specs.Expected.{Rendering}
use Rattle.renderings.specs.Carriers.PageRendering.{any_panel}
use Rattle.renderings.specs.Carriers.Rendering.{RestGoesOn, EndsWith, BeginsWith, StartsWith}
use Rattle.verdict.specs.declared.reason.Reason.TheVariants.{Finding as FindingOfRun}
use Rattle.job_picture.specs.declared.progress.Progress.{Progress}
use Rattle.requests.specs.declared.selection.Selection.{Selection}
use Rattle.job_picture.specs.declared.sheet.Sheet.{Sheet}
use Rattle.job_picture.specs.Carriers.Rest.{drawn_from, rest_drawing}
use Rattle.page_picture.specs.declared.failure.Outline.{Outline}
use Rattle.job_picture.specs.JobPicture.{Drawing, then_draws, drawn_out, late_end, at_the_end, at_failure, behind_ending, run_drawing}
use Rattle.job_picture.specs.JobPicture.{mark_on_page}
use Rattle.job_picture.specs.JobPicture.{reading_drawing, fault_behind, added_at_ending, started_behind, picture_rendering}
use Rattle.job_picture.specs.Progress.{first_page, progress_behind_all}
use Rattle.requests.specs.Selection.{is_behind}
use Rattle.job_picture.specs.Sheet.{drawn_events, end_of_all, sheet_of, start_if_due}
use Rattle.job_picture.proofs.Led.{drawn_events-append}

-- behind any item what stands before all pages is put
started-more : (items : List Placed) → started_behind true items ≡ true
started-more [] = refl
started-more (x ∷ items) = refl

module _ (selection : Selection) (sentence : List ℕ) where
  -- ---- a run, and what follows

  module _ (printer : Printer) (p : Progress) (s : State) (place : ℕ) (mark : Option Outline) (next : Progress → State → Drawing) where
    abbrev sheet : Sheet
    sheet = sheet_of place selection sentence printer s

    abbrev failed : Progress → Finding → Drawing
    failed p' finding = at_failure selection sentence printer place mark s p' (Some finding) (Fail place 1 (FindingOfRun finding))

    abbrev by_run : Run → Drawing
    by_run r = run_drawing selection sentence printer p s place mark r next

    -- the same by the events and the ending alone, where it is known whether more is drawn
    abbrev by_events : List Event → Ending → Bool → Drawing
    by_events events ending is_over =
        then_draws (drawn_events sheet p events)
        (if is_over then drawn_out
        else (behind_ending ending (next (progress_behind_all p events)) (failed (progress_behind_all p events))))

    run_known : (r : Run) (events : List Event) (peaks : Peaks) (ending : Ending) (is_over : Bool) →
        r ≡ after events peaks (just [] ending) → is_behind selection (progress_behind_all p events).page ≡ is_over →
        by_run r ≡ by_events events ending is_over
    run_known r events peaks ending is_over is over =
        ap by_run is
        ∙ (ap (λ l. by_events l ending (is_behind selection (progress_behind_all p l).page)) (append-nil events)
        ∙ ap (by_events events ending) over)

    -- its first events are known
    run_begun : (r : Run) (events others : List Event) → r.events ≡ events ++ others →
        (more : List ℕ) × ((by_run r).text ≡ drawn_events sheet p events ++ more)
    run_begun r events others is =
        let p' : Progress = progress_behind_all p r.events in
        let later : List ℕ = (if is_behind selection p'.page then drawn_out else (behind_ending r.ending (next p') (failed p'))).text in (
          drawn_events sheet (progress_behind_all p events) others ++ later,
          ap (λ l. drawn_events sheet p l ++ later) is
              ∙ (ap (λ t. t ++ later) (drawn_events-append sheet p events others)
              ∙ append_assoc (drawn_events sheet p events) (drawn_events sheet (progress_behind_all p events) others) later),
        )

  -- ---- what is drawn from a machine

  module _ (machine : MachineState) (p : Progress) (is_started : Bool) where
    abbrev defaults : Settings
    defaults = settings_at any_panel machine.defaults

    abbrev here : State
    here = state_at any_panel machine.page

    abbrev here_sheet : ℕ → Sheet
    here_sheet place = sheet_of place selection sentence machine.printer here

    abbrev start : List ℕ
    start = start_if_due selection sentence is_started

    abbrev rendering : Rendering
    rendering = drawn_from selection sentence machine p is_started

    -- ---- an item

    module _ (x : Placed) where
      abbrev behind_item : Reading → Progress → State → Drawing
      behind_item rest p' t = reading_drawing selection sentence machine.printer defaults p' rest (item_of machine x.item).macros t

      abbrev item_run : Run
      item_run = (item_of machine x.item).run any_panel

      abbrev item_mark : Option Outline
      item_mark = mark_on_page machine.printer here x.item

      item_first : (rest : Reading) →
          rest_drawing selection sentence machine p (with_item x rest)
          ≡ by_run machine.printer p here x.place item_mark (behind_item rest) item_run
      item_first (Whole items place) = refl
      item_first (Stopped items place cause) = refl

      abbrev item_known : (rest : Reading) (events : List Event) (peaks : Peaks) (ending : Ending) (is_over : Bool) →
          item_run ≡ after events peaks (just [] ending) → is_behind selection (progress_behind_all p events).page ≡ is_over
          → rest_drawing selection sentence machine p (with_item x rest)
          ≡ by_events machine.printer p here x.place item_mark (behind_item rest) events ending is_over
      item_known rest events peaks ending is_over is over =
          item_first rest
          ∙ run_known machine.printer p here x.place item_mark (behind_item rest) item_run events peaks ending is_over is over

      -- the item was carried out to its end
      pub item_goes : (machine' : MachineState) (events : List Event) (peaks : Peaks)
          → machine'
          ≡ record machine {
            page = machine'.page;
            macros = (item_of machine x.item).macros;
            mode = (item_of machine x.item).mode;
            stopped = false;
          }
          → item_run ≡ after events peaks (just [] (Done (state_at any_panel machine'.page)))
          → is_behind selection (progress_behind_all p events).page ≡ false
          → RestGoesOn rendering (drawn_from selection sentence machine' (progress_behind_all p events) true) x
          (start ++ drawn_events (here_sheet x.place) p events)
      item_goes machine' events peaks is run goes =
          let p' : Progress = progress_behind_all p events in
          let t : State = state_at any_panel machine'.page in
          let drawn : List ℕ = drawn_events (here_sheet x.place) p events in
          let macros : Store = (item_of machine x.item).macros in
          let rest_is : (rest : Reading) → behind_item rest p' t ≡ rest_drawing selection sentence machine' p' rest =
          λ rest. sym (ap
          (λ (m : MachineState). reading_drawing selection sentence m.printer (settings_at any_panel m.defaults) p' rest m.macros t) is) in
          let known : (rest : Reading) →
          rest_drawing selection sentence machine p (with_item x rest)
          ≡ then_draws drawn (rest_drawing selection sentence machine' p' rest) =
          λ rest. item_known rest events peaks (Done t) false run goes ∙ ap (then_draws drawn) (rest_is rest) in
          let added : (rest : List Placed) (place : ℕ) (cause : LexCause) →
          fault_behind selection sentence machine.printer defaults place cause p' rest macros t
          ≡ fault_behind selection sentence machine'.printer (settings_at any_panel machine'.defaults) place cause p' rest machine'.macros t
          = λ rest place cause.
          sym (ap
          (λ (m : MachineState).
          fault_behind selection sentence m.printer (settings_at any_panel m.defaults) place cause p' rest m.macros t)
          is) in
          record {
            due = λ rest.
                ap (λ (d : Drawing). start ++ d.text) (known rest)
                ∙ sym (append_assoc start drawn (rest_drawing selection sentence machine' p' rest).text);
            outcome = λ rest. ap (λ (d : Drawing). d.outcome) (known rest);
            fault = λ rest place cause.
                let behind : List Event → Ending → Bool → List ℕ =
                λ l ending is_over. if is_over then []
                else (added_at_ending ending
                (λ s. fault_behind selection sentence machine.printer defaults place cause (progress_behind_all p l) rest macros s)) in
                ap (λ (r : Run). behind r.events r.ending (is_behind selection (progress_behind_all p r.events).page)) run
                ∙ (ap (λ l. behind l (Done t) (is_behind selection (progress_behind_all p l).page)) (append-nil events)
                ∙ (ap (behind events (Done t)) goes
                ∙ (added rest place cause
                ∙ ap
                (λ b. start_if_due selection sentence b
                ++ fault_behind selection sentence machine'.printer
                (settings_at any_panel machine'.defaults) place cause p' rest machine'.macros t)
                (sym (started-more rest)))));
          }

      -- all that is wanted is drawn behind it, however it ended
      pub item_over : (events : List Event) (peaks : Peaks) (ending : Ending) → item_run ≡ after events peaks (just [] ending) →
          is_behind selection (progress_behind_all p events).page ≡ true
          → EndsWith rendering (StartsWith x) (start ++ drawn_events (here_sheet x.place) p events) AllDone
      item_over events peaks ending run over =
          let drawn : List ℕ = drawn_events (here_sheet x.place) p events in
          let known = λ (rest : Reading). item_known rest events peaks ending true run over in
          record {
            due = λ reading starts.
                ap rendering.text starts.1
                ∙ (ap (λ (d : Drawing). start ++ d.text) (known starts.0)
                ∙ ap (λ t. start ++ t) (append-nil drawn));
            outcome_is = λ reading starts. ap rendering.outcome starts.1 ∙ ap (λ (d : Drawing). d.outcome) (known starts.0);
          }

      -- it had a finding
      pub item_found : (finding : Finding) (events : List Event) (peaks : Peaks) → item_run ≡ after events peaks (just [] (Halts finding)) →
          is_behind selection (progress_behind_all p events).page ≡ false
          → EndsWith rendering (StartsWith x)
          (start ++ drawn_events (here_sheet x.place) p events
          ++ (failed machine.printer p here x.place item_mark (λ q t. drawn_out) (progress_behind_all p events) finding).text)
          (Fail x.place 1 (FindingOfRun finding))
      item_found finding events peaks run goes =
          let drawn : List ℕ = drawn_events (here_sheet x.place) p events in
          let tail : List ℕ =
          (failed machine.printer p here x.place item_mark (λ q t. drawn_out) (progress_behind_all p events) finding).text in
          let known = λ (rest : Reading). item_known rest events peaks (Halts finding) false run goes in
          record {
            due = λ reading starts.
                ap rendering.text starts.1
                ∙ (ap (λ (d : Drawing). start ++ d.text) (known starts.0)
                ∙ sym (append_assoc start drawn tail));
            outcome_is = λ reading starts. ap rendering.outcome starts.1 ∙ ap (λ (d : Drawing). d.outcome) (known starts.0);
          }

      -- or some of its events were drawn
      pub item_begun : (events others : List Event) → item_run.events ≡ events ++ others →
          BeginsWith rendering (StartsWith x) (start ++ drawn_events (here_sheet x.place) p events)
      item_begun events others run = λ reading starts.
          let begun = run_begun machine.printer p here x.place item_mark (behind_item starts.0) item_run events others run in (
            begun.0,
            ap rendering.text starts.1
                ∙ (ap (λ (d : Drawing). start ++ d.text) (item_first starts.0)
                ∙ (ap (λ t. start ++ t) begun.1
                ∙ sym (append_assoc start (drawn_events (here_sheet x.place) p events) begun.0))),
          )

    -- ---- the end of the bytes

    module _ (place : ℕ) where
      abbrev end_run : Run
      end_run = (end_of machine).run any_panel

      abbrev last : Progress → State → Drawing
      last p' t = at_the_end selection place

      abbrev IsEnd : Reading → Type 0
      IsEnd reading = reading ≡ Whole [] place

      abbrev end_known : (events : List Event) (peaks : Peaks) (ending : Ending) (is_over : Bool) →
          end_run ≡ after events peaks (just [] ending) → is_behind selection (progress_behind_all p events).page ≡ is_over
          → rest_drawing selection sentence machine p (Whole [] place)
          ≡ by_events machine.printer p here place None last events ending is_over
      end_known events peaks ending is_over is over =
          run_known machine.printer p here place None last end_run events peaks ending is_over is over

      pub end_over : (events : List Event) (peaks : Peaks) (ending : Ending) → end_run ≡ after events peaks (just [] ending) →
          is_behind selection (progress_behind_all p events).page ≡ true
          → EndsWith rendering IsEnd (start ++ drawn_events (here_sheet place) p events) AllDone
      end_over events peaks ending run over =
          let known = end_known events peaks ending true run over in
          record {
            due = λ reading is.
                ap rendering.text is
                ∙ (ap (λ (d : Drawing). start ++ d.text) known
                ∙ ap (λ t. start ++ t) (append-nil (drawn_events (here_sheet place) p events)));
            outcome_is = λ reading is. ap rendering.outcome is ∙ ap (λ (d : Drawing). d.outcome) known;
          }

      pub end_goes : (s : State) (events : List Event) (peaks : Peaks) → end_run ≡ after events peaks (just [] (Done s)) →
          is_behind selection (progress_behind_all p events).page ≡ false
          → EndsWith rendering IsEnd (start ++ drawn_events (here_sheet place) p events ++ end_of_all selection) (late_end selection place)
      end_goes s events peaks run goes =
          let known = end_known events peaks (Done s) false run goes in
          record {
            due = λ reading is.
                ap rendering.text is
                ∙ (ap (λ (d : Drawing). start ++ d.text) known
                ∙ sym (append_assoc start (drawn_events (here_sheet place) p events) (end_of_all selection)));
            outcome_is = λ reading is. ap rendering.outcome is ∙ ap (λ (d : Drawing). d.outcome) known;
          }

      pub end_found : (finding : Finding) (events : List Event) (peaks : Peaks) → end_run ≡ after events peaks (just [] (Halts finding)) →
          is_behind selection (progress_behind_all p events).page ≡ false
          → EndsWith rendering IsEnd
          (start ++ drawn_events (here_sheet place) p events
          ++ (failed machine.printer p here place None last (progress_behind_all p events) finding).text)
          (Fail place 1 (FindingOfRun finding))
      end_found finding events peaks run goes =
          let known = end_known events peaks (Halts finding) false run goes in
          record {
            due = λ reading is.
                ap rendering.text is
                ∙ (ap (λ (d : Drawing). start ++ d.text) known
                ∙ sym (append_assoc start (drawn_events (here_sheet place) p events)
                (failed machine.printer p here place None last (progress_behind_all p events) finding).text));
            outcome_is = λ reading is. ap rendering.outcome is ∙ ap (λ (d : Drawing). d.outcome) known;
          }

      pub end_begun : (events others : List Event) → end_run.events ≡ events ++ others →
          BeginsWith rendering IsEnd (start ++ drawn_events (here_sheet place) p events)
      end_begun events others run = λ reading is.
          let begun = run_begun machine.printer p here place None last end_run events others run in (
            begun.0,
            ap rendering.text is
                ∙ (ap (λ t. start ++ t) begun.1
                ∙ sym (append_assoc start (drawn_events (here_sheet place) p events) begun.0)),
          )

-- ---- the start

-- a machine that has carried out nothing draws the pages of the job
pub drawing_start : (selection : Selection) (sentence : List ℕ) (printer : Printer) (panel : Panel) (machine : MachineState)
    (p : Progress) → IsNew printer (At panel) machine → p ≡ first_page →
    drawn_from selection sentence machine p false ≡ picture_rendering printer panel selection sentence
drawing_start selection sentence printer panel machine p new first =
    let settings : Settings = user_defaults unwatched panel in
    let defaults_are : settings_at any_panel machine.defaults ≡ settings = new.defaults any_panel in
    let state_is : state_at any_panel machine.page ≡ start_state printer.most_items settings =
    new.page any_panel ∙ ap (start_state printer.most_items) defaults_are in
    let drawn : (reading : Reading) →
    rest_drawing selection sentence machine p reading
    ≡ reading_drawing selection sentence printer settings first_page reading (no_macros printer.memory)
    (start_state printer.most_items settings) =
    λ reading. λ i. reading_drawing selection sentence (new.printer_is i) (defaults_are i) (first i) reading (new.macros i) (state_is i) in
    λ i. record {
      text = λ reading. (then_draws (start_if_due selection sentence false) (drawn reading i)).text;
      outcome = λ reading. (drawn reading i).outcome;
      at_fault = λ items place cause.
          start_if_due selection sentence (started_behind false items)
          ++ fault_behind selection sentence (new.printer_is i) (defaults_are i) place cause (first i) items (new.macros i) (state_is i);
    }
