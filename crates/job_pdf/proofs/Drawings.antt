-- What an item writes on a machine that knows its panel, and what is due of the rest of the job.
use Rattle.std.proofs.Common.{◌≡◌, ℕ, Bool, true, false, if◌then◌else◌, List, [], ◌∷◌, ◌++◌, refl, ap, sym, ◌∙◌, append_assoc}
use Rattle.std.proofs.Common.{append-nil}
use Rattle.pcl_items.specs.declared.fault.LexCause.{LexCause}
use Rattle.pcl_items.specs.Items.{Placed}
use Rattle.pcl_lexer.specs.Reading.{Reading, Whole, Stopped, with_item}
use Rattle.device_profile.specs.declared.panel.Panel.{Panel}
use Rattle.device_profile.specs.Printer.{Printer}
use Rattle.macro_store.specs.Store.{Store, no_macros}
use Rattle.page_env.specs.declared.finding.Finding.{Finding}
use Rattle.page_env.specs.Settings.{Settings, State, settings_at, state_at, start_state, user_defaults, unwatched}
use Rattle.page_machine.specs.declared.machine.Start.TheVariants.{At}
use Rattle.page_machine.specs.Event.{Event}
use Rattle.page_machine.specs.Run.{Peaks, Run, just, after, Ending, Done, Halts}
use Rattle.page_machine.specs.MachineState.{MachineState}
use Rattle.page_machine.specs.Machine.{IsNew, item_of, end_of}
use Rattle.page_pdf.specs.Document.{Pdf, no_pdf}
use Rattle.renderings.specs.declared.outcome.Outcome.TheVariants.{Done as AllDone, Fail}
use Rattle.renderings.specs.Expected.{Rendering}
use Rattle.renderings.specs.Carriers.PageRendering.{any_panel}
use Rattle.renderings.specs.Carriers.Rendering.{RestGoesOn, EndsWith, BeginsWith, StartsWith}
use Rattle.requests.specs.Selection.{is_behind}
use Rattle.verdict.specs.declared.reason.Reason.TheVariants.{Finding as FindingOfRun}
use Rattle.verdict.specs.Failing.{found_at}
use Rattle.job_pdf.specs.declared.sheet.Sheet.{Sheet}
use Rattle.job_pdf.specs.Carriers.Rest.{drawn_from, rest_drawing}
use Rattle.job_pdf.specs.JobPdf.{Drawing, then_draws, drawn_out, at_failure, behind_ending, failure_end, run_drawing, whole_end}
use Rattle.job_pdf.specs.JobPdf.{reading_drawing, fault_behind, added_at_ending, started_behind, pdf_rendering}
use Rattle.job_pdf.specs.Plan.{Plan}
use Rattle.job_pdf.specs.Sheet.{drawn_events, pdf_behind_all, sheet_of, start_if_due, started}
use Rattle.job_pdf.proofs.Led.{drawn_events-append}

-- behind any item what stands before the pages is written
started-more : (items : List Placed) → started_behind true items ≡ true
started-more [] = refl
started-more (x ∷ items) = refl

module _ (plan : Plan) where
  -- ---- a run, and what follows

  module _ (printer : Printer) (pdf : Pdf) (s : State) (place : ℕ) (next : Pdf → State → Drawing) where
    abbrev sheet : Sheet
    sheet = sheet_of plan printer s

    abbrev failed : Pdf → Finding → Drawing
    failed pdf' finding = at_failure plan printer s pdf' (found_at place 1 finding)

    abbrev by_run : Run → Drawing
    by_run r = run_drawing plan printer pdf s place r next

    -- the same by the events and the ending alone, where it is known whether more is written
    abbrev by_events : List Event → Ending → Bool → Drawing
    by_events events ending is_over =
        then_draws (drawn_events sheet pdf events)
        (if is_over then drawn_out plan (pdf_behind_all sheet pdf events)
        else (behind_ending ending (next (pdf_behind_all sheet pdf events)) (failed (pdf_behind_all sheet pdf events))))

    run_known : (r : Run) (events : List Event) (peaks : Peaks) (ending : Ending) (is_over : Bool) →
        r ≡ after events peaks (just [] ending) → is_behind plan.selection (pdf_behind_all sheet pdf events).page ≡ is_over →
        by_run r ≡ by_events events ending is_over
    run_known r events peaks ending is_over is over =
        ap by_run is
        ∙ (ap (λ l. by_events l ending (is_behind plan.selection (pdf_behind_all sheet pdf l).page)) (append-nil events)
        ∙ ap (by_events events ending) over)

    -- its first events are known
    run_begun : (r : Run) (events others : List Event) → r.events ≡ events ++ others →
        (more : List ℕ) × ((by_run r).text ≡ drawn_events sheet pdf events ++ more)
    run_begun r events others is =
        let pdf' : Pdf = pdf_behind_all sheet pdf r.events in
        let later : List ℕ =
        (if is_behind plan.selection pdf'.page then drawn_out plan pdf' else (behind_ending r.ending (next pdf') (failed pdf'))).text in (
          drawn_events sheet (pdf_behind_all sheet pdf events) others ++ later,
          ap (λ l. drawn_events sheet pdf l ++ later) is
              ∙ (ap (λ t. t ++ later) (drawn_events-append sheet pdf events others)
              ∙ append_assoc (drawn_events sheet pdf events) (drawn_events sheet (pdf_behind_all sheet pdf events) others) later),
        )

  -- ---- what is written from a machine

  module _ (machine : MachineState) (before : Pdf) (is_started : Bool) where
    abbrev pdf : Pdf
    pdf = started is_started before

    abbrev defaults : Settings
    defaults = settings_at any_panel machine.defaults

    abbrev here : State
    here = state_at any_panel machine.page

    abbrev here_sheet : Sheet
    here_sheet = sheet_of plan machine.printer here

    abbrev start : List ℕ
    start = start_if_due is_started

    abbrev rendering : Rendering
    rendering = drawn_from plan machine before is_started

    -- ---- an item

    module _ (x : Placed) where
      abbrev behind_item : Reading → Pdf → State → Drawing
      behind_item rest pdf' t = reading_drawing plan machine.printer defaults pdf' rest (item_of machine x.item).macros t

      abbrev item_run : Run
      item_run = (item_of machine x.item).run any_panel

      item_first : (rest : Reading) →
          rest_drawing plan machine pdf (with_item x rest)
          ≡ by_run machine.printer pdf here x.place (behind_item rest) item_run
      item_first (Whole items place) = refl
      item_first (Stopped items place cause) = refl

      abbrev item_known : (rest : Reading) (events : List Event) (peaks : Peaks) (ending : Ending) (is_over : Bool) →
          item_run ≡ after events peaks (just [] ending) →
          is_behind plan.selection (pdf_behind_all here_sheet pdf events).page ≡ is_over
          → rest_drawing plan machine pdf (with_item x rest)
          ≡ by_events machine.printer pdf here x.place (behind_item rest) events ending is_over
      item_known rest events peaks ending is_over is over =
          item_first rest
          ∙ run_known machine.printer pdf here x.place (behind_item rest) item_run events peaks ending is_over is over

      -- the item was carried out to its end
      pub item_goes : (machine' : MachineState) (events : List Event) (peaks : Peaks)
          → machine'
          ≡ record machine {
            page = machine'.page;
            macros = (item_of machine x.item).macros;
            mode = (item_of machine x.item).mode;
            stopped = false;
          }
          → item_run ≡ after events peaks (just [] (Done (state_at any_panel machine'.page)))
          → is_behind plan.selection (pdf_behind_all here_sheet pdf events).page ≡ false
          → RestGoesOn rendering (drawn_from plan machine' (pdf_behind_all here_sheet pdf events) true) x
          (start ++ drawn_events here_sheet pdf events)
      item_goes machine' events peaks is run goes =
          let pdf' : Pdf = pdf_behind_all here_sheet pdf events in
          let t : State = state_at any_panel machine'.page in
          let drawn : List ℕ = drawn_events here_sheet pdf events in
          let macros : Store = (item_of machine x.item).macros in
          let rest_is : (rest : Reading) → behind_item rest pdf' t ≡ rest_drawing plan machine' pdf' rest =
          λ rest. sym (ap
          (λ (m : MachineState). reading_drawing plan m.printer (settings_at any_panel m.defaults) pdf' rest m.macros t) is) in
          let known : (rest : Reading) →
          rest_drawing plan machine pdf (with_item x rest)
          ≡ then_draws drawn (rest_drawing plan machine' pdf' rest) =
          λ rest. item_known rest events peaks (Done t) false run goes ∙ ap (then_draws drawn) (rest_is rest) in
          let added : (rest : List Placed) (place : ℕ) (cause : LexCause) →
          fault_behind plan machine.printer defaults place cause pdf' rest macros t
          ≡ fault_behind plan machine'.printer (settings_at any_panel machine'.defaults) place cause pdf' rest machine'.macros t
          = λ rest place cause.
          sym (ap
          (λ (m : MachineState).
          fault_behind plan m.printer (settings_at any_panel m.defaults) place cause pdf' rest m.macros t)
          is) in
          record {
            due = λ rest.
                ap (λ (d : Drawing). start ++ d.text) (known rest)
                ∙ sym (append_assoc start drawn (rest_drawing plan machine' pdf' rest).text);
            outcome = λ rest. ap (λ (d : Drawing). d.outcome) (known rest);
            fault = λ rest place cause.
                let behind : List Event → Ending → Bool → List ℕ =
                λ l ending is_over. if is_over then []
                else (added_at_ending ending
                (λ s. fault_behind plan machine.printer defaults place cause (pdf_behind_all here_sheet pdf l) rest macros s)) in
                ap (λ (r : Run). behind r.events r.ending (is_behind plan.selection (pdf_behind_all here_sheet pdf r.events).page)) run
                ∙ (ap (λ l. behind l (Done t) (is_behind plan.selection (pdf_behind_all here_sheet pdf l).page)) (append-nil events)
                ∙ (ap (behind events (Done t)) goes
                ∙ (added rest place cause
                ∙ ap
                (λ b. start_if_due b
                ++ fault_behind plan machine'.printer
                (settings_at any_panel machine'.defaults) place cause pdf' rest machine'.macros t)
                (sym (started-more rest)))));
          }

      -- all that is wanted is written behind it, however it ended
      pub item_over : (events : List Event) (peaks : Peaks) (ending : Ending) → item_run ≡ after events peaks (just [] ending) →
          is_behind plan.selection (pdf_behind_all here_sheet pdf events).page ≡ true
          → EndsWith rendering (StartsWith x)
          (start ++ drawn_events here_sheet pdf events ++ whole_end plan (pdf_behind_all here_sheet pdf events)) AllDone
      item_over events peaks ending run over =
          let drawn : List ℕ = drawn_events here_sheet pdf events in
          let tail : List ℕ = whole_end plan (pdf_behind_all here_sheet pdf events) in
          let known = λ (rest : Reading). item_known rest events peaks ending true run over in
          record {
            due = λ reading starts.
                ap rendering.text starts.1
                ∙ (ap (λ (d : Drawing). start ++ d.text) (known starts.0)
                ∙ sym (append_assoc start drawn tail));
            outcome_is = λ reading starts. ap rendering.outcome starts.1 ∙ ap (λ (d : Drawing). d.outcome) (known starts.0);
          }

      -- it had a finding
      pub item_found : (finding : Finding) (events : List Event) (peaks : Peaks)
          → item_run ≡ after events peaks (just [] (Halts finding)) →
          is_behind plan.selection (pdf_behind_all here_sheet pdf events).page ≡ false
          → EndsWith rendering (StartsWith x)
          (start ++ drawn_events here_sheet pdf events
          ++ failure_end plan machine.printer here (pdf_behind_all here_sheet pdf events) (found_at x.place 1 finding))
          (Fail x.place 1 (FindingOfRun finding))
      item_found finding events peaks run goes =
          let drawn : List ℕ = drawn_events here_sheet pdf events in
          let tail : List ℕ =
          failure_end plan machine.printer here (pdf_behind_all here_sheet pdf events) (found_at x.place 1 finding) in
          let known = λ (rest : Reading). item_known rest events peaks (Halts finding) false run goes in
          record {
            due = λ reading starts.
                ap rendering.text starts.1
                ∙ (ap (λ (d : Drawing). start ++ d.text) (known starts.0)
                ∙ sym (append_assoc start drawn tail));
            outcome_is = λ reading starts. ap rendering.outcome starts.1 ∙ ap (λ (d : Drawing). d.outcome) (known starts.0);
          }

      -- or some of its events were written
      pub item_begun : (events others : List Event) → item_run.events ≡ events ++ others →
          BeginsWith rendering (StartsWith x) (start ++ drawn_events here_sheet pdf events)
      item_begun events others run = λ reading starts.
          let begun = run_begun machine.printer pdf here x.place (behind_item starts.0) item_run events others run in (
            begun.0,
            ap rendering.text starts.1
                ∙ (ap (λ (d : Drawing). start ++ d.text) (item_first starts.0)
                ∙ (ap (λ t. start ++ t) begun.1
                ∙ sym (append_assoc start (drawn_events here_sheet pdf events) begun.0))),
          )

    -- ---- the end of the bytes

    module _ (place : ℕ) where
      abbrev end_run : Run
      end_run = (end_of machine).run any_panel

      abbrev last : Pdf → State → Drawing
      last pdf' t = drawn_out plan pdf'

      abbrev IsEnd : Reading → Type 0
      IsEnd reading = reading ≡ Whole [] place

      abbrev end_known : (events : List Event) (peaks : Peaks) (ending : Ending) (is_over : Bool) →
          end_run ≡ after events peaks (just [] ending) →
          is_behind plan.selection (pdf_behind_all here_sheet pdf events).page ≡ is_over
          → rest_drawing plan machine pdf (Whole [] place)
          ≡ by_events machine.printer pdf here place last events ending is_over
      end_known events peaks ending is_over is over =
          run_known machine.printer pdf here place last end_run events peaks ending is_over is over

      -- all is written behind it, since no more is wanted or no more comes
      pub end_over : (events : List Event) (peaks : Peaks) (ending : Ending) → end_run ≡ after events peaks (just [] ending) →
          is_behind plan.selection (pdf_behind_all here_sheet pdf events).page ≡ true
          → EndsWith rendering IsEnd
          (start ++ drawn_events here_sheet pdf events ++ whole_end plan (pdf_behind_all here_sheet pdf events)) AllDone
      end_over events peaks ending run over =
          let known = end_known events peaks ending true run over in
          record {
            due = λ reading is.
                ap rendering.text is
                ∙ (ap (λ (d : Drawing). start ++ d.text) known
                ∙ sym (append_assoc start (drawn_events here_sheet pdf events) (whole_end plan (pdf_behind_all here_sheet pdf events))));
            outcome_is = λ reading is. ap rendering.outcome is ∙ ap (λ (d : Drawing). d.outcome) known;
          }

      pub end_goes : (s : State) (events : List Event) (peaks : Peaks) → end_run ≡ after events peaks (just [] (Done s)) →
          is_behind plan.selection (pdf_behind_all here_sheet pdf events).page ≡ false
          → EndsWith rendering IsEnd
          (start ++ drawn_events here_sheet pdf events ++ whole_end plan (pdf_behind_all here_sheet pdf events)) AllDone
      end_goes s events peaks run goes =
          let known = end_known events peaks (Done s) false run goes in
          record {
            due = λ reading is.
                ap rendering.text is
                ∙ (ap (λ (d : Drawing). start ++ d.text) known
                ∙ sym (append_assoc start (drawn_events here_sheet pdf events) (whole_end plan (pdf_behind_all here_sheet pdf events))));
            outcome_is = λ reading is. ap rendering.outcome is ∙ ap (λ (d : Drawing). d.outcome) known;
          }

      pub end_found : (finding : Finding) (events : List Event) (peaks : Peaks)
          → end_run ≡ after events peaks (just [] (Halts finding)) →
          is_behind plan.selection (pdf_behind_all here_sheet pdf events).page ≡ false
          → EndsWith rendering IsEnd
          (start ++ drawn_events here_sheet pdf events
          ++ failure_end plan machine.printer here (pdf_behind_all here_sheet pdf events) (found_at place 1 finding))
          (Fail place 1 (FindingOfRun finding))
      end_found finding events peaks run goes =
          let known = end_known events peaks (Halts finding) false run goes in
          record {
            due = λ reading is.
                ap rendering.text is
                ∙ (ap (λ (d : Drawing). start ++ d.text) known
                ∙ sym (append_assoc start (drawn_events here_sheet pdf events)
                (failure_end plan machine.printer here (pdf_behind_all here_sheet pdf events) (found_at place 1 finding))));
            outcome_is = λ reading is. ap rendering.outcome is ∙ ap (λ (d : Drawing). d.outcome) known;
          }

      pub end_begun : (events others : List Event) → end_run.events ≡ events ++ others →
          BeginsWith rendering IsEnd (start ++ drawn_events here_sheet pdf events)
      end_begun events others run = λ reading is.
          let begun = run_begun machine.printer pdf here place last end_run events others run in (
            begun.0,
            ap rendering.text is
                ∙ (ap (λ t. start ++ t) begun.1
                ∙ sym (append_assoc start (drawn_events here_sheet pdf events) begun.0)),
          )

-- ---- the start

-- a machine that has carried out nothing writes the pages of the job
pub drawing_start : (plan : Plan) (printer : Printer) (panel : Panel) (machine : MachineState) (pdf : Pdf)
    → IsNew printer (At panel) machine → pdf ≡ no_pdf
    → drawn_from plan machine pdf false ≡ pdf_rendering printer panel plan
drawing_start plan printer panel machine pdf new first =
    let settings : Settings = user_defaults unwatched panel in
    let defaults_are : settings_at any_panel machine.defaults ≡ settings = new.defaults any_panel in
    let state_is : state_at any_panel machine.page ≡ start_state printer.most_items settings =
    new.page any_panel ∙ ap (start_state printer.most_items) defaults_are in
    let drawn : (reading : Reading) →
    rest_drawing plan machine (started false pdf) reading
    ≡ reading_drawing plan printer settings (started false no_pdf) reading (no_macros printer.memory)
    (start_state printer.most_items settings) =
    λ reading. λ i.
    reading_drawing plan (new.printer_is i) (defaults_are i) (started false (first i)) reading (new.macros i) (state_is i) in
    λ i. record {
      text = λ reading. (then_draws (start_if_due false) (drawn reading i)).text;
      outcome = λ reading. (drawn reading i).outcome;
      at_fault = λ items place cause.
          start_if_due (started_behind false items)
          ++ fault_behind plan (new.printer_is i) (defaults_are i) place cause (started false (first i)) items (new.macros i) (state_is i);
    }
