-- A run is the same from each panel that has other values in fields that are watched.
use Rattle.std.proofs.Common.{◌≡◌, ℕ, ℤ, zero, suc, ◌+◌, nat_lt, length, Bool, true, false, cond, ◌&&◌, is_some, List, [], ◌∷◌, refl, ap}
use Rattle.std.proofs.Common.{sym, ◌∙◌, subst, Option, Some, None, arith}
use Rattle.std.proofs.lemmas.Bool.{lt-ltb}
use Rattle.std.specs.Prelude.{Contains}
use Rattle.pcl_items.specs.Spellings.Canon.{canon}
use Rattle.pcl_items.specs.Items.{Entry, Reset, Placed}
use Rattle.pcl_lexer.specs.Reading.{Reading, Whole, Stopped}
use Rattle.pcl_items.specs.Escapes.Value.{Amount}
use Rattle.device_profile.specs.declared.field.Field.{Field}
use Rattle.device_profile.specs.declared.field.Field.TheVariants.{Size, Orientation, Vmi, Font, Copies, Sides, Tray, LineTerm}
use Rattle.device_profile.specs.declared.panel.Panel.{Panel}
use Rattle.device_profile.specs.Printer.{Printer, IsAllowed}
use Rattle.macro_store.specs.Store.{Store, body_of, stored_bytes, appended, no_macros}
use Rattle.page_env.specs.declared.finding.Finding.{Finding}
use Rattle.page_env.specs.declared.finding.Finding.TheVariants.{MacroDepth, MacroMemory, InMacro, DefinitionOpen}
use Rattle.page_env.specs.declared.macros.Control.{Control}
use Rattle.page_env.specs.declared.macros.Control.TheVariants.{Execute, Call}
use Rattle.page_env.specs.AnyPanel.{fields_with, settings_with, state_with, GoesAlike, IsAlikeItem, IsAlikeByte, IsAlikeMove}
use Rattle.page_env.specs.Effect.{check, first_finding, is_unset, first_unset, Effect, Goes, GoesThenCloses, GoesThenEnds, Controlling}
use Rattle.page_env.specs.Effect.{Fails, effect_of, Step}
use Rattle.page_env.specs.Macros.{control_of, control_checks, controlled, overlay_state, spend_item}
use Rattle.page_env.specs.Settings.{Flags, Settings, State, has_choice, start_state, user_defaults, watched}
use Rattle.page_env.specs.Rasters.{is_of_raster}
use Rattle.page_env.specs.Table.{printed_bytes, coordinates_of, transition_of}
use Rattle.page_env.specs.Pens.{move_pen}
use Rattle.page_env.specs.Text.{print_transparent}
use Rattle.page_machine.specs.declared.defining.Defining.{Defining}
use Rattle.page_machine.specs.declared.defining.Defining.TheVariants.{Refused, Completed, Stored}
use Rattle.page_machine.specs.declared.nesting.Nesting.{Nesting}
use Rattle.page_machine.specs.declared.nesting.Nesting.TheVariants.{Job, Overlaid}
use Rattle.page_machine.specs.Event.{Event}
use Rattle.page_machine.specs.Run.{Peaks, peaks_of, Run, just, after, onward, followed_by, finding_or, unset_or, goes, effect_run, Ending}
use Rattle.page_machine.specs.Run.{Done, Halts, marked_close, close_and_change, transition_run, Conditions, reset_run, byte_run, printing}
use Rattle.page_machine.specs.Run.{move_run, drawing, own_run, begun_run, item_run, entries_run}
use Rattle.page_machine.specs.Macros.{MacroContext, is_macro, fixes_paper, executed_in, called_in, ending_with, put_back, found_run}
use Rattle.page_machine.specs.Macros.{control_body, control_run, conditions_in, raster_ended, at_level, body_run, macro_item_run}
use Rattle.page_machine.specs.Macros.{closing_reads, ended, refused, ending_at, give_up, overlay_run, is_too_deep, page_close, in_job}
use Rattle.page_machine.specs.Defining.{defining_of, of_memory, defining_run, is_defining, job_item_run, macros_after, job_end_run}
use Rattle.page_machine.specs.Job.{JobRun, at_end, begun_with, one_item, ended_item, after_item, with_macros, items_run, end_run, no_end}
use Rattle.page_machine.specs.Job.{reading_run, run_from}
use Rattle.page_machine.specs.Laws.{ending_with_panel, run_with_panel, RunsAlike, IsWatchedAlike}

module _ (panel : Panel) where
  -- ---- runs

  abbrev there : State → State
  there s = state_with panel s

  -- the same run at the panel
  abbrev moved : Run → Run
  moved r = record r { ending = ending_with_panel panel r.ending }

  abbrev Alike : Run → Run → Type 0
  Alike r r' = r' ≡ moved r

  same_unset : (settings : Settings) (field : Field) → is_unset (settings_with panel settings) field ≡ is_unset settings field
  same_unset settings Size = refl
  same_unset settings Orientation = refl
  same_unset settings Vmi = refl
  same_unset settings Font = refl
  same_unset settings Copies = refl
  same_unset settings Sides = refl
  same_unset settings Tray = refl
  same_unset settings LineTerm = refl

  same_first_unset : (settings : Settings) (fields : List Field) →
      first_unset (settings_with panel settings) fields ≡ first_unset settings fields
  same_first_unset settings [] = refl
  same_first_unset settings (field ∷ fields) =
      ap (λ b. cond b (Some field) (first_unset (settings_with panel settings) fields)) (same_unset settings field)
      ∙ ap (λ later. cond (is_unset settings field) (Some field) later) (same_first_unset settings fields)

  onward_alike : (events : List Event) (peaks : Peaks) (e : Ending) (next next' : State → Run) →
      ((s : State) → Alike (next s) (next' (there s))) →
      onward events peaks (ending_with_panel panel e) next' ≡ moved (onward events peaks e next)
  onward_alike events peaks (Done s) next next' p = ap (after events peaks) (p s)
  onward_alike events peaks (Halts finding) next next' p = refl

  -- what goes before a run
  after_alike : (events : List Event) (peaks : Peaks) (r r' : Run) → Alike r r' → Alike (after events peaks r) (after events peaks r')
  after_alike events peaks r r' p = ap (after events peaks) p

  followed_alike : (r r' : Run) (next next' : State → Run) → Alike r r' → ((s : State) → Alike (next s) (next' (there s))) →
      Alike (followed_by r next) (followed_by r' next')
  followed_alike r r' next next' p q = ap (λ x. followed_by x next') p ∙ onward_alike r.events r.peaks r.ending next next' q

  unset_alike : (o : Option Field) (r r' : Run) → Alike r r' → Alike (unset_or o r) (unset_or o r')
  unset_alike (Some field) r r' p = refl
  unset_alike None r r' p = p

  reads_alike : (settings : Settings) (fields : List Field) (r r' : Run) → Alike r r' →
      Alike (unset_or (first_unset settings fields) r) (unset_or (first_unset (settings_with panel settings) fields) r')
  reads_alike settings fields r r' p =
      ap (λ o. unset_or o r') (same_first_unset settings fields) ∙ unset_alike (first_unset settings fields) r r' p

  cond_alike : (b : Bool) (r r' t t' : Run) → Alike r r' → Alike t t' → Alike (cond b r t) (cond b r' t')
  cond_alike true r r' t t' p q = p
  cond_alike false r r' t t' p q = q

  finding_alike : (o : Option Finding) (r r' : Run) → Alike r r' → Alike (finding_or o r) (finding_or o r')
  finding_alike (Some finding) r r' p = refl
  finding_alike None r r' p = p

  -- ---- items

  module _ (printer : Printer) (defaults : Settings) (fixed : Bool) (close close' : State → Run) (control control' : Amount → State → Run)
      (closes : (s : State) → Alike (close s) (close' (there s)))
      (controls : (n : Amount) (s : State) → Alike (control n s) (control' n (there s))) where
    abbrev here : Conditions
    here = record { defaults = defaults; fixes_paper = fixed; close = close; control = control }

    abbrev elsewhere : Conditions
    elsewhere = record { defaults = settings_with panel defaults; fixes_paper = fixed; close = close'; control = control' }

    marked_alike : (s : State) → Alike (marked_close close s) (marked_close close' (there s))
    marked_alike s = cond_alike s.marked (close s) (close' (there s)) (just [] (Done s)) (just [] (Done (there s))) (closes s) refl

    -- a change behind the closing of a page, or that nothing may set the paper
    change_alike : (b : Bool) (s : State) (change change' : State → State) → ((t : State) → change' (there t) ≡ there (change t)) →
        Alike (cond b (just [] (Halts InMacro)) (close_and_change here s change))
        (cond b (just [] (Halts InMacro)) (close_and_change elsewhere (there s) change'))
    change_alike b s change change' same =
        let rest : Run = followed_by (marked_close close s) (λ u. just [] (Done (change u))) in
        let rest' : Run = followed_by (marked_close close' (there s)) (λ u. just [] (Done (change' u))) in
        cond_alike b (just [] (Halts InMacro)) (just [] (Halts InMacro)) (close_and_change here s change)
        (close_and_change elsewhere (there s) change') refl
        (after_alike [] (peaks_of s) rest rest'
        (followed_alike (marked_close close s) (marked_close close' (there s)) (λ u. just [] (Done (change u)))
        (λ u. just [] (Done (change' u))) (marked_alike s)
        (λ u. ap (λ v. just [] (Done v)) (same u))))

    -- like effects come to like runs
    effect_alike : (e e' : Effect) → GoesAlike panel e e' → Alike (effect_run here e) (effect_run elsewhere e')
    effect_alike (Goes s marks) (Goes s' marks') p = ap (λ t. goes t marks') p.0 ∙ ap (goes (there s)) p.1
    effect_alike (GoesThenCloses s sets change) (GoesThenCloses s' sets' change') p =
        ap (λ t. cond (sets' && fixed) (just [] (Halts InMacro)) (close_and_change elsewhere t change')) p.0
        ∙ ap (λ b. cond (b && fixed) (just [] (Halts InMacro)) (close_and_change elsewhere (there s) change')) p.1
        ∙ change_alike (sets && fixed) s change change' p.2
    effect_alike (GoesThenEnds s) (GoesThenEnds s') p =
        ap (λ t. after [] (peaks_of t) (close' t)) p ∙ after_alike [] (peaks_of s) (close s) (close' (there s)) (closes s)
    effect_alike (Controlling s n) (Controlling s' n') p = ap (λ k. control' k s') p.1 ∙ ap (control' n) p.0 ∙ controls n s
    effect_alike (Fails finding) (Fails finding') p = ap (λ f. just [] (Halts f)) p
    effect_alike _ _ p = absurd p

    module _ (items : (item : Entry) → IsAlikeItem printer panel defaults item) (bytes : (code : ℕ) → IsAlikeByte printer panel code)
        (moves : (to : ℤ × ℤ) → IsAlikeMove printer panel to) where
      own_alike : (item : Entry) (s : State) → Alike (own_run printer here item s) (own_run printer elsewhere item (there s))
      own_alike item s =
          effect_alike (effect_of s.settings (transition_of printer defaults s item))
          (effect_of (settings_with panel s.settings) (transition_of printer (settings_with panel defaults) (there s) item)) (items item s)

      byte_alike : (code : ℕ) (s : State) → Alike (byte_run printer here code s) (byte_run printer elsewhere code (there s))
      byte_alike code s =
          effect_alike (effect_of s.settings (Step (print_transparent printer s code)))
          (effect_of (settings_with panel s.settings) (Step (print_transparent printer (there s) code))) (bytes code s)

      printing_alike : (r r' : Run) (codes : List ℕ) → Alike r r' →
          Alike (printing printer here r codes) (printing printer elsewhere r' codes)
      printing_alike r r' [] p = p
      printing_alike r r' (code ∷ codes) p =
          printing_alike (followed_by r (byte_run printer here code)) (followed_by r' (byte_run printer elsewhere code)) codes
          (followed_alike r r' (byte_run printer here code) (byte_run printer elsewhere code) p (byte_alike code))

      move_alike : (to : ℤ × ℤ) (s : State) → Alike (move_run printer here to s) (move_run printer elsewhere to (there s))
      move_alike to s =
          effect_alike (effect_of s.settings (Step (move_pen printer s to)))
          (effect_of (settings_with panel s.settings) (Step (move_pen printer (there s) to))) (moves to s)

      drawing_alike : (r r' : Run) (to : Option (ℤ × ℤ)) → Alike r r' → Alike (drawing printer here r to) (drawing printer elsewhere r' to)
      drawing_alike r r' None p = p
      drawing_alike r r' (Some to) p = followed_alike r r' (move_run printer here to) (move_run printer elsewhere to) p (move_alike to)

      begun_alike : (item : Entry) (s : State) → Alike (begun_run printer here item s) (begun_run printer elsewhere item (there s))
      begun_alike item s =
          let own : Run = own_run printer here item s in
          let own' : Run = own_run printer elsewhere item (there s) in
          drawing_alike (printing printer here own (printed_bytes item))
          (printing printer elsewhere own' (printed_bytes item)) (coordinates_of item)
          (printing_alike own own' (printed_bytes item) (own_alike item s))

      item_alike : (item : Entry) (s : State) → Alike (item_run printer here item s) (item_run printer elsewhere item (there s))
      item_alike item s = by (is_of_raster item)
        where
          by : (b : Bool) →
              Alike (begun_run printer here item (cond b s (record s { raster = None })))
              (begun_run printer elsewhere item (cond b (there s) (record (there s) { raster = None })))
          by true = begun_alike item s
          by false = begun_alike item (record s { raster = None })

  -- ---- controls

  put_back-alike : (settings : Settings) (e : Ending) →
      ending_with (settings_with panel settings) (ending_with_panel panel e) ≡ ending_with_panel panel (ending_with settings e)
  put_back-alike settings (Done t) = refl
  put_back-alike settings (Halts finding) = refl

  -- the settings that a call puts back
  put_back_alike : (settings : Settings) (r r' : Run) → Alike r r' →
      Alike (put_back settings r) (put_back (settings_with panel settings) r')
  put_back_alike settings r r' p =
      ap (put_back (settings_with panel settings)) p ∙ ap (λ e. record r { ending = e }) (put_back-alike settings r.ending)

  -- a body that a control or an overlay finds
  found_alike : (body : Option (List Entry)) (s : State) (run run' : List Entry → Run) →
      ((items : List Entry) → Alike (run items) (run' items)) → Alike (found_run body s run) (found_run body (there s) run')
  found_alike None s run run' p = refl
  found_alike (Some items) s run run' p = p items

  module _ (macros : Store) (inner inner' : Nesting → List Entry → State → Run)
      (p : (nesting : Nesting) (items : List Entry) (s : State) → Alike (inner nesting items s) (inner' nesting items (there s)))
      (nesting : Nesting) where
    -- what a control does after its own step
    control_body_alike : (control : Option Control) (s : State) →
        Alike (control_body macros inner nesting control s) (control_body macros inner' nesting control (there s))
    control_body_alike (Some Execute) s =
        found_alike (body_of macros s.settings.job.macro_id) s (λ body. inner (executed_in nesting) body s)
        (λ body. inner' (executed_in nesting) body (there s))
        (λ body. p (executed_in nesting) body s)
    control_body_alike (Some Call) s =
        found_alike (body_of macros s.settings.job.macro_id) s (λ body. put_back s.settings (inner (called_in nesting) body s))
        (λ body. put_back (settings_with panel s.settings) (inner' (called_in nesting) body (there s)))
        (λ body. put_back_alike s.settings (inner (called_in nesting) body s) (inner' (called_in nesting) body (there s))
        (p (called_in nesting) body s))
    control_body_alike _ s = refl

    control_alike : (n : Amount) (s : State) → Alike (control_run macros inner nesting n s) (control_run macros inner' nesting n (there s))
    control_alike n s =
        let known : Bool = is_some (body_of macros s.settings.job.macro_id) in
        let t : State = controlled (control_of n) s in
        let next : State → Run = control_body macros inner nesting (control_of n) in
        let next' : State → Run = control_body macros inner' nesting (control_of n) in
        finding_alike (first_finding (control_checks known (is_macro nesting) (control_of n))) (followed_by (goes t []) next)
        (followed_by (goes (there t) []) next')
        (followed_alike (goes t []) (goes (there t) []) next next' refl (control_body_alike (control_of n)))

  -- ---- bodies, and the closing of a page

  -- items one after another
  entries_alike : (run run' : Entry → State → Run) → ((item : Entry) (s : State) → Alike (run item s) (run' item (there s))) →
      (items : List Entry) (s : State) → Alike (entries_run run items s) (entries_run run' items (there s))
  entries_alike run run' p [] s = refl
  entries_alike run run' p (item ∷ items) s =
      followed_alike (run item s) (run' item (there s)) (entries_run run items) (entries_run run' items) (p item s)
      (entries_alike run run' p items)

  give_up-alike : (s : State) (e : Ending) → ending_at (there s) (ending_with_panel panel e) ≡ ending_with_panel panel (ending_at s e)
  give_up-alike s (Done t) = refl
  give_up-alike s (Halts finding) = refl

  -- what an overlay did is given up
  give_up_alike : (s : State) (r r' : Run) → Alike r r' → Alike (give_up s r) (give_up (there s) r')
  give_up_alike s r r' p = ap (give_up (there s)) p ∙ ap (λ e. record r { ending = e }) (give_up-alike s r.ending)

  -- ---- the end of a page

  some_none : {A : Type 0} {x : A} → Some x ≡ None → ⊥
  some_none e = cc

  -- behind fields that are unset alike
  set_alike : (o o' : Option Field) (r r' : Run) → o' ≡ o → (o ≡ None → Alike r r') → Alike (unset_or o r) (unset_or o' r')
  set_alike o o' r r' same h = ap (λ u. unset_or u r') same ∙ by o h
    where
      by : (o : Option Field) → (o ≡ None → Alike r r') → Alike (unset_or o r) (unset_or o r')
      by (Some field) h = refl
      by None h = h refl

  -- a page ends with the same five values where all of them are set
  ended_alike : (s : State) → first_unset s.settings closing_reads ≡ None → Alike (ended s) (ended (there s))
  ended_alike s set =
      by s.settings.unset.size s.settings.unset.orientation s.settings.unset.copies s.settings.unset.sides s.settings.unset.tray set
    where
      at : (size orientation copies sides tray : Bool) → State
      at size orientation copies sides tray = record s {
        settings = record s.settings {
          unset = record s.settings.unset { size = size; orientation = orientation; copies = copies; sides = sides; tray = tray };
        };
      }

      by : (size orientation copies sides tray : Bool) → first_unset (at size orientation copies sides tray).settings closing_reads ≡ None →
          Alike (ended (at size orientation copies sides tray)) (ended (there (at size orientation copies sides tray)))
      by true orientation copies sides tray set = absurd (some_none set)
      by false true copies sides tray set = absurd (some_none set)
      by false false true sides tray set = absurd (some_none set)
      by false false false true tray set = absurd (some_none set)
      by false false false false true set = absurd (some_none set)
      by false false false false false set = refl

  -- a run that comes to its end ends in this state, but for what macros carried out
  abbrev EndsAt : State → Ending → Type 0
  EndsAt s (Done t) = t ≡ record s { items_left = t.items_left }
  EndsAt s (Halts finding) = Unit {0}

  found_at : (s : State) (body : Option (List Entry)) (run : List Entry → Run) →
      EndsAt s (found_run body s (λ items. give_up s (run items))).ending
  found_at s None run = refl
  found_at s (Some items) run = by (run items).ending
    where
      by : (e : Ending) → EndsAt s (ending_at s e)
      by (Done t) = refl
      by (Halts finding) = tt

  ended_onward : (s : State) (events : List Event) (peaks : Peaks) (e : Ending) → first_unset s.settings closing_reads ≡ None → EndsAt s e →
      onward events peaks (ending_with_panel panel e) ended ≡ moved (onward events peaks e ended)
  ended_onward s events peaks (Done t) set at =
      ap (after events peaks)
      (subst (λ u. Alike (ended u) (ended (there u))) (sym at) (ended_alike (record s { items_left = t.items_left }) set))
  ended_onward s events peaks (Halts finding) set at = refl

  ended_behind : (s : State) (r r' : Run) → first_unset s.settings closing_reads ≡ None → Alike r r' → EndsAt s r.ending →
      Alike (followed_by r ended) (followed_by r' ended)
  ended_behind s r r' set p at = ap (λ x. followed_by x ended) p ∙ ended_onward s r.events r.peaks r.ending set at

  -- ---- runs of a job

  abbrev JobAlike : JobRun → JobRun → Type 0
  JobAlike r r' = r' ≡ run_with_panel panel r

  ended_item_alike : (place : ℕ) (events : List Event) (peaks : Peaks) (e : Ending) (next next' : State → JobRun) →
      ((s : State) → JobAlike (next s) (next' (there s))) →
      JobAlike (ended_item place events peaks e next) (ended_item place events peaks (ending_with_panel panel e) next')
  ended_item_alike place events peaks (Done s) next next' p = ap (begun_with (one_item place events None) peaks) (p s)
  ended_item_alike place events peaks (Halts finding) next next' p = refl

  after_item_alike : (place : ℕ) (r r' : Run) (next next' : State → JobRun) → Alike r r' →
      ((s : State) → JobAlike (next s) (next' (there s))) → JobAlike (after_item place r next) (after_item place r' next')
  after_item_alike place r r' next next' p q =
      ap (λ x. after_item place x next') p ∙ ended_item_alike place r.events r.peaks r.ending next next' q

  module _ (printer : Printer) (defaults : Settings) (items : (item : Entry) → IsAlikeItem printer panel defaults item)
      (bytes : (code : ℕ) → IsAlikeByte printer panel code) (moves : (to : ℤ × ℤ) → IsAlikeMove printer panel to) where
    module _ (macros : Store) where
      abbrev ours : MacroContext
      ours = with_macros printer defaults macros

      abbrev theirs : MacroContext
      theirs = with_macros printer (settings_with panel defaults) macros

      -- an item where bodies run alike one level deeper
      nested_alike : (close close' : State → Run) (inner inner' : Nesting → List Entry → State → Run) →
          ((s : State) → Alike (close s) (close' (there s))) →
          ((nesting : Nesting) (items : List Entry) (s : State) → Alike (inner nesting items s) (inner' nesting items (there s))) →
          (nesting : Nesting) (item : Entry) (s : State) →
          Alike (item_run printer (conditions_in ours close nesting inner) item s)
          (item_run printer (conditions_in theirs close' nesting inner') item (there s))
      nested_alike close close' inner inner' closes p nesting item s =
          item_alike printer defaults (fixes_paper nesting) close close' (control_run macros inner nesting)
          (control_run macros inner' nesting) closes (control_alike macros inner inner' p nesting) items bytes moves item s

      -- an item of a macro begins alike
      spend_alike : (here' there' : Conditions) (s : State) →
          Alike (transition_run here' s (Step (spend_item s))) (transition_run there' (there s) (Step (spend_item (there s))))
      spend_alike here' there' s = by s.items_left
        where
          by : (left : Option ℕ) →
              Alike (transition_run here' (record s { items_left = left }) (Step (spend_item (record s { items_left = left }))))
              (transition_run there' (there (record s { items_left = left })) (Step (spend_item (there (record s { items_left = left })))))
          by None = refl
          by (Some zero) = refl
          by (Some (suc n)) = refl

      macro_alike : (close close' : State → Run) (inner inner' : Nesting → List Entry → State → Run) →
          ((s : State) → Alike (close s) (close' (there s))) →
          ((nesting : Nesting) (items : List Entry) (s : State) → Alike (inner nesting items s) (inner' nesting items (there s))) →
          (nesting : Nesting) (item : Entry) (s : State) →
          Alike (macro_item_run printer (conditions_in ours close nesting inner) item s)
          (macro_item_run printer (conditions_in theirs close' nesting inner') item (there s))
      macro_alike close close' inner inner' closes p nesting item s =
          let here' : Conditions = conditions_in ours close nesting inner in
          let there' : Conditions = conditions_in theirs close' nesting inner' in
          followed_alike (transition_run here' s (Step (spend_item s))) (transition_run there' (there s) (Step (spend_item (there s))))
          (item_run printer here' item) (item_run printer there' item)
          (spend_alike here' there' s) (nested_alike close close' inner inner' closes p nesting item)

      body_alike : (close close' : State → Run) → ((s : State) → Alike (close s) (close' (there s))) → (left level : ℕ) (nesting : Nesting)
          (entries : List Entry) (s : State) →
          Alike (body_run ours close left level nesting entries s) (body_run theirs close' left level nesting entries (there s))
      body_alike close close' closes zero level nesting entries s = refl
      body_alike close close' closes (suc left) level nesting entries s =
          let inner : Nesting → List Entry → State → Run = body_run ours close left (suc level) in
          let inner' : Nesting → List Entry → State → Run = body_run theirs close' left (suc level) in
          let run : Entry → State → Run = macro_item_run printer (conditions_in ours close nesting inner) in
          let run' : Entry → State → Run = macro_item_run printer (conditions_in theirs close' nesting inner') in
          after_alike [] (at_level level) (followed_by (entries_run run entries s) raster_ended)
          (followed_by (entries_run run' entries (there s)) raster_ended)
          (followed_alike (entries_run run entries s) (entries_run run' entries (there s)) raster_ended raster_ended
          (entries_alike run run'
          (macro_alike close close' inner inner' closes (body_alike close close' closes left (suc level)) nesting) entries s)
          (λ t. refl))

      -- a page and its overlay
      overlay_alike : (s : State) (overlay : Option ℕ) → Alike (overlay_run ours s overlay) (overlay_run theirs (there s) overlay)
      overlay_alike s None = refl
      overlay_alike s (Some id) =
          let begun : State = overlay_state defaults s in
          let run : List Entry → Run = λ body. body_run ours refused printer.depth 1 Overlaid body begun in
          let run' : List Entry → Run = λ body. body_run theirs refused printer.depth 1 Overlaid body (there begun) in
          found_alike (body_of macros id) s (λ body. give_up s (run body)) (λ body. give_up (there s) (run' body))
          (λ body. give_up_alike s (run body) (run' body) (body_alike refused refused (λ t. refl) printer.depth 1 Overlaid body begun))

      page_alike : (s : State) → Alike (page_close ours s) (page_close theirs (there s))
      page_alike s =
          let over : Run = overlay_run ours s s.settings.job.overlay in
          let over' : Run = overlay_run theirs (there s) s.settings.job.overlay in
          finding_alike (first_finding (check (is_too_deep printer s) MacroDepth ∷ []))
          (unset_or (first_unset s.settings closing_reads) (followed_by over ended))
          (unset_or (first_unset (settings_with panel s.settings) closing_reads) (followed_by over' ended))
          (set_alike (first_unset s.settings closing_reads) (first_unset (settings_with panel s.settings) closing_reads)
          (followed_by over ended) (followed_by over' ended) (same_first_unset s.settings closing_reads)
          (λ set. ended_behind s over over' set (overlay_alike s s.settings.job.overlay) (overlay_at s s.settings.job.overlay)))
        where
          overlay_at : (s : State) (overlay : Option ℕ) → EndsAt s (overlay_run ours s overlay).ending
          overlay_at s None = refl
          overlay_at s (Some id) =
              found_at s (body_of macros id) (λ body. body_run ours refused printer.depth 1 Overlaid body (overlay_state defaults s))

      -- ---- items of a job

      -- what a control of the job runs
      abbrev inside : Nesting → List Entry → State → Run
      inside = body_run ours (page_close ours) printer.depth 1

      abbrev inside' : Nesting → List Entry → State → Run
      inside' = body_run theirs (page_close theirs) printer.depth 1

      inside_alike : (nesting : Nesting) (entries : List Entry) (s : State) →
          Alike (inside nesting entries s) (inside' nesting entries (there s))
      inside_alike = body_alike (page_close ours) (page_close theirs) page_alike printer.depth 1

      carried_alike : (item : Entry) (s : State) →
          Alike (item_run printer (in_job ours) item s) (item_run printer (in_job theirs) item (there s))
      carried_alike = nested_alike (page_close ours) (page_close theirs) inside inside' page_alike inside_alike Job

      reset_alike : (s : State) → Alike (reset_run (in_job ours) s) (reset_run (in_job theirs) (there s))
      reset_alike s =
          own_alike printer defaults false (page_close ours) (page_close theirs) (control_run macros inside Job)
          (control_run macros inside' Job) page_alike (control_alike macros inside inside' inside_alike Job) items bytes moves Reset s

      defining_alike : (item : Entry) (d : Defining) (s : State) →
          Alike (defining_run macros item d s) (defining_run macros item d (there s))
      defining_alike item Refused s = refl
      defining_alike item Completed s = refl
      defining_alike item Stored s =
          let peaks : Peaks = of_memory (stored_bytes (appended item macros)) in
          finding_alike (first_finding (check (nat_lt macros.limit (stored_bytes macros + length (canon item))) MacroMemory ∷ []))
          (after [] peaks (just [] (Done s))) (after [] peaks (just [] (Done (there s)))) refl

      job_item_alike : (item : Entry) (s : State) → Alike (job_item_run ours item s) (job_item_run theirs item (there s))
      job_item_alike item s =
          cond_alike (is_defining macros) (defining_run macros item (defining_of item) s)
          (defining_run macros item (defining_of item) (there s)) (item_run printer (in_job ours) item s)
          (item_run printer (in_job theirs) item (there s))
          (defining_alike item (defining_of item) s) (carried_alike item s)

      job_end_alike : (s : State) → Alike (job_end_run ours s) (job_end_run theirs (there s))
      job_end_alike s =
          cond_alike (is_defining macros) (just [] (Halts DefinitionOpen)) (just [] (Halts DefinitionOpen)) (reset_run (in_job ours) s)
          (reset_run (in_job theirs) (there s)) refl (reset_alike s)

    -- ---- jobs

    items_alike : (finally finally' : Store → State → JobRun) →
        ((macros : Store) (s : State) → JobAlike (finally macros s) (finally' macros (there s))) → (placed : List Placed) (macros : Store)
        (s : State) →
        JobAlike (items_run printer defaults finally placed macros s)
        (items_run printer (settings_with panel defaults) finally' placed macros (there s))
    items_alike finally finally' p [] macros s = p macros s
    items_alike finally finally' p (x ∷ placed) macros s =
        let next : Store = macros_after s.settings.job.macro_id x.item macros in
        after_item_alike x.place (job_item_run (ours macros) x.item s) (job_item_run (theirs macros) x.item (there s))
        (items_run printer defaults finally placed next) (items_run printer (settings_with panel defaults) finally' placed next)
        (job_item_alike macros x.item s) (items_alike finally finally' p placed next)

    end_alike : (place : ℕ) (macros : Store) (s : State) →
        JobAlike (end_run printer defaults place macros s) (end_run printer (settings_with panel defaults) place macros (there s))
    end_alike place macros s =
        after_item_alike place (job_end_run (ours macros) s) (job_end_run (theirs macros) (there s)) at_end at_end
        (job_end_alike macros s) (λ t. refl)

    reading_alike : (reading : Reading) (macros : Store) (s : State) →
        JobAlike (reading_run printer defaults reading macros s)
        (reading_run printer (settings_with panel defaults) reading macros (there s))
    reading_alike (Whole placed place) macros s =
        items_alike (end_run printer defaults place) (end_run printer (settings_with panel defaults) place)
        (end_alike place) placed macros s
    reading_alike (Stopped placed place cause) macros s = items_alike no_end no_end (λ m t. refl) placed macros s

-- a run is the same from each panel that differs in watched fields alone
pub runs_alike : ((printer : Printer) (panel : Panel) (defaults : Settings) (item : Entry) → IsAlikeItem printer panel defaults item) →
    ((printer : Printer) (panel : Panel) (code : ℕ) → IsAlikeByte printer panel code) →
    ((printer : Printer) (panel : Panel) (to : ℤ × ℤ) → IsAlikeMove printer panel to) → (printer : Printer) (flags : Flags)
    (panel other : Panel) (reading : Reading) → RunsAlike printer flags panel other reading
runs_alike items bytes moves printer flags panel other reading =
    let defaults : Settings = user_defaults flags panel in
    reading_alike other printer defaults (items printer other defaults) (bytes printer other) (moves printer other) reading
    (no_macros printer.memory) (start_state printer.most_items defaults)

-- ---- allowed panels

-- where a field has no choice, two panels that may be have the same value in it
one_value : (values : List ℕ) (a b : ℕ) → has_choice values ≡ false → Contains values a → Contains values b → a ≡ b
one_value [] a b one has has' = absurd (omega (arith, has.1))
one_value (x ∷ []) a b one has has' = sym (only x a has) ∙ only x b has'
  where
    only : (x a : ℕ) → Contains (x ∷ []) a → x ≡ a
    only x a (zero, h, e) = e
    only x a (suc k, h, e) = absurd (omega (arith, h))
one_value (x ∷ y ∷ values) a b one has has' =
    let more : nat_lt 1 (length (x ∷ y ∷ values)) ≡ true = lt-ltb 1 (length (x ∷ y ∷ values)) (omega arith) in
    let e : true ≡ false = sym more ∙ one in absurd cc

-- a field of the second panel, where the first one has its value if there is no choice
chosen_value : (values : List ℕ) (a b : ℕ) → Contains values a → Contains values b → cond (has_choice values) b a ≡ b
chosen_value values a b has has' = by (has_choice values) refl
  where
    by : (choice : Bool) → has_choice values ≡ choice → cond choice b a ≡ b
    by true is = refl
    by false is = one_value values a b is has has'

fields_chosen : (printer : Printer) (panel other : Panel) → IsAllowed printer panel → IsAllowed printer other →
    fields_with other (watched printer) panel ≡ other
fields_chosen printer panel other from to =
    let p0 : Panel = fields_with other (watched printer) panel in
    let p1 : Panel = record p0 { size = other.size } in
    let p2 : Panel = record p1 { orientation = other.orientation } in
    let p3 : Panel = record p2 { vmi = other.vmi } in
    let p4 : Panel = record p3 { font = other.font } in
    let p5 : Panel = record p4 { copies = other.copies } in
    let p6 : Panel = record p5 { sides = other.sides } in
    let p7 : Panel = record p6 { tray = other.tray } in
    ap (λ x. record p0 { size = x }) (chosen_value printer.sizes panel.size other.size from.size to.size)
    ∙ ap (λ x. record p1 { orientation = x })
    (chosen_value printer.orientations panel.orientation other.orientation from.orientation to.orientation)
    ∙ ap (λ x. record p2 { vmi = x }) (chosen_value printer.vmis panel.vmi other.vmi from.vmi to.vmi)
    ∙ ap (λ x. record p3 { font = x }) (chosen_value printer.fonts panel.font other.font from.font to.font)
    ∙ ap (λ x. record p4 { copies = x }) (chosen_value printer.copies panel.copies other.copies from.copies to.copies)
    ∙ ap (λ x. record p5 { sides = x }) (chosen_value printer.sides panel.sides other.sides from.sides to.sides)
    ∙ ap (λ x. record p6 { tray = x }) (chosen_value printer.panel_trays panel.tray other.tray from.tray to.tray)
    ∙ ap (λ x. record p7 { line_termination = x })
    (chosen_value printer.line_terminations panel.line_termination other.line_termination from.line_termination to.line_termination)

-- so the watched run is the same from every panel that may be
pub watched_alike : ((printer : Printer) (flags : Flags) (panel other : Panel) (reading : Reading) →
    RunsAlike printer flags panel other reading) →
    (printer : Printer) (reading : Reading) → IsWatchedAlike printer reading
watched_alike alike printer reading panel other from to =
    ap (λ p. run_from printer (watched printer) p reading) (sym (fields_chosen printer panel other from to))
    ∙ alike printer (watched printer) panel other reading
