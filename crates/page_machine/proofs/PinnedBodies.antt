-- Bodies of macros go alike, item by item pinned, where the job has set all that the panel chooses.
use Rattle.std.proofs.Common.{◌≡◌, ℕ, ℤ, zero, suc, ◌==◌, ◌&&◌, Bool, true, false, cond, is_some, nat_le, List, [], ◌∷◌, refl, ap, sym, ◌∙◌}
use Rattle.std.proofs.Common.{subst, Option, Some, None}
use Rattle.std.specs.Option.{option_map}
use Rattle.std.specs.List.{AllByRecursion}
use Rattle.pcl_items.specs.Items.{Entry, Parameterized}
use Rattle.pcl_items.specs.declared.pcl.command.Command.TheVariants.{Orientation}
use Rattle.pcl_items.specs.Escapes.Value.{Amount}
use Rattle.device_profile.specs.Printer.{Printer}
use Rattle.macro_store.specs.Store.{Store, body_of}
use Rattle.page_env.specs.declared.finding.Finding.TheVariants.{MacroDepth}
use Rattle.page_env.specs.declared.macros.Control.{Control}
use Rattle.page_env.specs.declared.macros.Control.TheVariants.{Execute, Call, EnableOverlay}
use Rattle.page_env.specs.Effect.{check, first_finding, first_unset}
use Rattle.page_env.specs.Macros.{control_of, control_checks, control_line, controlled}
use Rattle.page_env.specs.Sound.{IsSoundItem, IsSoundControl, IsSoundByte, IsSoundMove}
use Rattle.page_env.specs.Settings.{Settings, State}
use Rattle.page_env.specs.Pinned.{is_orientation, pinned, returns_to_panel, IsPinnedItem, IsPinnedControl, IsPinnedByte, IsPinnedMove}
use Rattle.page_env.specs.Pinned.{AreBare, IsBare, IsBareItem, IsBareControl, IsBareByte, IsBareMove}
use Rattle.page_machine.specs.declared.nesting.Nesting.{Nesting}
use Rattle.page_machine.specs.Event.{Event}
use Rattle.page_machine.specs.Run.{Peaks, Run, just, onward, followed_by, finding_or, unset_or, goes, Ending, Done, Halts, item_run}
use Rattle.page_machine.specs.Run.{entries_run}
use Rattle.page_machine.specs.Macros.{MacroContext, is_macro, fixes_paper, executed_in, called_in, ending_with, put_back, found_run}
use Rattle.page_machine.specs.Macros.{control_body, control_run, conditions_in, raster_ended, at_level, macro_item_run, body_run}
use Rattle.page_machine.specs.Macros.{closing_reads, ended, overlay_run, is_too_deep, page_close}
use Rattle.page_machine.specs.Job.{with_macros}
use Rattle.page_machine.specs.Laws.{IsSet}
use Rattle.page_machine.specs.Pinning.{spacing}
use Rattle.page_machine.proofs.PinnedRuns.{pinned_ending, EndsBare, Alike, followed-assoc, line_is_set, followed_alike, after_alike}
use Rattle.page_machine.proofs.PinnedRuns.{done_alike, halts_alike, finding_alike, reads_alike, item_alike, macro_item_alike}
use Rattle.page_machine.proofs.PinnedRuns.{orientation_alike, macro_orientation_alike}

-- ---- bodies of items

-- items, with the spacing behind each orientation
abbrev pub pin_body : ℕ → List Entry → List Entry
pin_body v [] = []
pin_body v (item ∷ items) = item ∷ cond (is_orientation item) (spacing v ∷ pin_body v items) (pin_body v items)

-- an item that can be pinned: an orientation, or one that returns to nothing of the panel's
abbrev pub CanBePinned : Entry → Type 0
CanBePinned item = is_orientation item ≡ false → returns_to_panel item ≡ false

abbrev pub AreAllPinned : List Entry → Type 0
AreAllPinned items = AllByRecursion CanBePinned items

-- ---- runs one after another

module _ (printer : Printer) (from : Settings) where
  put_back_alike : (s : State) (r r' : Run) → IsBare s → Alike printer from r r' →
      Alike printer from (put_back s.settings r) (put_back (pinned printer from s).settings r')
  put_back_alike s r r' o p =
      record {
        events = p.events;
        ending = ap (ending_with (pinned printer from s).settings) p.ending ∙ back r.ending;
        bare = bare r.ending p.bare;
        set = set r.ending p.set;
      }
    where
      back : (e : Ending) →
          ending_with (pinned printer from s).settings (pinned_ending printer from e)
          ≡ pinned_ending printer from (ending_with s.settings e)
      back (Done t) = refl
      back (Halts finding) = refl

      bare : (e : Ending) → EndsBare e → EndsBare (ending_with s.settings e)
      bare (Done t) k = (o.0, o.1, k.2)
      bare (Halts finding) k = tt

      set : (e : Ending) → IsSet e → IsSet (ending_with s.settings e)
      set (Done t) h = tt
      set (Halts finding) h = h

  -- a body that a control finds, in the store and in that of the pinned job
  found_alike : (v : ℕ) (found : Option (List Entry)) (s : State) (run run' : List Entry → Run) → IsBare s →
      ((body : List Entry) → found ≡ Some body → Alike printer from (run body) (run' (pin_body v body))) →
      Alike printer from (found_run found s run) (found_run (option_map (pin_body v) found) (pinned printer from s) run')
  found_alike v None s run run' o p = done_alike printer from s o
  found_alike v (Some body) s run run' o p = p body refl

  module _ (v : ℕ) (macros macros' : Store) (bodies : (id : ℕ) → body_of macros' id ≡ option_map (pin_body v) (body_of macros id))
      (all : (id : ℕ) (body : List Entry) → body_of macros id ≡ Some body → AreAllPinned body) (sound : IsSoundControl printer)
      (own : IsPinnedControl printer from) (own_bare : IsBareControl) (inner inner' : Nesting → List Entry → State → Run)
      (p : (nesting : Nesting) (items : List Entry) (s : State) → AreAllPinned items → IsBare s →
      Alike printer from (inner nesting items s) (inner' nesting (pin_body v items) (pinned printer from s)))
      (nesting : Nesting) where
    control_body_alike : (control : Option Control) (s : State) → IsBare s →
        Alike printer from (control_body macros inner nesting control s)
        (control_body macros' inner' nesting control (pinned printer from s))
    control_body_alike (Some Execute) s o =
        let id : ℕ = s.settings.job.macro_id in
        subst
        (λ (found : Option (List Entry)). Alike printer from (found_run (body_of macros id) s (λ body. inner (executed_in nesting) body s))
        (found_run found (pinned printer from s) (λ body. inner' (executed_in nesting) body (pinned printer from s))))
        (sym (bodies id))
        (found_alike v (body_of macros id) s (λ body. inner (executed_in nesting) body s)
        (λ body. inner' (executed_in nesting) body (pinned printer from s)) o
        (λ body e. p (executed_in nesting) body s (all id body e) o))
    control_body_alike (Some Call) s o =
        let id : ℕ = s.settings.job.macro_id in
        let run : List Entry → Run = λ body. put_back s.settings (inner (called_in nesting) body s) in
        let run' : List Entry → Run =
        λ body. put_back (pinned printer from s).settings (inner' (called_in nesting) body (pinned printer from s)) in
        subst
        (λ (found : Option (List Entry)).
        Alike printer from (found_run (body_of macros id) s run) (found_run found (pinned printer from s) run'))
        (sym (bodies id))
        (found_alike v (body_of macros id) s run run' o
        (λ body e. put_back_alike s (inner (called_in nesting) body s)
        (inner' (called_in nesting) (pin_body v body) (pinned printer from s)) o (p (called_in nesting) body s (all id body e) o)))
    control_body_alike _ s o = done_alike printer from s o

    known_alike : (found : Option (List Entry)) → is_some (option_map (pin_body v) found) ≡ is_some found
    known_alike None = refl
    known_alike (Some body) = refl

    pub control_alike : (n : Amount) (s : State) → (control_of n ≡ Some EnableOverlay → ⊥) → IsBare s →
        Alike printer from (control_run macros inner nesting n s) (control_run macros' inner' nesting n (pinned printer from s))
    control_alike n s other o =
        let id : ℕ = s.settings.job.macro_id in
        let control : Option Control = control_of n in
        let known : Bool = is_some (body_of macros id) in
        let t : State = controlled control s in
        let moved = own s known (is_macro nesting) control in
        let bare : IsBare t = own_bare s known (is_macro nesting) control other o in
        let rest : Run = followed_by (goes t []) (control_body macros inner nesting control) in
        let checks : Bool → Option _ = λ b. first_finding (control_checks b (is_macro nesting) control) in
        subst
        (λ (b : Bool). Alike printer from (finding_or (checks known) rest)
        (finding_or (checks b)
        (followed_by (goes (controlled control (pinned printer from s)) []) (control_body macros' inner' nesting control))))
        (sym (ap is_some (bodies id) ∙ known_alike (body_of macros id)))
        (subst
        (λ (u : State). Alike printer from (finding_or (checks known) rest)
        (finding_or (checks known) (followed_by (goes u []) (control_body macros' inner' nesting control))))
        (sym (ap (λ l. l.state) moved.0))
        (finding_alike printer from (checks known) rest
        (followed_by (goes (pinned printer from t) []) (control_body macros' inner' nesting control))
        (line_is_set (control_line known (is_macro nesting) control s) ((sound s known (is_macro nesting) control).ordered)).0
        (followed_alike printer from (goes t []) (goes (pinned printer from t) []) (control_body macros inner nesting control)
        (control_body macros' inner' nesting control)
        (record { events = refl; ending = refl; bare = bare; set = tt }) (control_body_alike control))))

  -- ---- items one after another

  module _ (v : ℕ) (run run' : Entry → State → Run)
      (plain : (item : Entry) (s : State) → returns_to_panel item ≡ false → IsBare s →
      Alike printer from (run item s) (run' item (pinned printer from s)))
      (turn : (n : Amount) (s : State) → IsBare s →
      Alike printer from (run (Parameterized Orientation n) s)
      (followed_by (run' (Parameterized Orientation n) (pinned printer from s)) (run' (spacing v)))) where
    turned_alike : (item : Entry) (s : State) → is_orientation item ≡ true → IsBare s →
        Alike printer from (run item s) (followed_by (run' item (pinned printer from s)) (run' (spacing v)))
    turned_alike (Parameterized Orientation n) s e o = turn n s o
    turned_alike _ s e o = absurd cc

    pub entries_alike : (items : List Entry) (s : State) → AreAllPinned items → IsBare s →
        Alike printer from (entries_run run items s) (entries_run run' (pin_body v items) (pinned printer from s))
    entries_alike [] s all o = done_alike printer from s o
    entries_alike (item ∷ items) s all o = by (is_orientation item) refl (λ t k. entries_alike items t all.1 k)
      where
        rest : State → Run
        rest = entries_run run' (pin_body v items)

        by : (b : Bool) → is_orientation item ≡ b →
            ((t : State) → IsBare t → Alike printer from (entries_run run items t) (rest (pinned printer from t))) →
            Alike printer from (followed_by (run item s) (entries_run run items))
            (followed_by (run' item (pinned printer from s)) (entries_run run' (cond b (spacing v ∷ pin_body v items) (pin_body v items))))
        by false e more =
            followed_alike printer from (run item s) (run' item (pinned printer from s)) (entries_run run items) rest
            (plain item s (all.0 e) o) more
        by true e more =
            let first : Run = run' item (pinned printer from s) in
            subst (λ (r : Run). Alike printer from (followed_by (run item s) (entries_run run items)) r)
            (followed-assoc first.events first.peaks first.ending (run' (spacing v)) rest)
            (followed_alike printer from (run item s) (followed_by first (run' (spacing v))) (entries_run run items) rest
            (turned_alike item s e o) more)

-- ---- bodies and the closing of a page, in a context

-- what is known of each item
pub record AreLaws (printer : Printer) (defaults from : Settings) : Type 0 where
  pub sound_items : (item : Entry) → IsSoundItem printer defaults item
  pub sound_controls : IsSoundControl printer
  pub sound_bytes : (code : ℕ) → IsSoundByte printer code
  pub sound_moves : (to : ℤ × ℤ) → IsSoundMove printer to
  pub items : (item : Entry) → IsPinnedItem printer defaults from item
  pub controls : IsPinnedControl printer from
  pub bytes : (code : ℕ) → IsPinnedByte printer from code
  pub moves : (to : ℤ × ℤ) → IsPinnedMove printer from to
  pub bare_items : (item : Entry) → IsBareItem printer item
  pub bare_controls : IsBareControl
  pub bare_bytes : (code : ℕ) → IsBareByte printer code
  pub bare_moves : (to : ℤ × ℤ) → IsBareMove printer to

-- the user defaults of a job, and those that its pinned job may have, whose spacings have this VMI
pub record ArePinnedDefaults (v : ℕ) (defaults from : Settings) : Type 0 where
  pub bare : AreBare defaults
  pub vmi : v ≡ defaults.fields.vmi
  pub few : nat_le v 3_350_000 ≡ true
  pub hmi : from.job.hmi ≡ defaults.job.hmi

-- the bodies of the one are those of the other, pinned, and can be
pub record ArePinnedMacros (v : ℕ) (macros macros' : Store) : Type 0 where
  pub bodies : (id : ℕ) → body_of macros' id ≡ option_map (pin_body v) (body_of macros id)
  pub all : (id : ℕ) (body : List Entry) → body_of macros id ≡ Some body → AreAllPinned body

module _ (printer : Printer) (defaults from : Settings) (laws : AreLaws printer defaults from) (v : ℕ)
    (d : ArePinnedDefaults v defaults from) (macros macros' : Store) (m : ArePinnedMacros v macros macros') where
  abbrev here : MacroContext
  here = with_macros printer defaults macros

  abbrev there : MacroContext
  there = with_macros printer from macros'

  -- the closing of a page with this overlay
  abbrev closing : MacroContext → State → Option ℕ → Run
  closing context s overlay =
      finding_or (first_finding (check (is_some overlay && (printer.depth == 0)) MacroDepth ∷ []))
      (unset_or (first_unset s.settings closing_reads) (followed_by (overlay_run context s overlay) ended))

  closing_none : (s : State) → IsBare s → Alike printer from (closing here s None) (closing there (pinned printer from s) None)
  closing_none s o =
      reads_alike printer from s closing_reads closing_reads (followed_by (just [] (Done s)) ended)
      (followed_by (just [] (Done (pinned printer from s))) ended) o refl
      (followed_alike printer from (just [] (Done s)) (just [] (Done (pinned printer from s))) ended ended (done_alike printer from s o)
      (λ t k. record { events = refl; ending = refl; bare = k; set = tt }))

  pub page_alike : (s : State) → IsBare s → Alike printer from (page_close here s) (page_close there (pinned printer from s))
  page_alike s o =
      subst (λ (overlay : Option ℕ). Alike printer from (closing here s overlay) (closing there (pinned printer from s) overlay))
      (sym o.0) (closing_none s o)

  ended_unrastered : (events : List Event) (peaks : Peaks) (e : Ending) (t : State) → (onward events peaks e ended).ending ≡ Done t →
      t.raster ≡ None
  ended_unrastered events peaks (Done u) t e =
      let same : record u { cursor = record u.cursor { y = None }; marked = false; raster = None } ≡ t = cc in
      sym (ap (λ (x : State). x.raster) same)
  ended_unrastered events peaks (Halts finding) t e = absurd cc

  finding_unrastered : (o : Option _) (r : Run) (t : State) → (r.ending ≡ Done t → t.raster ≡ None) → (finding_or o r).ending ≡ Done t →
      t.raster ≡ None
  finding_unrastered (Some finding) r t p e = absurd cc
  finding_unrastered None r t p e = p e

  unset_unrastered : (o : Option _) (r : Run) (t : State) → (r.ending ≡ Done t → t.raster ≡ None) → (unset_or o r).ending ≡ Done t →
      t.raster ≡ None
  unset_unrastered (Some field) r t p e = absurd cc
  unset_unrastered None r t p e = p e

  page_unrastered : (s t : State) → (page_close here s).ending ≡ Done t → t.raster ≡ None
  page_unrastered s t e =
      let over : Run = overlay_run here s s.settings.job.overlay in
      finding_unrastered (first_finding (check (is_too_deep printer s) MacroDepth ∷ []))
      (unset_or (first_unset s.settings closing_reads) (followed_by over ended)) t
      (unset_unrastered (first_unset s.settings closing_reads) (followed_by over ended) t
      (ended_unrastered over.events over.peaks over.ending t))
      e

  -- ---- items of a body

  module _ (inner inner' : Nesting → List Entry → State → Run)
      (p : (nesting : Nesting) (items : List Entry) (s : State) → AreAllPinned items → IsBare s →
      Alike printer from (inner nesting items s) (inner' nesting (pin_body v items) (pinned printer from s)))
      (nesting : Nesting) where
    controls_alike : (n : Amount) (s : State) → (control_of n ≡ Some EnableOverlay → ⊥) → IsBare s →
        Alike printer from (control_run macros inner nesting n s) (control_run macros' inner' nesting n (pinned printer from s))
    controls_alike =
        control_alike printer from v macros macros' m.bodies m.all laws.sound_controls laws.controls
        laws.bare_controls inner inner' p nesting

    pub nested_alike : (item : Entry) (s : State) → returns_to_panel item ≡ false → IsBare s →
        Alike printer from (item_run printer (conditions_in here (page_close here) nesting inner) item s)
        (item_run printer (conditions_in there (page_close there) nesting inner') item (pinned printer from s))
    nested_alike =
        item_alike printer from defaults d.bare (fixes_paper nesting) (page_close here) (page_close there)
        (control_run macros inner nesting) (control_run macros' inner' nesting) page_alike controls_alike
        laws.sound_items laws.sound_bytes laws.sound_moves laws.items laws.bare_items laws.bytes laws.bare_bytes laws.moves laws.bare_moves

    -- the same of an item of a body
    macro_alike : (item : Entry) (s : State) → returns_to_panel item ≡ false → IsBare s →
        Alike printer from (macro_item_run printer (conditions_in here (page_close here) nesting inner) item s)
        (macro_item_run printer (conditions_in there (page_close there) nesting inner') item (pinned printer from s))
    macro_alike =
        macro_item_alike printer from defaults d.bare (fixes_paper nesting) (page_close here) (page_close there)
        (control_run macros inner nesting) (control_run macros' inner' nesting) page_alike controls_alike
        laws.sound_items laws.sound_bytes laws.sound_moves laws.items laws.bare_items laws.bytes laws.bare_bytes laws.moves laws.bare_moves

    macro_turn : (n : Amount) (s : State) → IsBare s →
        Alike printer from (macro_item_run printer (conditions_in here (page_close here) nesting inner) (Parameterized Orientation n) s)
        (followed_by
        (macro_item_run printer (conditions_in there (page_close there) nesting inner')
        (Parameterized Orientation n) (pinned printer from s))
        (macro_item_run printer (conditions_in there (page_close there) nesting inner') (spacing v)))
    macro_turn =
        macro_orientation_alike printer from defaults d.bare (fixes_paper nesting) (page_close here) (page_close there)
        (control_run macros inner nesting) (control_run macros' inner' nesting) page_alike controls_alike
        v d.vmi d.few d.hmi (λ s t none e. page_unrastered s t e)

    pub nested_turn : (n : Amount) (s : State) → IsBare s →
        Alike printer from (item_run printer (conditions_in here (page_close here) nesting inner) (Parameterized Orientation n) s)
        (followed_by
        (item_run printer (conditions_in there (page_close there) nesting inner') (Parameterized Orientation n) (pinned printer from s))
        (item_run printer (conditions_in there (page_close there) nesting inner') (spacing v)))
    nested_turn =
        orientation_alike printer from defaults d.bare (fixes_paper nesting) (page_close here) (page_close there)
        (control_run macros inner nesting) (control_run macros' inner' nesting) page_alike controls_alike
        v d.vmi d.few d.hmi (λ s t none e. page_unrastered s t e)

  pub body_alike : (left level : ℕ) (nesting : Nesting) (items : List Entry) (s : State) → AreAllPinned items → IsBare s →
      Alike printer from (body_run here (page_close here) left level nesting items s)
      (body_run there (page_close there) left level nesting (pin_body v items) (pinned printer from s))
  body_alike zero level nesting items s all o = halts_alike printer from MacroDepth tt
  body_alike (suc left) level nesting items s all o =
      let inner : Nesting → List Entry → State → Run = body_run here (page_close here) left (suc level) in
      let inner' : Nesting → List Entry → State → Run = body_run there (page_close there) left (suc level) in
      let run : Entry → State → Run = macro_item_run printer (conditions_in here (page_close here) nesting inner) in
      let run' : Entry → State → Run = macro_item_run printer (conditions_in there (page_close there) nesting inner') in
      let deeper = body_alike left (suc level) in
      after_alike printer from (at_level level) (at_level level) (followed_by (entries_run run items s) raster_ended)
      (followed_by (entries_run run' (pin_body v items) (pinned printer from s)) raster_ended)
      (followed_alike printer from (entries_run run items s)
      (entries_run run' (pin_body v items) (pinned printer from s)) raster_ended raster_ended
      (entries_alike printer from v run run' (macro_alike inner inner' deeper nesting)
      (macro_turn inner inner' deeper nesting) items s all o)
      (λ t k. record { events = refl; ending = refl; bare = k; set = tt }))
