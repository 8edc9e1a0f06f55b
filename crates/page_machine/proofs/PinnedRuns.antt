-- Where the job has set all that the panel chooses, runs give the same events.
use Rattle.std.proofs.Common.{◌≡◌, ℕ, ℤ, Bool, true, false, cond, ◌&&◌, ◌||◌, List, [], ◌∷◌, ◌++◌, map, not, nat_le, append-nil, refl, ap}
use Rattle.std.proofs.Common.{sym, ◌∙◌, subst, Option, Some, None}
use Rattle.pcl_items.specs.Items.{Entry}
use Rattle.pcl_items.specs.Escapes.Value.{Amount}
use Rattle.device_profile.specs.declared.field.Field.{Field}
use Rattle.device_profile.specs.Printer.{Printer}
use Rattle.page_env.specs.declared.finding.Finding.{Finding}
use Rattle.page_env.specs.declared.finding.Finding.TheVariants.{InMacro, Unset}
use Rattle.page_env.specs.Effect.{Check, first_finding, first_unset, TableLine, Effect, Goes, GoesThenCloses, GoesThenEnds, fails_or}
use Rattle.page_env.specs.Effect.{judged, effect_of, Transition, Step, Closes, Ends, Behind, Controls}
use Rattle.page_env.specs.Effect as effect
use Rattle.page_env.specs.Settings.{Flags, Settings, State, unwatched}
use Rattle.page_env.specs.Macros.{control_of, spend_item}
use Rattle.page_env.specs.Order.{is_unset_finding, find_unset, is_in_order}
use Rattle.page_env.specs.Sound.{plain_settings, plain_state, IsSoundTransition, IsSoundItem, IsSoundByte, IsSoundMove}
use Rattle.page_env.specs.declared.macros.Control.TheVariants.{EnableOverlay}
use Rattle.page_env.specs.declared.page.StartedRaster.{StartedRaster}
use Rattle.page_env.specs.Motion.{with_vmi}
use Rattle.page_env.specs.PageControl.{orientation_checks, set_orientation}
use Rattle.page_env.specs.declared.finding.Finding.TheVariants.{BadValue}
use Rattle.pcl_items.specs.Items.{Parameterized}
use Rattle.pcl_items.specs.declared.pcl.command.Command.TheVariants.{Orientation}
use Rattle.page_env.specs.Pinned.{pinned, AreSet, GoesPinned, GoesPinnedBy, returns_to_panel, IsPinnedItem, IsPinnedByte, IsPinnedMove}
use Rattle.page_env.specs.Pinned.{AreBare, IsBare, KeepsBare, IsBareItem, IsBareByte, IsBareMove}
use Rattle.page_env.specs.Rasters.{is_of_raster}
use Rattle.page_env.specs.Table.{printed_bytes, coordinates_of, transition_of}
use Rattle.page_env.specs.Pens.{move_pen}
use Rattle.page_env.specs.Text.{print_transparent}
use Rattle.page_machine.specs.Event.{Event, Marked}
use Rattle.page_machine.specs.Run.{Peaks, peaks_of, Run, just, after, onward, followed_by, finding_or, unset_or, goes, effect_run, Ending}
use Rattle.page_machine.specs.Run.{Done, Halts, marked_close, close_and_change, transition_run, Conditions, byte_run, printing, move_run}
use Rattle.page_machine.specs.Run.{drawing, own_run, begun_run, item_run}
use Rattle.page_machine.specs.Laws.{IsSet, IsNotUnset}
use Rattle.page_machine.specs.Macros.{macro_item_run}
use Rattle.page_machine.specs.Pinning.{spacing}
use Rattle.page_machine.proofs.Composed.{onward-append}
use Rattle.page_machine.proofs.Forget.{first_unset-plain}

-- ---- runs

abbrev pub pinned_ending : Printer → Settings → Ending → Ending
pinned_ending printer from (Done s) = Done (pinned printer from s)
pinned_ending printer from (Halts finding) = Halts finding

-- no overlay is enabled, nothing watched and nothing limited where a run ended
abbrev pub EndsBare : Ending → Type 0
EndsBare (Done s) = IsBare s
EndsBare (Halts finding) = Unit {0}

-- the second run gives the same events, and ends in the state in which all is set
pub record Alike (printer : Printer) (from : Settings) (r r' : Run) : Type 0 where
  pub events : r'.events ≡ r.events
  pub ending : r'.ending ≡ pinned_ending printer from r.ending
  pub bare : EndsBare r.ending
  pub set : IsSet r.ending

-- a run, another from where it ended, and a third
pub followed-assoc : (events : List Event) (peaks : Peaks) (e : Ending) (f g : State → Run) →
    followed_by (onward events peaks e f) g ≡ onward events peaks e (λ t. followed_by (f t) g)
followed-assoc events peaks (Done s) f g = onward-append events (f s).events peaks (f s).peaks (f s).ending g
followed-assoc events peaks (Halts finding) f g = refl

-- ---- checks find nothing unset

neither : (a b : Bool) → (a || b) ≡ false → (a ≡ false) × (b ≡ false)
neither true b e = absurd cc
neither false b e = (refl, e)

finding_is_set : (finding : Finding) → is_unset_finding finding ≡ false → IsNotUnset finding
finding_is_set (Unset field) e = absurd cc
finding_is_set _ e = tt

-- what one of these checks finds is another than that a field is unset
abbrev pub FindsSet : Option Finding → Type 0
FindsSet found = (finding : Finding) → found ≡ Some finding → IsNotUnset finding

pub checks_are_set : (checks : List Check) → find_unset checks ≡ false → FindsSet (first_finding checks)
checks_are_set [] none finding e = absurd cc
checks_are_set (c ∷ checks) none finding e = by (λ rest. checks_are_set checks rest finding) c.applies e
  where
    both : (is_unset_finding c.finding ≡ false) × (find_unset checks ≡ false)
    both = neither (is_unset_finding c.finding) (find_unset checks) none

    by : (find_unset checks ≡ false → first_finding checks ≡ Some finding → IsNotUnset finding) → (applies : Bool) →
        cond applies (Some c.finding) (first_finding checks) ≡ Some finding → IsNotUnset finding
    by later true e = let same : c.finding ≡ finding = cc in subst IsNotUnset same (finding_is_set c.finding both.0)
    by later false e = later both.1 e

three : (a b c : Bool) → (not a && not b && c) ≡ true → (a ≡ false) × (b ≡ false)
three true b c e = absurd cc
three false true c e = absurd cc
three false false c e = (refl, refl)

pub line_is_set : (line : TableLine) → is_in_order line ≡ true → FindsSet (first_finding line.checks_before) ×
    FindsSet (first_finding line.checks_after)
line_is_set line e =
    let none = three (find_unset line.checks_before) (find_unset line.checks_after) _ e in
    (checks_are_set line.checks_before none.0, checks_are_set line.checks_after none.1)

-- the checks of a transition stand in order
abbrev pub IsOrdered : Transition → Type 0
IsOrdered (Step line) = is_in_order line ≡ true
IsOrdered (Closes line sets_paper change) = is_in_order line ≡ true
IsOrdered (Ends line) = is_in_order line ≡ true
IsOrdered (Behind reads transition) = IsOrdered transition
IsOrdered (Controls t n) = Unit {0}

sound_is_ordered : (printer : Printer) (defaults : Settings) (s : State) (m m' : Transition) → IsSoundTransition printer defaults s m m' →
    IsOrdered m
sound_is_ordered printer defaults s (Step line) (Step line') sound = sound.ordered
sound_is_ordered printer defaults s (Closes line sets change) (Closes line' sets' change') sound = sound.0.ordered
sound_is_ordered printer defaults s (Ends line) (Ends line') sound = sound.ordered
sound_is_ordered printer defaults s (Behind reads m) (Behind reads' m') sound = sound_is_ordered printer defaults s m m' sound.1
sound_is_ordered printer defaults s (Controls t n) (Controls t' n') sound = tt
sound_is_ordered printer defaults s _ _ sound = absurd sound

-- nothing is unset in a bare state
pub nothing_unset : (s : State) (fields : List Field) → IsBare s → first_unset s.settings fields ≡ None
nothing_unset s fields o =
    ap (λ u. first_unset (record s.settings { unset = u }) fields) o.1 ∙ first_unset-plain s.settings fields

-- runs of the pinned job, whose user defaults are these
module _ (printer : Printer) (from : Settings) where
  onward_alike : (events events' : List Event) (peaks peaks' : Peaks) (e : Ending) (next next' : State → Run) → events' ≡ events →
      EndsBare e → IsSet e → ((s : State) → IsBare s → Alike printer from (next s) (next' (pinned printer from s))) →
      Alike printer from (onward events peaks e next) (onward events' peaks' (pinned_ending printer from e) next')
  onward_alike events events' peaks peaks' (Done s) next next' same bare set q =
      let rest = q s bare in
      record {
        events = ap (λ l. l ++ (next' (pinned printer from s)).events) same ∙ ap (λ l. events ++ l) rest.events;
        ending = rest.ending;
        bare = rest.bare;
        set = rest.set;
      }
  onward_alike events events' peaks peaks' (Halts finding) next next' same bare set q =
      record { events = same; ending = refl; bare = tt; set = set }

  pub followed_alike : (r r' : Run) (next next' : State → Run) → Alike printer from r r' →
      ((s : State) → IsBare s → Alike printer from (next s) (next' (pinned printer from s))) →
      Alike printer from (followed_by r next) (followed_by r' next')
  followed_alike r r' next next' p q =
      subst (λ e. Alike printer from (followed_by r next) (onward r'.events r'.peaks e next')) (sym p.ending)
      (onward_alike r.events r'.events r.peaks r'.peaks r.ending next next' p.events p.bare p.set q)

  pub after_alike : (peaks peaks' : Peaks) (r r' : Run) → Alike printer from r r' →
      Alike printer from (after [] peaks r) (after [] peaks' r')
  after_alike peaks peaks' r r' p = record { events = p.events; ending = p.ending; bare = p.bare; set = p.set }

  pub done_alike : (s : State) → IsBare s → Alike printer from (just [] (Done s)) (just [] (Done (pinned printer from s)))
  done_alike s bare = record { events = refl; ending = refl; bare = bare; set = tt }

  pub halts_alike : (finding : Finding) → IsNotUnset finding → Alike printer from (just [] (Halts finding)) (just [] (Halts finding))
  halts_alike finding set = record { events = refl; ending = refl; bare = tt; set = set }

  pub cond_alike : (b : Bool) (r t r' t' : Run) → Alike printer from r r' → Alike printer from t t' →
      Alike printer from (cond b r t) (cond b r' t')
  cond_alike true r t r' t' p q = p
  cond_alike false r t r' t' p q = q

  pub finding_alike : (o : Option Finding) (r r' : Run) → FindsSet o → Alike printer from r r' →
      Alike printer from (finding_or o r) (finding_or o r')
  finding_alike (Some finding) r r' set p = halts_alike finding (set finding refl)
  finding_alike None r r' set p = p

  -- neither run reads what is unset
  pub reads_alike : (s : State) (fields fields' : List Field) (r r' : Run) → IsBare s → AreSet printer from s fields' →
      Alike printer from r r' →
      Alike printer from (unset_or (first_unset s.settings fields) r) (unset_or (first_unset (pinned printer from s).settings fields') r')
  reads_alike s fields fields' r r' o set p =
      subst (λ (u : Option Field). Alike printer from (unset_or (first_unset s.settings fields) r) (unset_or u r')) (sym set)
      (subst (λ (u : Option Field). Alike printer from (unset_or u r) r') (sym (nothing_unset s fields o)) p)

  -- ---- items

  module _ (defaults : Settings) (bare : AreBare defaults) (fixed : Bool) (close close' : State → Run)
      (control control' : Amount → State → Run)
      (closes : (s : State) → IsBare s → Alike printer from (close s) (close' (pinned printer from s)))
      (controls : (n : Amount) (s : State) → (control_of n ≡ Some EnableOverlay → ⊥) → IsBare s →
      Alike printer from (control n s) (control' n (pinned printer from s))) where
    abbrev here : Conditions
    here = record { defaults = defaults; fixes_paper = fixed; close = close; control = control }

    abbrev there : Conditions
    there = record { defaults = from; fixes_paper = fixed; close = close'; control = control' }

    pub marked_alike : (s : State) → IsBare s → Alike printer from (marked_close close s) (marked_close close' (pinned printer from s))
    marked_alike s o =
        cond_alike s.marked (close s) (just [] (Done s)) (close' (pinned printer from s)) (just [] (Done (pinned printer from s)))
        (closes s o) (done_alike s o)

    change_alike : (b : Bool) (s : State) (change change' : State → State) →
        ((t : State) → change' (pinned printer from t) ≡ pinned printer from (change t)) → ((t : State) → IsBare t → IsBare (change t)) →
        IsBare s →
        Alike printer from (cond b (just [] (Halts InMacro)) (close_and_change here s change))
        (cond b (just [] (Halts InMacro)) (close_and_change there (pinned printer from s) change'))
    change_alike b s change change' same keeps o =
        let rest : Run = followed_by (marked_close close s) (λ t. just [] (Done (change t))) in
        let rest' : Run = followed_by (marked_close close' (pinned printer from s)) (λ t. just [] (Done (change' t))) in
        cond_alike b (just [] (Halts InMacro)) (close_and_change here s change) (just [] (Halts InMacro))
        (close_and_change there (pinned printer from s) change') (halts_alike InMacro tt)
        (after_alike (peaks_of s) (peaks_of (pinned printer from s)) rest rest'
        (followed_alike (marked_close close s) (marked_close close' (pinned printer from s)) (λ t. just [] (Done (change t)))
        (λ t. just [] (Done (change' t))) (marked_alike s o)
        (λ t k. record { events = refl; ending = ap (λ u. Done u) (same t); bare = keeps t k; set = tt })))

    -- what comes behind the checks of a line, where nothing that is read is unset
    parts_alike : (before after : Option Finding) (unset : Option Field) (e e' : Effect) → unset ≡ None → FindsSet before → FindsSet after →
        Alike printer from (effect_run here e) (effect_run there e') →
        Alike printer from (effect_run here (fails_or before (effect.unset_or unset (fails_or after e))))
        (effect_run there (fails_or before (fails_or after e')))
    parts_alike (Some finding) after unset e e' none first second p = halts_alike finding (first finding refl)
    parts_alike None after (Some field) e e' none first second p = absurd cc
    parts_alike None (Some finding) None e e' none first second p = halts_alike finding (second finding refl)
    parts_alike None None None e e' none first second p = p

    judged_alike : (s : State) (line line' : TableLine) (e e' : Effect) → IsBare s → is_in_order line ≡ true →
        GoesPinned printer from s line line' → Alike printer from (effect_run here e) (effect_run there e') →
        Alike printer from (effect_run here (judged s.settings line e))
        (effect_run there (judged (pinned printer from s).settings line' e'))
    judged_alike s line line' e e' o ordered goes p =
        let run : Run = effect_run here (judged s.settings line e) in
        let set = line_is_set line ordered in
        subst
        (λ (u : Option Field). Alike printer from run
        (effect_run there (fails_or (first_finding line'.checks_before)
        (effect.unset_or u (fails_or (first_finding line'.checks_after) e')))))
        (sym goes.1)
        (subst
        (λ (l : TableLine).
        Alike printer from run (effect_run there (fails_or (first_finding l.checks_before) (fails_or (first_finding l.checks_after) e'))))
        (sym goes.0)
        (parts_alike (first_finding line.checks_before) (first_finding line.checks_after) (first_unset s.settings line.reads) e e'
        (nothing_unset s line.reads o) set.0 set.1 p))

    behind_alike : (unset : Option Field) (e : Effect) (r' : Run) → unset ≡ None → Alike printer from (effect_run here e) r' →
        Alike printer from (effect_run here (effect.unset_or unset e)) r'
    behind_alike (Some field) e r' none p = absurd cc
    behind_alike None e r' none p = p

    pub transition_alike : (s : State) (m m' : Transition) → IsBare s → KeepsBare m → IsOrdered m → GoesPinnedBy printer from s m m' →
        Alike printer from (transition_run here s m) (transition_run there (pinned printer from s) m')
    transition_alike s (Step line) (Step line') o keeps ordered g =
        judged_alike s line line' (Goes line.state line.marks) (Goes line'.state line'.marks) o ordered g
        (record {
          events = ap (λ (l : TableLine). map Marked l.marks) g.0;
          ending = ap (λ (l : TableLine). Done l.state) g.0;
          bare = keeps;
          set = tt;
        })
    transition_alike s (Closes line sets change) (Closes line' sets' change') o keeps ordered g =
        let run : Run = effect_run here (GoesThenCloses line.state sets change) in
        judged_alike s line line' (GoesThenCloses line.state sets change) (GoesThenCloses line'.state sets' change') o ordered g.0
        (subst (λ (b : Bool). Alike printer from run (effect_run there (GoesThenCloses line'.state b change'))) (sym g.1)
        (subst (λ (l : TableLine). Alike printer from run (effect_run there (GoesThenCloses l.state sets change'))) (sym g.0.0)
        (change_alike (sets && fixed) line.state change change' g.2 keeps.1 keeps.0)))
    transition_alike s (Ends line) (Ends line') o keeps ordered g =
        let run : Run = effect_run here (GoesThenEnds line.state) in
        judged_alike s line line' (GoesThenEnds line.state) (GoesThenEnds line'.state) o ordered g
        (subst (λ (l : TableLine). Alike printer from run (effect_run there (GoesThenEnds l.state))) (sym g.0)
        (after_alike (peaks_of line.state) (peaks_of (pinned printer from line.state)) (close line.state)
        (close' (pinned printer from line.state)) (closes line.state keeps)))
    transition_alike s (Behind reads m) (Behind reads' m') o keeps ordered g =
        let run : Run = effect_run here (effect.unset_or (first_unset s.settings reads) (effect_of s.settings m)) in
        subst
        (λ (u : Option Field).
        Alike printer from run (effect_run there (effect.unset_or u (effect_of (pinned printer from s).settings m'))))
        (sym g.0)
        (behind_alike (first_unset s.settings reads) (effect_of s.settings m)
        (effect_run there (effect_of (pinned printer from s).settings m')) (nothing_unset s reads o)
        (transition_alike s m m' o keeps ordered g.1))
    transition_alike s (Controls t n) (Controls t' n') o keeps ordered g =
        subst (λ (k : Amount). Alike printer from (control n t) (control' k t')) (sym g.1)
        (subst (λ (u : State). Alike printer from (control n t) (control' n u)) (sym g.0) (controls n t keeps.1 keeps.0))
    transition_alike s _ _ o keeps ordered g = absurd g

    -- an item of a macro begins, where none are limited
    spend_alike : (s : State) → IsBare s →
        Alike printer from (transition_run here s (Step (spend_item s)))
        (transition_run there (pinned printer from s) (Step (spend_item (pinned printer from s))))
    spend_alike s o =
        let with_left : Option ℕ → State = λ left. record s { items_left = left } in
        subst
        (λ (left : Option ℕ). Alike printer from (transition_run here (with_left left) (Step (spend_item (with_left left))))
        (transition_run there (pinned printer from (with_left left)) (Step (spend_item (pinned printer from (with_left left))))))
        (sym o.2)
        (record { events = refl; ending = refl; bare = (o.0, o.1, refl); set = tt })

    module _ (sounds : (item : Entry) → IsSoundItem printer defaults item) (sound_bytes : (code : ℕ) → IsSoundByte printer code)
        (sound_moves : (to : ℤ × ℤ) → IsSoundMove printer to) (items : (item : Entry) → IsPinnedItem printer defaults from item)
        (bares : (item : Entry) → IsBareItem printer item) (bytes : (code : ℕ) → IsPinnedByte printer from code)
        (bare_bytes : (code : ℕ) → IsBareByte printer code) (moves : (to : ℤ × ℤ) → IsPinnedMove printer from to)
        (bare_moves : (to : ℤ × ℤ) → IsBareMove printer to) where
      own_alike : (item : Entry) (s : State) → returns_to_panel item ≡ false → IsBare s →
          Alike printer from (own_run printer here item s) (own_run printer there item (pinned printer from s))
      own_alike item s r o =
          transition_alike s (transition_of printer defaults s item) (transition_of printer from (pinned printer from s) item) o
          (bares item defaults s r bare o)
          (sound_is_ordered printer defaults s (transition_of printer defaults s item)
          (transition_of printer (plain_settings defaults) (plain_state s) item) (sounds item s))
          (items item s r)

      byte_alike : (code : ℕ) (s : State) → IsBare s →
          Alike printer from (byte_run printer here code s) (byte_run printer there code (pinned printer from s))
      byte_alike code s o =
          transition_alike s (Step (print_transparent printer s code)) (Step (print_transparent printer (pinned printer from s) code)) o
          (bare_bytes code s o) ((sound_bytes code s).ordered) (bytes code s)

      printing_alike : (r r' : Run) (codes : List ℕ) → Alike printer from r r' →
          Alike printer from (printing printer here r codes) (printing printer there r' codes)
      printing_alike r r' [] p = p
      printing_alike r r' (code ∷ codes) p =
          printing_alike (followed_by r (byte_run printer here code)) (followed_by r' (byte_run printer there code)) codes
          (followed_alike r r' (byte_run printer here code) (byte_run printer there code) p (byte_alike code))

      move_alike : (to : ℤ × ℤ) (s : State) → IsBare s →
          Alike printer from (move_run printer here to s) (move_run printer there to (pinned printer from s))
      move_alike to s o =
          transition_alike s (Step (move_pen printer s to)) (Step (move_pen printer (pinned printer from s) to)) o (bare_moves to s o)
          ((sound_moves to s).ordered) (moves to s)

      drawing_alike : (r r' : Run) (to : Option (ℤ × ℤ)) → Alike printer from r r' →
          Alike printer from (drawing printer here r to) (drawing printer there r' to)
      drawing_alike r r' None p = p
      drawing_alike r r' (Some to) p = followed_alike r r' (move_run printer here to) (move_run printer there to) p (move_alike to)

      begun_alike : (item : Entry) (s : State) → returns_to_panel item ≡ false → IsBare s →
          Alike printer from (begun_run printer here item s) (begun_run printer there item (pinned printer from s))
      begun_alike item s r o =
          let own : Run = own_run printer here item s in
          let own' : Run = own_run printer there item (pinned printer from s) in
          drawing_alike (printing printer here own (printed_bytes item))
          (printing printer there own' (printed_bytes item)) (coordinates_of item)
          (printing_alike own own' (printed_bytes item) (own_alike item s r o))

      -- an item that returns to nothing of the panel's
      pub item_alike : (item : Entry) (s : State) → returns_to_panel item ≡ false → IsBare s →
          Alike printer from (item_run printer here item s) (item_run printer there item (pinned printer from s))
      item_alike item s r o = by (is_of_raster item)
        where
          by : (b : Bool) →
              Alike printer from (begun_run printer here item (cond b s (record s { raster = None })))
              (begun_run printer there item (cond b (pinned printer from s) (record (pinned printer from s) { raster = None })))
          by true = begun_alike item s r o
          by false = begun_alike item (record s { raster = None }) r o

      -- the same of an item of a macro
      pub macro_item_alike : (item : Entry) (s : State) → returns_to_panel item ≡ false → IsBare s →
          Alike printer from (macro_item_run printer here item s) (macro_item_run printer there item (pinned printer from s))
      macro_item_alike item s r o =
          followed_alike (transition_run here s (Step (spend_item s)))
          (transition_run there (pinned printer from s) (Step (spend_item (pinned printer from s)))) (item_run printer here item)
          (item_run printer there item)
          (spend_alike s o) (λ t k. item_alike item t r k)

    -- ---- an orientation, with the spacing behind it

    module _ (v : ℕ) (is : v ≡ defaults.fields.vmi) (few : nat_le v 3_350_000 ≡ true) (hmis : from.job.hmi ≡ defaults.job.hmi)
        (ends_rasters : (s t : State) → s.raster ≡ None → (close s).ending ≡ Done t → t.raster ≡ None) where
      -- the spacing by itself
      spacing_run : (u : State) → item_run printer there (spacing v) u ≡ goes (with_vmi (record u { raster = None }) v) []
      spacing_run u =
          ap (λ b. effect_run there (fails_or (cond (not b) (Some BadValue) None) (Goes (with_vmi (record u { raster = None }) v) []))) few

      spaced : (n : Amount) (t : State) → t.raster ≡ None →
          with_vmi (record (set_orientation from (pinned printer from t) n) { raster = None }) v
          ≡ pinned printer from (set_orientation defaults t n)
      spaced n t none =
          let u : State = pinned printer from (set_orientation defaults t n) in
          let put : ℕ → Option ℕ → Option StartedRaster → State =
          λ vmi hmi raster. record u {
            settings = record u.settings { fields = record u.settings.fields { vmi = vmi }; job = record u.settings.job { hmi = hmi } };
            raster = raster;
          } in
          ap (λ vmi. put vmi from.job.hmi None) is
          ∙ (ap (λ hmi. put defaults.fields.vmi hmi None) hmis
          ∙ ap (λ raster. put defaults.fields.vmi defaults.job.hmi raster) (sym none))

      -- a run that does what the spacing does, where the items of macros are not limited
      abbrev Spaces : (State → Run) → Type 0
      Spaces next =
          (u : State) → u.items_left ≡ None → ((next u).events ≡ []) × ((next u).ending ≡ Done (with_vmi (record u { raster = None }) v))

      alone_spaces : Spaces (item_run printer there (spacing v))
      alone_spaces u none = (ap (λ (r : Run). r.events) (spacing_run u), ap (λ (r : Run). r.ending) (spacing_run u))

      macro_spaces : Spaces (macro_item_run printer there (spacing v))
      macro_spaces u none =
          let with_left : Option ℕ → State = λ left. record u { items_left = left } in
          let next : State → Run = macro_item_run printer there (spacing v) in
          subst
          (λ (left : Option ℕ). ((next (with_left left)).events ≡ [])
          × ((next (with_left left)).ending ≡ Done (with_vmi (record (with_left left) { raster = None }) v)))
          (sym none)
          (alone_spaces (with_left None) refl)

      -- a new orientation enables no overlay, watches nothing and limits nothing
      turned_bare : (n : Amount) (t : State) → IsBare t → IsBare (set_orientation defaults t n)
      turned_bare n t o = (
        refl,
        ap (λ (u : Flags). record u { orientation = false; vmi = defaults.unset.vmi }) o.1
            ∙ ap (λ (u : Flags). record unwatched { orientation = false; vmi = u.vmi }) bare.1,
        o.2,
      )

      -- the closing of a page, then the orientation, and then the spacing
      turned : (next : State → Run) → Spaces next → (n : Amount) (p p' q q' : Peaks) (events events' : List Event) (e : Ending) →
          events' ≡ events → EndsBare e → IsSet e → ((t : State) → e ≡ Done t → t.raster ≡ None)
          → Alike printer from (after [] p (onward events q e (λ t. just [] (Done (set_orientation defaults t n)))))
          (followed_by
          (after [] p' (onward events' q' (pinned_ending printer from e) (λ t. just [] (Done (set_orientation from t n))))) next)
      turned next spaces n p p' q q' events events' (Done t) same o set unrastered =
          let u : State = set_orientation from (pinned printer from t) n in
          let run : Run = next u in
          let none : run.events ≡ [] = (spaces u o.2).0 in
          let end : run.ending ≡ Done (pinned printer from (set_orientation defaults t n)) =
          (spaces u o.2).1 ∙ ap (λ x. Done x) (spaced n t (unrastered t refl)) in
          record {
            events = ap (λ l. (events' ++ []) ++ l) none ∙ (append-nil (events' ++ []) ∙ ap (λ l. l ++ []) same);
            ending = end;
            bare = turned_bare n t o;
            set = tt;
          }
      turned next spaces n p p' q q' events events' (Halts finding) same o set unrastered =
          record { events = same; ending = refl; bare = tt; set = set }

      marked_unrastered : (b : Bool) (s t : State) → s.raster ≡ None → (cond b (close s) (just [] (Done s))).ending ≡ Done t →
          t.raster ≡ None
      marked_unrastered true s t none e = ends_rasters s t none e
      marked_unrastered false s t none e = let same : s ≡ t = cc in sym (ap (λ (x : State). x.raster) same) ∙ none

      turns_alike : (next : State → Run) → Spaces next → (n : Amount) (s : State) → IsBare s →
          Alike printer from (item_run printer here (Parameterized Orientation n) s)
          (followed_by (item_run printer there (Parameterized Orientation n) (pinned printer from s)) next)
      turns_alike next spaces n s o = by (first_finding (orientation_checks printer n)) (checks_are_set (orientation_checks printer n) refl)
        where
          w : State
          w = record s { raster = None }

          change : State → State
          change = λ t. set_orientation defaults t n

          change' : State → State
          change' = λ t. set_orientation from t n

          closing : Alike printer from (close_and_change here w change)
              (followed_by (close_and_change there (pinned printer from w) change') next)
          closing =
              let m : Run = marked_close close w in
              let m' : Run = marked_close close' (pinned printer from w) in
              let first = marked_alike w o in
              subst
              (λ e. Alike printer from (close_and_change here w change)
              (followed_by
              (after [] (peaks_of (pinned printer from w)) (onward m'.events m'.peaks e (λ t. just [] (Done (change' t))))) next))
              (sym first.ending)
              (turned next spaces n (peaks_of w) (peaks_of (pinned printer from w)) m.peaks m'.peaks m.events m'.events m.ending
              first.events first.bare first.set (λ t e. marked_unrastered w.marked w t refl e))

          when : (b : Bool) →
              Alike printer from (cond b (just [] (Halts InMacro)) (close_and_change here w change))
              (followed_by (cond b (just [] (Halts InMacro)) (close_and_change there (pinned printer from w) change')) next)
          when true = record { events = refl; ending = refl; bare = tt; set = tt }
          when false = closing

          by : (found : Option Finding) → FindsSet found →
              Alike printer from (effect_run here (fails_or found (GoesThenCloses w true change)))
              (followed_by (effect_run there (fails_or found (GoesThenCloses (pinned printer from w) true change'))) next)
          by (Some finding) set = record { events = refl; ending = refl; bare = tt; set = set finding refl }
          by None set = when fixed

      pub orientation_alike : (n : Amount) (s : State) → IsBare s →
          Alike printer from (item_run printer here (Parameterized Orientation n) s)
          (followed_by (item_run printer there (Parameterized Orientation n) (pinned printer from s)) (item_run printer there (spacing v)))
      orientation_alike = turns_alike (item_run printer there (spacing v)) alone_spaces

      -- the same of items of a macro
      pub macro_orientation_alike : (n : Amount) (s : State) → IsBare s →
          Alike printer from (macro_item_run printer here (Parameterized Orientation n) s)
          (followed_by (macro_item_run printer there (Parameterized Orientation n) (pinned printer from s))
          (macro_item_run printer there (spacing v)))
      macro_orientation_alike n s o =
          let item : Entry = Parameterized Orientation n in
          let next : State → Run = macro_item_run printer there (spacing v) in
          let first : Run = transition_run here s (Step (spend_item s)) in
          let first' : Run = transition_run there (pinned printer from s) (Step (spend_item (pinned printer from s))) in
          subst (λ (r : Run). Alike printer from (macro_item_run printer here item s) r)
          (sym (followed-assoc first'.events first'.peaks first'.ending (item_run printer there item) next))
          (followed_alike first first' (item_run printer here item) (λ t. followed_by (item_run printer there item t) next)
          (spend_alike s o) (turns_alike next macro_spaces n))
