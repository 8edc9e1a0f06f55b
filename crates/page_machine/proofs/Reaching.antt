-- Where a run finds a field unset, the plain run comes to a step that reads it, and no item has set it.
use Rattle.std.proofs.Common.{◌≡◌, inl, inr, ℕ, ℤ, zero, suc, ◌+◌, nat_lt, Bool, true, false, cond, ◌&&◌, is_some}
use Rattle.std.proofs.Common.{length, List, [], ◌∷◌, refl, ap, sym, ◌∙◌, subst, Option, Some, None}
use Rattle.std.specs.List.{Contains}
use Rattle.std.proofs.lemmas.Bool.{false≢true}
use Rattle.pcl_items.specs.declared.pcl.command.Command.TheVariants.{MacroControl}
use Rattle.pcl_items.specs.declared.pcl.command.DataCommand.TheVariants.{TransparentText}
use Rattle.pcl_items.specs.Spellings.Canon.{canon}
use Rattle.pcl_items.specs.Items.{Entry, Parameterized, WithData, Move, Reset, Placed}
use Rattle.pcl_lexer.specs.Reading.{Reading, Whole, Stopped}
use Rattle.pcl_items.specs.Escapes.Value.{Amount}
use Rattle.device_profile.specs.declared.field.Field.{Field}
use Rattle.device_profile.specs.declared.field.Field.TheVariants.{Size, Orientation, Vmi, Font, Copies, Sides, Tray, LineTerm}
use Rattle.device_profile.specs.declared.panel.Panel.{Panel}
use Rattle.device_profile.specs.Printer.{Printer}
use Rattle.macro_store.specs.Store.{Store, body_of, stored_bytes, appended, no_macros}
use Rattle.page_env.specs.declared.finding.Finding.{Finding}
use Rattle.page_env.specs.declared.finding.Finding.TheVariants.{MacroDepth, MacroMemory, InMacro, DefinitionOpen, Unset}
use Rattle.page_env.specs.declared.macros.Control.{Control}
use Rattle.page_env.specs.declared.macros.Control.TheVariants.{Execute, Call}
use Rattle.page_env.specs.Effect.{Check, check, first_finding, is_unset, first_unset, TableLine, Effect, Goes, GoesThenCloses, GoesThenEnds}
use Rattle.page_env.specs.Effect.{fails_or, judged, effect_of, Transition, Step, Closes, Ends, Behind, Controls}
use Rattle.page_env.specs.Effect as effect
use Rattle.page_env.specs.FontInForce.{are_set}
use Rattle.page_env.specs.JobControl.{reset}
use Rattle.page_env.specs.Macros.{control_of, control_checks, controlled, overlay_state, spend_item}
use Rattle.page_env.specs.Pens.{move_pen}
use Rattle.page_env.specs.Rasters.{is_of_raster}
use Rattle.page_env.specs.Settings.{Flags, Settings, State, start_state, user_defaults}
use Rattle.page_env.specs.Sound.{plain_settings, plain_state, IsSound, IsSoundTransition, IsSoundItem}
use Rattle.page_env.specs.Table.{transition_of}
use Rattle.page_env.specs.Text.{print_transparent}
use Rattle.page_env.specs.Untouched.{Untouched, all_untouched, untouched_in_overlay, untouched_behind, is_some_part, is_untouched}
use Rattle.page_env.specs.Untouched.{is_flagged, SaysUntouched, names_font, IsReadAlike, TransitionLeaves, LeavesItsUntouched}
use Rattle.page_env.specs.Untouched.{ByteSetsNothing, MoveSetsNothing}
use Rattle.page_machine.specs.declared.defining.Defining.{Defining}
use Rattle.page_machine.specs.declared.defining.Defining.TheVariants.{Refused, Completed, Stored}
use Rattle.page_machine.specs.declared.nesting.Nesting.{Nesting}
use Rattle.page_machine.specs.declared.nesting.Nesting.TheVariants.{Job, Overlaid}
use Rattle.page_machine.specs.Event.{Event}
use Rattle.page_machine.specs.Run.{Peaks, Run, just, after, onward, followed_by, finding_or, unset_or, goes, effect_run, Ending, Done}
use Rattle.page_machine.specs.Run.{Halts, marked_close, close_and_change, transition_run, Conditions, reset_run, byte_run, printing}
use Rattle.page_machine.specs.Run.{move_run, drawing, own_run, begun_run, item_run, entries_run}
use Rattle.page_machine.specs.Macros.{MacroContext, is_macro, fixes_paper, executed_in, called_in, ending_with, put_back, found_run}
use Rattle.page_machine.specs.Macros.{control_body, control_run, conditions_in, raster_ended, macro_item_run, body_run, closing_reads}
use Rattle.page_machine.specs.Macros.{ended, refused, ending_at, give_up, overlay_run, is_too_deep, page_close, in_job}
use Rattle.page_machine.specs.Defining.{is_defining, defining_of, defining_run, of_memory, job_item_run, macros_after, job_end_run}
use Rattle.page_machine.specs.Job.{ItemRun, JobRun, ended_item, with_macros, items_run, end_run, no_end, at_end, reading_run}
use Rattle.page_machine.specs.Laws.{IsSet, IsNotUnset}
use Rattle.page_machine.specs.Reached.{left_at, entries_leave, found_leaves, control_leaves, begun_leaves, item_leaves, nested_run}
use Rattle.page_machine.specs.Reached.{macro_item_leaves, body_leaves, job_item_leaves, ReadsUntouched, LineReads, BehindReads}
use Rattle.page_machine.specs.Reached.{TransitionReads, BytesRead, MoveReads, BegunReads, ItemReads, EntriesRead, ControlBodyReads}
use Rattle.page_machine.specs.Reached.{ControlReads, NestedReads, MacroItemReads, BodyReads, OverlayReads, CloseReads, JobItemReads}
use Rattle.page_machine.specs.Reached.{JobEndReads, ItemsRead, EndReads, ReadingReads, FindsBehind, UnsetIsRead}
use Rattle.page_machine.proofs.Parts.{AreSoundParts}
use Rattle.page_machine.proofs.Forget.{plain, first_unset-plain, followed_plainly, own_plainly, byte_plainly, macro_plainly, body_plainly}
use Rattle.page_machine.proofs.Forget.{page_plainly, inside_plainly, control_plainly, job_item_plainly}
use Rattle.page_machine.proofs.PinnedRuns.{FindsSet, checks_are_set, line_is_set}
use Rattle.page_machine.proofs.UnsetFields.{first_among, among_font, some_part, both_of, not_set, judged_plain, control_checks_set}
use Rattle.page_machine.proofs.UnsetFields.{closing_set, plain_done}

module _ (watched : Flags) where
  abbrev Says : Untouched → State → Type 0
  Says u s = SaysUntouched watched u s.settings

  -- a field that is found unset is untouched and watched
  unset_says : (u : Untouched) (s : State) (reads : List Field) (field : Field) → Says u s →
      (are_set s.settings.job.font ≡ true → names_font reads ≡ false) → Contains reads field → is_unset s.settings field ≡ true →
      (is_untouched u field ≡ true) × (is_flagged watched field ≡ true)
  unset_says u s reads Size says font among unset = both_of u.size watched.size (sym (ap (λ (f : Flags). f.size) says.0) ∙ unset)
  unset_says u s reads Orientation says font among unset =
      both_of u.orientation watched.orientation (sym (ap (λ (f : Flags). f.orientation) says.0) ∙ unset)
  unset_says u s reads Vmi says font among unset = both_of u.vmi watched.vmi (sym (ap (λ (f : Flags). f.vmi) says.0) ∙ unset)
  unset_says u s reads Font says font among unset = (
    ap is_some_part (sym says.1) ∙ some_part s.settings.job.font
        ∙ not_set (are_set s.settings.job.font) (λ set. false≢true (sym (font set) ∙ among_font reads among)),
    sym (ap (λ (f : Flags). f.font) says.0) ∙ unset,
  )
  unset_says u s reads Copies says font among unset = both_of u.copies watched.copies (sym (ap (λ (f : Flags). f.copies) says.0) ∙ unset)
  unset_says u s reads Sides says font among unset = both_of u.sides watched.sides (sym (ap (λ (f : Flags). f.sides) says.0) ∙ unset)
  unset_says u s reads Tray says font among unset = both_of u.tray watched.tray (sym (ap (λ (f : Flags). f.tray) says.0) ∙ unset)
  unset_says u s reads LineTerm says font among unset =
      both_of u.line_termination watched.line_termination (sym (ap (λ (f : Flags). f.line_termination) says.0) ∙ unset)

  read_there : (u : Untouched) (s : State) (reads reads' : List Field) (field : Field) → IsReadAlike s reads reads' → Says u s →
      first_unset s.settings reads ≡ Some field → ReadsUntouched field u reads' × (is_flagged watched field ≡ true)
  read_there u s reads reads' field alike says e =
      let first = first_among s.settings reads field e in
      let found = unset_says u s reads field says alike.1 first.0 first.1 in
      ((subst (λ r. Contains r field) (sym alike.0) first.0, found.0), found.1)

  -- ---- runs

  -- A run ends where so much is left untouched, or where a field is unset that is watched and read.
  abbrev Comes : Untouched → (Field → Type 0) → Ending → Type 0
  Comes left Reads (Done s) = Says left s
  Comes left Reads (Halts finding) = (field : Field) → finding ≡ Unset field → Reads field × (is_flagged watched field ≡ true)

  weaken : (left : Untouched) (R R' : Field → Type 0) → ((f : Field) → R f → R' f) → (e : Ending) → Comes left R e → Comes left R' e
  weaken left R R' h (Done s) c = c
  weaken left R R' h (Halts finding) c = λ f is. (h f (c f is).0, (c f is).1)

  leads_on : (u left : Untouched) (R : Field → Type 0) (e : Ending) → ((t : State) → Says u t → Says left t) → Comes u R e → Comes left R e
  leads_on u left R (Done t) h c = h t c
  leads_on u left R (Halts finding) h c = c

  -- where another finding ends it, nothing is said
  set_comes : (left : Untouched) (R : Field → Type 0) (finding : Finding) → IsNotUnset finding → Comes left R (Halts finding)
  set_comes left R finding set = λ f is. absurd (subst IsNotUnset is set)

  onward_comes : (u left : Untouched) (R : Field → Type 0) (events : List Event) (peaks : Peaks) (e : Ending) (next : State → Run) →
      Comes u R e → ((t : State) → e ≡ Done t → Says u t → Comes left R (next t).ending) → Comes left R (onward events peaks e next).ending
  onward_comes u left R events peaks (Done t) next c k = k t refl c
  onward_comes u left R events peaks (Halts finding) next c k = c

  followed_comes : (u left : Untouched) (R : Field → Type 0) (r : Run) (next : State → Run) → Comes u R r.ending →
      ((t : State) → r.ending ≡ Done t → Says u t → Comes left R (next t).ending) → Comes left R (followed_by r next).ending
  followed_comes u left R r next = onward_comes u left R r.events r.peaks r.ending next

  -- what checks find
  finding_comes : (left : Untouched) (R : Field → Type 0) (o : Option Finding) (r : Run) → FindsSet o → (o ≡ None → Comes left R r.ending) →
      Comes left R (finding_or o r).ending
  finding_comes left R (Some finding) r set k = set_comes left R finding (set finding refl)
  finding_comes left R None r set k = k refl

  -- ---- items

  module _ (printer : Printer) (defaults : Settings) (fixed : Bool) (close close' : State → Run) (control control' : Amount → State → Run)
      (closing : Field → Untouched → State → Type 0) (controlling : Field → Untouched → Amount → State → Type 0)
      (closes : (u : Untouched) (s : State) → Says u s → Comes u (λ f. closing f u (plain_state s)) (close s).ending) where
    abbrev here : Conditions
    here = record { defaults = defaults; fixes_paper = fixed; close = close; control = control }

    abbrev plainly : Conditions
    plainly = record { defaults = plain_settings defaults; fixes_paper = fixed; close = close'; control = control' }

    -- a line, whose plain reads are the same
    judged_comes : (u left : Untouched) (R : Field → Type 0) (s : State) (line line' : TableLine) (e : Effect) →
        IsSound printer s line line' → IsReadAlike s line.reads line'.reads → Says u s → ((f : Field) → LineReads f u line' → R f) →
        (first_finding line'.checks_before ≡ None → first_finding line'.checks_after ≡ None → Comes left R (effect_run here e).ending) →
        Comes left R (effect_run here (judged s.settings line e)).ending
    judged_comes u left R s line line' e sound alike says reads goes_on =
        by (first_finding line.checks_before) refl (first_unset s.settings line.reads) refl (first_finding line.checks_after) refl
      where
        set : FindsSet (first_finding line.checks_before) × FindsSet (first_finding line.checks_after)
        set = line_is_set line sound.ordered

        by : (before : Option Finding) → first_finding line.checks_before ≡ before → (unset : Option Field) →
            first_unset s.settings line.reads ≡ unset → (behind : Option Finding) → first_finding line.checks_after ≡ behind →
            Comes left R (effect_run here (fails_or before (effect.unset_or unset (fails_or behind e)))).ending
        by (Some finding) b unset n behind a = set_comes left R finding (set.0 finding b)
        by None b (Some field) n behind a = λ f is.
            let same : field ≡ f = cc in
            let there = read_there u s line.reads line'.reads f alike says (n ∙ ap Some same) in
            (reads f (ap (λ (l : TableLine). first_finding l.checks_before) sound.same ∙ b, there.0), there.1)
        by None b None n (Some finding) a = set_comes left R finding (set.1 finding a)
        by None b None n None a =
            goes_on (ap (λ (l : TableLine). first_finding l.checks_before) sound.same ∙ b)
            (ap (λ (l : TableLine). first_finding l.checks_after) sound.same ∙ a)

    abbrev Reads : Untouched → State → Transition → Field → Type 0
    Reads u s m f = TransitionReads fixed (closing f u) (controlling f u) f u s m

    -- the closing of a page, marked or not, and then a change
    change_comes : (u left : Untouched) (R : Field → Type 0) (b : Bool) (s : State) (change : State → State) → Says u s →
        ((f : Field) → b ≡ false → s.marked ≡ true → closing f u (plain_state s) → R f) → ((t : State) → Says u t → Says left (change t)) →
        Comes left R (cond b (just [] (Halts InMacro)) (close_and_change here s change)).ending
    change_comes u left R true s change says reads leads = set_comes left R InMacro tt
    change_comes u left R false s change says reads leads =
        followed_comes u left R (marked_close close s) (λ t. just [] (Done (change t))) (by s.marked refl) (λ t is at. leads t at)
      where
        by : (marked : Bool) → s.marked ≡ marked → Comes u R (cond marked (close s) (just [] (Done s))).ending
        by true is = weaken u (λ f. closing f u (plain_state s)) R (λ f. reads f refl is) (close s).ending (closes u s says)
        by false is = says

    transition_comes : (u left : Untouched) (s : State) (m m' : Transition) → IsSoundTransition printer defaults s m m' →
        TransitionLeaves watched s u left m m' → Says u s → Comes left (Reads u (plain_state s) m') (transition_run here s m).ending
    transition_comes u left s (Step line) (Step line') sound leaves says =
        judged_comes u left (Reads u (plain_state s) (Step line')) s line line' (Goes line.state line.marks) sound leaves.0 says
        (λ f h. inl h) (λ b a. leaves.1)
    transition_comes u left s (Closes line sets change) (Closes line' sets' change') sound leaves says =
        let R : Field → Type 0 = Reads u (plain_state s) (Closes line' sets' change') in
        let comes_to : first_finding line'.checks_before ≡ None → first_finding line'.checks_after ≡ None →
        effect_of (plain_settings s.settings) (Closes line' sets' change') ≡ GoesThenCloses (plain_state line.state) sets change' =
        λ b a. judged_plain s.settings line' (GoesThenCloses line'.state sets' change') b a
        ∙ ap (λ (l : TableLine). GoesThenCloses l.state sets' change') sound.0.same
        ∙ ap (λ x. GoesThenCloses (plain_state line.state) x change') sound.2 in
        judged_comes u left R s line line' (GoesThenCloses line.state sets change) sound.0 leaves.0.0 says (λ f h. inl h)
        (λ b a. change_comes u left R (sets && fixed) line.state change leaves.0.1
        (λ f fix mark c. inr (subst (BehindReads fixed (closing f u) (controlling f u)) (sym (comes_to b a)) (fix, mark, c))) leaves.1)
    transition_comes u left s (Ends line) (Ends line') sound leaves says =
        let R : Field → Type 0 = Reads u (plain_state s) (Ends line') in
        let comes_to : first_finding line'.checks_before ≡ None → first_finding line'.checks_after ≡ None →
        effect_of (plain_settings s.settings) (Ends line') ≡ GoesThenEnds (plain_state line.state) =
        λ b a. judged_plain s.settings line' (GoesThenEnds line'.state) b a ∙ ap (λ (l : TableLine). GoesThenEnds l.state) sound.same in
        judged_comes u left R s line line' (GoesThenEnds line.state) sound leaves.0.0 says (λ f h. inl h)
        (λ b a. leads_on u left R (close line.state).ending leaves.1
        (weaken u (λ f. closing f u (plain_state line.state)) R
        (λ f c. inr (subst (BehindReads fixed (closing f u) (controlling f u)) (sym (comes_to b a)) c)) (close line.state).ending
        (closes u line.state leaves.0.1)))
    transition_comes u left s (Behind reads m) (Behind reads' m') sound leaves says =
        by (transition_comes u left s m m' sound.1 leaves.1 says) (first_unset s.settings reads) refl
      where
        R : Field → Type 0
        R = Reads u (plain_state s) (Behind reads' m')

        -- what follows, where nothing that is read is unset
        more : (f : Field) → Reads u (plain_state s) m' f → R f
        more f (inl step) = inl (inr step)
        more f (inr rest) =
            inr (subst (BehindReads fixed (closing f u) (controlling f u))
            (sym (ap (λ o. effect.unset_or o (effect_of (plain_settings s.settings) m')) (first_unset-plain s.settings reads'))) rest)

        by : Comes left (Reads u (plain_state s) m') (effect_run here (effect_of s.settings m)).ending → (o : Option Field) →
            first_unset s.settings reads ≡ o → Comes left R (effect_run here (effect.unset_or o (effect_of s.settings m))).ending
        by rest (Some field) e = λ f is.
            let same : field ≡ f = cc in
            let there = read_there u s reads reads' f leaves.0 says (e ∙ ap Some same) in
            (inl (inl there.0), there.1)
        by rest None e = weaken left (Reads u (plain_state s) m') R more (effect_run here (effect_of s.settings m)).ending rest
    transition_comes u left s _ _ sound leaves says = absurd leaves

    module _ (sound : (item : Entry) → IsSoundItem printer defaults item) (parts : AreSoundParts printer)
        (closes_plainly : (s : State) → IsSet (close s).ending → close' (plain_state s) ≡ plain (close s))
        (controls_plainly : (n : Amount) (s : State) → IsSet (control n s).ending → control' n (plain_state s) ≡ plain (control n s))
        (items : (item : Entry) → LeavesItsUntouched printer item) (bytes : (code : ℕ) → ByteSetsNothing printer code)
        (moves : (to : ℤ × ℤ) → MoveSetsNothing printer to) (chosen : SaysUntouched watched all_untouched defaults) (macros : Store)
        (inner_leaves : Nesting → List Entry → State → Untouched → Untouched) (nesting : Nesting)
        (controls : (u : Untouched) (n : Amount) (s : State) → Says u s →
        Comes (control_leaves macros inner_leaves nesting (control_of n) (controlled (control_of n) (plain_state s)) u)
        (λ f. controlling f u n (plain_state s)) (control n s).ending) where
      -- an item's own step
      own_comes : (item : Entry) (u : Untouched) (s : State) → Says u s →
          Comes (begun_leaves macros inner_leaves nesting item (plain_state s) u)
          (Reads u (plain_state s) (transition_of printer (plain_settings defaults) (plain_state s) item))
          (own_run printer here item s).ending
      own_comes (Parameterized MacroControl n) u s says =
          weaken (control_leaves macros inner_leaves nesting (control_of n) (controlled (control_of n) (plain_state s)) u)
          (λ f. controlling f u n (plain_state s)) (Reads u (plain_state s) (Controls (plain_state s) n)) (λ f c. inr c)
          (control n s).ending (controls u n s says)
      own_comes item u s says =
          transition_comes u (untouched_behind item u) s (transition_of printer defaults s item)
          (transition_of printer (plain_settings defaults) (plain_state s) item) (sound item s)
          (items item watched defaults u s refl chosen says) says

      byte_comes : (code : ℕ) (u : Untouched) (s : State) → Says u s →
          Comes u (λ f. LineReads f u (print_transparent printer (plain_state s) code)) (byte_run printer here code s).ending
      byte_comes code u s says =
          let leaves = bytes code watched u s says in
          judged_comes u u (λ f. LineReads f u (print_transparent printer (plain_state s) code)) s (print_transparent printer s code)
          (print_transparent printer (plain_state s) code)
          (Goes (print_transparent printer s code).state (print_transparent printer s code).marks) (parts.bytes code s) leaves.0 says
          (λ f h. h) (λ b a. leaves.1)

      printing_comes : (codes : List ℕ) (u : Untouched) (R : Field → Type 0) (r r' : Run) → (IsSet r.ending → r' ≡ plain r) →
          Comes u R r.ending → ((f : Field) → BytesRead printer plainly f u r' codes → R f) →
          Comes u R (printing printer here r codes).ending
      printing_comes [] u R r r' p c into = c
      printing_comes (code ∷ codes) u R r r' p c into =
          printing_comes codes u R (followed_by r (byte_run printer here code)) (followed_by r' (byte_run printer plainly code))
          (followed_plainly r r' (byte_run printer here code) (byte_run printer plainly code) p
          (byte_plainly printer defaults fixed close close' control control' closes_plainly controls_plainly sound parts code))
          (followed_comes u u R r (byte_run printer here code) c
          (λ t is at. weaken u (λ f. LineReads f u (print_transparent printer (plain_state t) code)) R
          (λ f h. into f (inl (plain_state t, plain_done r r' p t is, h))) (byte_run printer here code t).ending
          (byte_comes code u t at)))
          (λ f h. into f (inr h))

      move_comes : (to : ℤ × ℤ) (u : Untouched) (s : State) → Says u s →
          Comes u (λ f. LineReads f u (move_pen printer (plain_state s) to)) (move_run printer here to s).ending
      move_comes to u s says =
          let leaves = moves to watched u s says in
          judged_comes u u (λ f. LineReads f u (move_pen printer (plain_state s) to)) s (move_pen printer s to)
          (move_pen printer (plain_state s) to)
          (Goes (move_pen printer s to).state (move_pen printer s to).marks) (parts.moves to s) leaves.0 says (λ f h. h) (λ b a. leaves.1)

      drawing_comes : (to : Option (ℤ × ℤ)) (u : Untouched) (R : Field → Type 0) (r r' : Run) → (IsSet r.ending → r' ≡ plain r) →
          Comes u R r.ending → ((f : Field) → MoveReads printer f u r' to → R f) → Comes u R (drawing printer here r to).ending
      drawing_comes None u R r r' p c into = c
      drawing_comes (Some to) u R r r' p c into =
          followed_comes u u R r (move_run printer here to) c
          (λ t is at. weaken u (λ f. LineReads f u (move_pen printer (plain_state t) to)) R
          (λ f h. into f (plain_state t, plain_done r r' p t is, h)) (move_run printer here to t).ending (move_comes to u t at))

      abbrev Begun : Untouched → Entry → State → Field → Type 0
      Begun u item s f = BegunReads printer plainly (closing f u) (controlling f u) f u item s

      begun_comes : (item : Entry) (u : Untouched) (s : State) → Says u s →
          Comes (begun_leaves macros inner_leaves nesting item (plain_state s) u) (Begun u item (plain_state s))
          (begun_run printer here item s).ending
      begun_comes (WithData TransparentText codes) u s says =
          let item : Entry = WithData TransparentText codes in
          let own : Run = own_run printer here item s in
          let own' : Run = own_run printer plainly item (plain_state s) in
          printing_comes codes u (Begun u item (plain_state s)) own own'
          (own_plainly printer defaults fixed close close' control control' closes_plainly controls_plainly sound parts item s)
          (weaken u (Reads u (plain_state s) (transition_of printer (plain_settings defaults) (plain_state s) item))
          (Begun u item (plain_state s)) (λ f h. inl h) own.ending (own_comes item u s says))
          (λ f h. inr (inl h))
      begun_comes (Move motion to) u s says =
          let item : Entry = Move motion to in
          let own : Run = own_run printer here item s in
          let own' : Run = own_run printer plainly item (plain_state s) in
          drawing_comes to u (Begun u item (plain_state s)) own own'
          (own_plainly printer defaults fixed close close' control control' closes_plainly controls_plainly sound parts item s)
          (weaken u (Reads u (plain_state s) (transition_of printer (plain_settings defaults) (plain_state s) item))
          (Begun u item (plain_state s)) (λ f h. inl h) own.ending (own_comes item u s says))
          (λ f h. inr (inr h))
      begun_comes item u s says =
          weaken (begun_leaves macros inner_leaves nesting item (plain_state s) u)
          (Reads u (plain_state s) (transition_of printer (plain_settings defaults) (plain_state s) item)) (Begun u item (plain_state s))
          (λ f h. inl h) (own_run printer here item s).ending (own_comes item u s says)

      pub item_comes : (item : Entry) (u : Untouched) (s : State) → Says u s →
          Comes (item_leaves macros inner_leaves nesting item (plain_state s) u)
          (λ f. ItemReads printer plainly (closing f u) (controlling f u) f u item (plain_state s)) (item_run printer here item s).ending
      item_comes item u s says = by (is_of_raster item)
        where
          by : (b : Bool) →
              Comes (begun_leaves macros inner_leaves nesting item (cond b (plain_state s) (record (plain_state s) { raster = None })) u)
              (Begun u item (cond b (plain_state s) (record (plain_state s) { raster = None })))
              (begun_run printer here item (cond b s (record s { raster = None }))).ending
          by true = begun_comes item u s says
          by false = begun_comes item u (record s { raster = None }) says

  -- ---- controls

  module _ (macros : Store) (inner : Nesting → List Entry → State → Run)
      (inner_leaves : Nesting → List Entry → State → Untouched → Untouched)
      (InnerReads : Field → Nesting → Untouched → List Entry → State → Type 0)
      (inner_comes : (nesting : Nesting) (u : Untouched) (body : List Entry) (s : State) → Says u s →
      Comes (inner_leaves nesting body (plain_state s) u) (λ f. InnerReads f nesting u body (plain_state s)) (inner nesting body s).ending)
      (nesting : Nesting) where
    put_back_comes : (u left : Untouched) (R : Field → Type 0) (s : State) (e : Ending) → Says u s → Comes left R e →
        Comes u R (ending_with s.settings e)
    put_back_comes u left R s (Done t) says c = says
    put_back_comes u left R s (Halts finding) says c = c

    control_body_comes : (control : Option Control) (u : Untouched) (s : State) → Says u s →
        Comes (control_leaves macros inner_leaves nesting control (plain_state s) u)
        (λ f. ControlBodyReads macros (InnerReads f) nesting u control (plain_state s)) (control_body macros inner nesting control s).ending
    control_body_comes (Some Execute) u s says = by (body_of macros s.settings.job.macro_id) refl
      where
        R : Field → Type 0
        R f = ControlBodyReads macros (InnerReads f) nesting u (Some Execute) (plain_state s)

        by : (o : Option (List Entry)) → body_of macros s.settings.job.macro_id ≡ o →
            Comes (found_leaves o u (λ body. inner_leaves (executed_in nesting) body (plain_state s) u)) R
            (found_run o s (λ body. inner (executed_in nesting) body s)).ending
        by None is = says
        by (Some body) is =
            weaken (inner_leaves (executed_in nesting) body (plain_state s) u)
            (λ f. InnerReads f (executed_in nesting) u body (plain_state s)) R (λ f h. (body, is, h))
            (inner (executed_in nesting) body s).ending (inner_comes (executed_in nesting) u body s says)
    control_body_comes (Some Call) u s says = by (body_of macros s.settings.job.macro_id) refl
      where
        R : Field → Type 0
        R f = ControlBodyReads macros (InnerReads f) nesting u (Some Call) (plain_state s)

        by : (o : Option (List Entry)) → body_of macros s.settings.job.macro_id ≡ o →
            Comes u R (found_run o s (λ body. put_back s.settings (inner (called_in nesting) body s))).ending
        by None is = says
        by (Some body) is =
            let left : Untouched = inner_leaves (called_in nesting) body (plain_state s) u in
            put_back_comes u left R s (inner (called_in nesting) body s).ending says
            (weaken left (λ f. InnerReads f (called_in nesting) u body (plain_state s)) R (λ f h. (body, is, h))
            (inner (called_in nesting) body s).ending (inner_comes (called_in nesting) u body s says))
    control_body_comes _ u s says = says

    pub control_comes : (u : Untouched) (n : Amount) (s : State) → Says u s →
        Comes (control_leaves macros inner_leaves nesting (control_of n) (controlled (control_of n) (plain_state s)) u)
        (λ f. ControlReads macros (InnerReads f) nesting u n (plain_state s)) (control_run macros inner nesting n s).ending
    control_comes u n s says =
        let known : Bool = is_some (body_of macros s.settings.job.macro_id) in
        let t : State = controlled (control_of n) s in
        let left : Untouched = control_leaves macros inner_leaves nesting (control_of n) (plain_state t) u in
        let R : Field → Type 0 = λ f. ControlReads macros (InnerReads f) nesting u n (plain_state s) in
        let checks : List Check = control_checks known (is_macro nesting) (control_of n) in
        finding_comes left R (first_finding checks) (followed_by (goes t []) (control_body macros inner nesting (control_of n)))
        (checks_are_set checks (control_checks_set known (is_macro nesting) (control_of n)))
        (λ none. weaken left (λ f. ControlBodyReads macros (InnerReads f) nesting u (control_of n) (plain_state t)) R (λ f h. (none, h))
        (control_body macros inner nesting (control_of n) t).ending (control_body_comes (control_of n) u t says))

  -- ---- items one after another

  module _ (run run' : Entry → State → Run) (leaves : Entry → State → Untouched → Untouched)
      (ReadsIn : Field → Untouched → Entry → State → Type 0)
      (runs_plainly : (item : Entry) (s : State) → IsSet (run item s).ending → run' item (plain_state s) ≡ plain (run item s))
      (each : (item : Entry) (u : Untouched) (s : State) → Says u s →
      Comes (leaves item (plain_state s) u) (λ f. ReadsIn f u item (plain_state s)) (run item s).ending) where
    pub entries_come : (items : List Entry) (u : Untouched) (s : State) → Says u s →
        Comes (entries_leave run' leaves items (plain_state s) u) (λ f. EntriesRead run' leaves (ReadsIn f) u items (plain_state s))
        (entries_run run items s).ending
    entries_come [] u s says = says
    entries_come (item ∷ items) u s says = by (entries_come items left) (run item s).ending refl
      where
        left : Untouched
        left = leaves item (plain_state s) u

        R : Field → Type 0
        R f = EntriesRead run' leaves (ReadsIn f) u (item ∷ items) (plain_state s)

        its : (e : Ending) → (run item s).ending ≡ e → Comes left (λ f. ReadsIn f u item (plain_state s)) e
        its e is = subst (Comes left (λ f. ReadsIn f u item (plain_state s))) is (each item u s says)

        by : ((t : State) → Says left t →
            Comes (entries_leave run' leaves items (plain_state t) left)
            (λ f. EntriesRead run' leaves (ReadsIn f) left items (plain_state t)) (entries_run run items t).ending) →
            (e : Ending) → (run item s).ending ≡ e →
            Comes (left_at left (λ t. entries_leave run' leaves items t left) (run' item (plain_state s)).ending) R
            (onward (run item s).events (run item s).peaks e (entries_run run items)).ending
        by rest (Done t) is =
            let there = plain_done (run item s) (run' item (plain_state s)) (runs_plainly item s) t is in
            subst (λ e. Comes (left_at left (λ v. entries_leave run' leaves items v left) e) R (entries_run run items t).ending) (sym there)
            (weaken (entries_leave run' leaves items (plain_state t) left)
            (λ f. EntriesRead run' leaves (ReadsIn f) left items (plain_state t)) R (λ f h. inr (plain_state t, there, h))
            (entries_run run items t).ending (rest t (its (Done t) is)))
        by rest (Halts finding) is =
            weaken left (λ f. ReadsIn f u item (plain_state s)) R (λ f h. inl h) (Halts finding) (its (Halts finding) is)

  -- ---- bodies, and the closing of a page

  -- where a closing finds nothing unset, the overlay begins with what that reads set, and with all else untouched
  overlay_says : (defaults : Settings) (s : State) → SaysUntouched watched all_untouched defaults →
      first_unset s.settings closing_reads ≡ None → Says untouched_in_overlay (overlay_state defaults s)
  overlay_says defaults s chosen none =
      let set = closing_set s.settings none in
      let begun : Flags = record s.settings.unset {
        vmi = defaults.unset.vmi;
        font = defaults.unset.font;
        line_termination = defaults.unset.line_termination;
      } in
      let f1 : Flags = record begun { size = false } in
      let f2 : Flags = record f1 { orientation = false } in
      let f3 : Flags = record f2 { copies = false } in
      let f4 : Flags = record f3 { sides = false } in
      let f5 : Flags = record f4 { tray = false } in (
        ap (λ b. record begun { size = b }) set.0
            ∙ ap (λ b. record f1 { orientation = b }) set.1
            ∙ ap (λ b. record f2 { copies = b }) set.2
            ∙ ap (λ b. record f3 { sides = b }) set.3
            ∙ ap (λ b. record f4 { tray = b }) set.4
            ∙ ap (λ (f : Flags). record f5 { vmi = f.vmi; font = f.font; line_termination = f.line_termination }) chosen.0,
        chosen.1,
      )

  module _ (printer : Printer) (defaults : Settings) (sound : (item : Entry) → IsSoundItem printer defaults item)
      (parts : AreSoundParts printer) (items : (item : Entry) → LeavesItsUntouched printer item)
      (bytes : (code : ℕ) → ByteSetsNothing printer code) (moves : (to : ℤ × ℤ) → MoveSetsNothing printer to)
      (chosen : SaysUntouched watched all_untouched defaults) where
    module _ (macros : Store) where
      abbrev watching : MacroContext
      watching = with_macros printer defaults macros

      abbrev unwatching : MacroContext
      unwatching = with_macros printer (plain_settings defaults) macros

      module _ (close close' : State → Run) (closing : Field → Untouched → State → Type 0)
          (closes_plainly : (s : State) → IsSet (close s).ending → close' (plain_state s) ≡ plain (close s))
          (closes : (u : Untouched) (s : State) → Says u s → Comes u (λ f. closing f u (plain_state s)) (close s).ending) where
        -- an item, where bodies come so one level deeper
        nested_comes : (inner inner' : Nesting → List Entry → State → Run)
            (inner_leaves : Nesting → List Entry → State → Untouched → Untouched)
            (InnerReads : Field → Nesting → Untouched → List Entry → State → Type 0) →
            ((nesting : Nesting) (body : List Entry) (s : State) → IsSet (inner nesting body s).ending →
            inner' nesting body (plain_state s) ≡ plain (inner nesting body s)) →
            ((nesting : Nesting) (u : Untouched) (body : List Entry) (s : State) → Says u s →
            Comes (inner_leaves nesting body (plain_state s) u) (λ f. InnerReads f nesting u body (plain_state s))
            (inner nesting body s).ending) →
            (nesting : Nesting) (item : Entry) (u : Untouched) (s : State) → Says u s →
            Comes (item_leaves macros inner_leaves nesting item (plain_state s) u)
            (λ f. NestedReads f unwatching (conditions_in unwatching close' nesting inner') (closing f)
            (InnerReads f) nesting u item (plain_state s))
            (item_run printer (conditions_in watching close nesting inner) item s).ending
        nested_comes inner inner' inner_leaves InnerReads inner_plainly inner_comes nesting =
            item_comes printer defaults (fixes_paper nesting) close close' (control_run macros inner nesting)
            (control_run macros inner' nesting) closing (λ f. ControlReads macros (InnerReads f) nesting) closes sound parts closes_plainly
            (control_plainly macros inner inner' inner_plainly nesting) items bytes moves chosen macros inner_leaves nesting
            (control_comes macros inner inner_leaves InnerReads inner_comes nesting)

        -- the same of an item of a body, where it may begin
        macro_comes : (inner inner' : Nesting → List Entry → State → Run)
            (inner_leaves : Nesting → List Entry → State → Untouched → Untouched)
            (InnerReads : Field → Nesting → Untouched → List Entry → State → Type 0) →
            ((nesting : Nesting) (body : List Entry) (s : State) → IsSet (inner nesting body s).ending →
            inner' nesting body (plain_state s) ≡ plain (inner nesting body s)) →
            ((nesting : Nesting) (u : Untouched) (body : List Entry) (s : State) → Says u s →
            Comes (inner_leaves nesting body (plain_state s) u) (λ f. InnerReads f nesting u body (plain_state s))
            (inner nesting body s).ending) →
            (nesting : Nesting) (item : Entry) (u : Untouched) (s : State) → Says u s →
            Comes (macro_item_leaves (item_leaves macros inner_leaves nesting) item (plain_state s) u)
            (λ f.
            MacroItemReads (NestedReads f unwatching (conditions_in unwatching close' nesting inner') (closing f) (InnerReads f) nesting) u
            item (plain_state s))
            (macro_item_run printer (conditions_in watching close nesting inner) item s).ending
        macro_comes inner inner' inner_leaves InnerReads inner_plainly inner_comes nesting item u s says = by (first_finding checks) refl
          where
            checks : List Check
            checks = (spend_item s).checks_before

            begun : State
            begun = (spend_item s).state

            context : Conditions
            context = conditions_in watching close nesting inner

            left : Untouched
            left = item_leaves macros inner_leaves nesting item (plain_state begun) u

            Its : Field → Type 0
            Its f =
                NestedReads f unwatching (conditions_in unwatching close' nesting inner') (closing f)
                (InnerReads f) nesting u item (plain_state begun)

            R : Field → Type 0
            R f =
                MacroItemReads
                (NestedReads f unwatching (conditions_in unwatching close' nesting inner') (closing f) (InnerReads f) nesting) u item
                (plain_state s)

            by : (o : Option Finding) → first_finding checks ≡ o →
                Comes left R (followed_by (effect_run context (fails_or o (Goes begun []))) (item_run printer context item)).ending
            by (Some finding) is = set_comes left R finding (checks_are_set checks refl finding is)
            by None is =
                weaken left Its R (λ f h. (is, h)) (item_run printer context item begun).ending
                (nested_comes inner inner' inner_leaves InnerReads inner_plainly inner_comes nesting item u begun says)

        body_comes : (left level : ℕ) (nesting : Nesting) (u : Untouched) (body : List Entry) (s : State) → Says u s →
            Comes (body_leaves unwatching close' left level nesting body (plain_state s) u)
            (λ f. BodyReads f unwatching close' (closing f) left level nesting u body (plain_state s))
            (body_run watching close left level nesting body s).ending
        body_comes zero level nesting u body s says =
            set_comes u (λ f. BodyReads f unwatching close' (closing f) zero level nesting u body (plain_state s)) MacroDepth tt
        body_comes (suc left) level nesting u body s says =
            let inner : Nesting → List Entry → State → Run = body_run watching close left (suc level) in
            let inner' : Nesting → List Entry → State → Run = body_run unwatching close' left (suc level) in
            let run : Entry → State → Run = macro_item_run printer (conditions_in watching close nesting inner) in
            let leaves : Nesting → List Entry → State → Untouched → Untouched = body_leaves unwatching close' left (suc level) in
            let InnerReads : Field → Nesting → Untouched → List Entry → State → Type 0 =
            λ f. BodyReads f unwatching close' (closing f) left (suc level) in
            let inner_plainly = body_plainly printer defaults sound parts macros close close' closes_plainly left (suc level) in
            let ends : Untouched =
            entries_leave (nested_run unwatching close' left (suc level) nesting)
            (macro_item_leaves (item_leaves macros leaves nesting)) body (plain_state s) u in
            let R : Field → Type 0 = λ f. BodyReads f unwatching close' (closing f) (suc left) level nesting u body (plain_state s) in
            followed_comes ends ends R (entries_run run body s) raster_ended
            (entries_come run (nested_run unwatching close' left (suc level) nesting)
            (macro_item_leaves (item_leaves macros leaves nesting)) (λ f.
            MacroItemReads (NestedReads f unwatching (conditions_in unwatching close' nesting inner') (closing f) (InnerReads f) nesting))
            (macro_plainly printer defaults sound parts macros close close' inner inner' closes_plainly inner_plainly nesting)
            (macro_comes inner inner' leaves InnerReads inner_plainly (body_comes left (suc level)) nesting) body u s says)
            (λ t is at. at)

      -- ---- a page and its overlay

      given_up_comes : (u left : Untouched) (R : Field → Type 0) (s : State) (e : Ending) → Says u s → Comes left R e →
          Comes u R (ending_at s e)
      given_up_comes u left R s (Done t) says c = says
      given_up_comes u left R s (Halts finding) says c = c

      overlay_comes : (u : Untouched) (s : State) → Says u s → first_unset s.settings closing_reads ≡ None →
          Comes u (λ f. OverlayReads f unwatching (plain_state s)) (overlay_run watching s s.settings.job.overlay).ending
      overlay_comes u s says set = by s.settings.job.overlay refl
        where
          R : Field → Type 0
          R f = OverlayReads f unwatching (plain_state s)

          begun : State
          begun = overlay_state defaults s

          run : List Entry → Run
          run body = body_run watching refused printer.depth 1 Overlaid body begun

          in_body : (id : ℕ) → s.settings.job.overlay ≡ Some id → (o : Option (List Entry)) → body_of macros id ≡ o →
              Comes u R (found_run o s (λ body. give_up s (run body))).ending
          in_body id is None none = says
          in_body id is (Some body) found =
              let left : Untouched =
              body_leaves unwatching refused printer.depth 1 Overlaid body (plain_state begun) untouched_in_overlay in
              given_up_comes u left R s (run body).ending says
              (weaken left
              (λ f. BodyReads f unwatching refused (λ v t. ⊥) printer.depth 1 Overlaid untouched_in_overlay body (plain_state begun)) R
              (λ f h. (id, is, body, found, h)) (run body).ending
              (body_comes refused refused (λ f v t. ⊥) (λ t h. refl) (λ v t at. set_comes v (λ f. ⊥) InMacro tt) printer.depth 1 Overlaid
              untouched_in_overlay body begun (overlay_says defaults s chosen set)))

          by : (overlay : Option ℕ) → s.settings.job.overlay ≡ overlay → Comes u R (overlay_run watching s overlay).ending
          by None is = says
          by (Some id) is = in_body id is (body_of macros id) refl

      page_comes : (u : Untouched) (s : State) → Says u s →
          Comes u (λ f. CloseReads f unwatching u (plain_state s)) (page_close watching s).ending
      page_comes u s says =
          finding_comes u R (first_finding depth) (unset_or (first_unset s.settings closing_reads) (followed_by over ended))
          (checks_are_set depth refl) (λ none. by none (first_unset s.settings closing_reads) refl)
        where
          R : Field → Type 0
          R f = CloseReads f unwatching u (plain_state s)

          depth : List Check
          depth = check (is_too_deep printer s) MacroDepth ∷ []

          over : Run
          over = overlay_run watching s s.settings.job.overlay

          by : first_finding depth ≡ None → (o : Option Field) → first_unset s.settings closing_reads ≡ o →
              Comes u R (unset_or o (followed_by over ended)).ending
          by none (Some field) is = λ f e.
              let same : field ≡ f = cc in
              let there = read_there u s closing_reads closing_reads f (refl, λ h. refl) says (is ∙ ap Some same) in
              ((none, inl there.0), there.1)
          by none None is =
              followed_comes u u R over ended
              (weaken u (λ f. OverlayReads f unwatching (plain_state s)) R (λ f h. (none, inr h)) over.ending (overlay_comes u s says is))
              (λ t e at. at)

      -- ---- items of a job

      inside_comes : (nesting : Nesting) (u : Untouched) (body : List Entry) (s : State) → Says u s →
          Comes (body_leaves unwatching (page_close unwatching) printer.depth 1 nesting body (plain_state s) u)
          (λ f. BodyReads f unwatching (page_close unwatching) (CloseReads f unwatching) printer.depth 1 nesting u body (plain_state s))
          (body_run watching (page_close watching) printer.depth 1 nesting body s).ending
      inside_comes =
          body_comes (page_close watching) (page_close unwatching) (λ f. CloseReads f unwatching)
          (page_plainly printer defaults sound parts macros) page_comes printer.depth 1

      carried_comes : (item : Entry) (u : Untouched) (s : State) → Says u s →
          Comes (item_leaves macros (body_leaves unwatching (page_close unwatching) printer.depth 1) Job item (plain_state s) u)
          (λ f. NestedReads f unwatching (in_job unwatching) (CloseReads f unwatching)
          (BodyReads f unwatching (page_close unwatching) (CloseReads f unwatching) printer.depth 1) Job u item (plain_state s))
          (item_run printer (in_job watching) item s).ending
      carried_comes =
          nested_comes (page_close watching) (page_close unwatching) (λ f. CloseReads f unwatching)
          (page_plainly printer defaults sound parts macros) page_comes
          (body_run watching (page_close watching) printer.depth 1) (body_run unwatching (page_close unwatching) printer.depth 1)
          (body_leaves unwatching (page_close unwatching) printer.depth 1)
          (λ f. BodyReads f unwatching (page_close unwatching) (CloseReads f unwatching) printer.depth 1)
          (inside_plainly printer defaults sound parts macros) inside_comes Job

      reset_comes : (u : Untouched) (s : State) → Says u s →
          Comes all_untouched
          (λ f. TransitionReads false (CloseReads f unwatching u) (λ n t. ⊥) f u (plain_state s)
          (reset (plain_settings defaults) (plain_state s)))
          (reset_run (in_job watching) s).ending
      reset_comes u s says =
          let control : Amount → State → Run = control_run macros (body_run watching (page_close watching) printer.depth 1) Job in
          transition_comes printer defaults false (page_close watching) (page_close unwatching) control control
          (λ f. CloseReads f unwatching) (λ f v n t. ⊥) page_comes u all_untouched s (reset defaults s)
          (reset (plain_settings defaults) (plain_state s))
          (sound Reset s) (items Reset watched defaults u s refl chosen says) says

      stored_comes : (item : Entry) (d : Defining) (u : Untouched) (R : Field → Type 0) (s : State) → Says u s →
          Comes u R (defining_run macros item d s).ending
      stored_comes item Refused u R s says = set_comes u R DefinitionOpen tt
      stored_comes item Completed u R s says = says
      stored_comes item Stored u R s says =
          let room : List Check = check (nat_lt macros.limit (stored_bytes macros + length (canon item))) MacroMemory ∷ [] in
          finding_comes u R (first_finding room) (after [] (of_memory (stored_bytes (appended item macros))) (just [] (Done s)))
          (checks_are_set room refl) (λ none. says)

      job_item_comes : (item : Entry) (u : Untouched) (s : State) → Says u s →
          Comes (job_item_leaves unwatching item (plain_state s) u) (λ f. JobItemReads f unwatching u item (plain_state s))
          (job_item_run watching item s).ending
      job_item_comes item u s says = by (is_defining macros) refl
        where
          left : Untouched
          left = item_leaves macros (body_leaves unwatching (page_close unwatching) printer.depth 1) Job item (plain_state s) u

          by : (b : Bool) → is_defining macros ≡ b →
              Comes (cond b u left) (λ f. JobItemReads f unwatching u item (plain_state s))
              (cond b (defining_run macros item (defining_of item) s) (item_run printer (in_job watching) item s)).ending
          by true is = stored_comes item (defining_of item) u (λ f. JobItemReads f unwatching u item (plain_state s)) s says
          by false is =
              weaken left
              (λ f. NestedReads f unwatching (in_job unwatching) (CloseReads f unwatching)
              (BodyReads f unwatching (page_close unwatching) (CloseReads f unwatching) printer.depth 1) Job u item (plain_state s))
              (λ f. JobItemReads f unwatching u item (plain_state s)) (λ f h. (is, h)) (item_run printer (in_job watching) item s).ending
              (carried_comes item u s says)

      job_end_comes : (u : Untouched) (s : State) → Says u s →
          Comes all_untouched (λ f. JobEndReads f unwatching u (plain_state s)) (job_end_run watching s).ending
      job_end_comes u s says = by (is_defining macros) refl
        where
          R : Field → Type 0
          R f = JobEndReads f unwatching u (plain_state s)

          by : (b : Bool) → is_defining macros ≡ b →
              Comes all_untouched R (cond b (just [] (Halts DefinitionOpen)) (reset_run (in_job watching) s)).ending
          by true is = set_comes all_untouched R DefinitionOpen tt
          by false is =
              weaken all_untouched
              (λ f. TransitionReads false (CloseReads f unwatching u) (λ n t. ⊥) f u (plain_state s)
              (reset (plain_settings defaults) (plain_state s)))
              R (λ f h. (is, h)) (reset_run (in_job watching) s).ending (reset_comes u s says)

    -- ---- jobs

    -- a field that is found unset behind so many items is watched, and this holds of it
    abbrev IsFound : (Field → ℕ → Type 0) → ℕ → List ItemRun → Type 0
    IsFound R place runs =
        (field : Field) (before : ℕ) → FindsBehind before place (Unset field) runs → (is_flagged watched field ≡ true) × R field before

    ended_found : (R : Field → ℕ → Type 0) (left : Untouched) (Here : Field → Type 0) (place at : ℕ) (events : List Event) (peaks : Peaks)
        (e : Ending) (next : State → JobRun) → Comes left Here e → ((f : Field) → at ≡ place → Here f → R f zero) →
        ((t : State) → e ≡ Done t → Says left t → IsFound (λ f n. R f (suc n)) place (next t).items) →
        IsFound R place (ended_item at events peaks e next).items
    ended_found R left Here place at events peaks (Done t) next c here there field zero found = absurd cc
    ended_found R left Here place at events peaks (Done t) next c here there field (suc n) found = there t refl c field n found.1
    ended_found R left Here place at events peaks (Halts finding) next c here there field zero found =
        let same : finding ≡ Unset field = cc in
        let its = c field same in
        (its.1, here field found.1 its.0)
    ended_found R left Here place at events peaks (Halts finding) next c here there field (suc n) found = absurd found.1

    items_found : (finally : Store → State → JobRun) (EndReads : Field → ℕ → Store → State → Untouched → Type 0) (place : ℕ) →
        ((macros : Store) (s : State) (u : Untouched) → Says u s →
        IsFound (λ f n. EndReads f n macros (plain_state s) u) place (finally macros s).items) →
        (placed : List Placed) (macros : Store) (s : State) (u : Untouched) → Says u s →
        IsFound (λ f n. ItemsRead f printer (plain_settings defaults) (EndReads f) n place placed macros (plain_state s) u) place
        (items_run printer defaults finally placed macros s).items
    items_found finally EndReads place last [] macros s u says = last macros s u says
    items_found finally EndReads place last (x ∷ placed) macros s u says =
        let r : Run = job_item_run (watching macros) x.item s in
        let r' : Run = job_item_run (unwatching macros) x.item (plain_state s) in
        let next : Store = macros_after s.settings.job.macro_id x.item macros in
        let left : Untouched = job_item_leaves (unwatching macros) x.item (plain_state s) u in
        ended_found (λ f n. ItemsRead f printer (plain_settings defaults) (EndReads f) n place (x ∷ placed) macros (plain_state s) u) left
        (λ f. JobItemReads f (unwatching macros) u x.item (plain_state s)) place x.place r.events r.peaks r.ending
        (items_run printer defaults finally placed next)
        (job_item_comes macros x.item u s says) (λ f at h. (at, h))
        (λ t is at field n found.
        let rest = items_found finally EndReads place last placed next t left at field n found in
        (rest.0, (plain_state t, plain_done r r' (job_item_plainly printer defaults sound parts macros x.item s) t is, rest.1)))

    end_found : (end place : ℕ) (macros : Store) (s : State) (u : Untouched) → Says u s →
        IsFound (λ f n. EndReads f printer (plain_settings defaults) end place n macros (plain_state s) u) place
        (end_run printer defaults end macros s).items
    end_found end place macros s u says =
        let r : Run = job_end_run (watching macros) s in
        ended_found (λ f n. EndReads f printer (plain_settings defaults) end place n macros (plain_state s) u) all_untouched
        (λ f. JobEndReads f (unwatching macros) u (plain_state s)) place end r.events r.peaks r.ending at_end
        (job_end_comes macros u s says) (λ f at h. (at, h)) (λ t is at field n found. absurd found)

    reading_found : (reading : Reading) (place : ℕ) (macros : Store) (s : State) (u : Untouched) → Says u s →
        IsFound (λ f n. ReadingReads f printer (plain_settings defaults) n place reading macros (plain_state s) u) place
        (reading_run printer defaults reading macros s).items
    reading_found (Whole placed end) place macros s u says =
        items_found (end_run printer defaults end) (λ f. EndReads f printer (plain_settings defaults) end place) place
        (end_found end place) placed macros s u says
    reading_found (Stopped placed end cause) place macros s u says =
        items_found no_end (λ f n m t v. ⊥) place (λ m t v h field n found. absurd found) placed macros s u says

-- where a run finds a field unset, the plain run comes to a step that reads it
pub unset_read : ((printer : Printer) (defaults : Settings) (item : Entry) → IsSoundItem printer defaults item) →
    ((printer : Printer) → AreSoundParts printer) → ((printer : Printer) (item : Entry) → LeavesItsUntouched printer item) →
    ((printer : Printer) (code : ℕ) → ByteSetsNothing printer code) → ((printer : Printer) (to : ℤ × ℤ) → MoveSetsNothing printer to) →
    (printer : Printer) (flags : Flags) (panel : Panel) (reading : Reading) → UnsetIsRead printer flags panel reading
unset_read sound parts items bytes moves printer flags panel reading before place field found =
    let defaults : Settings = user_defaults flags panel in
    reading_found flags printer defaults (sound printer defaults) (parts printer) (items printer) (bytes printer) (moves printer)
    (refl, refl) reading place (no_macros printer.memory) (start_state printer.most_items defaults) all_untouched
    (refl, refl) field before found
