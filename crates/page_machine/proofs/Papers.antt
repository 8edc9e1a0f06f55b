-- Where the paper of a page is fixed, its size and orientation stay as they were.
use Rattle.std.proofs.Common.{◌≡◌, ℕ, ℤ, zero, suc, Bool, true, false, cond, ◌&&◌, is_some, List, [], ◌∷◌, refl, sym, ◌∙◌, subst, Option}
use Rattle.std.proofs.Common.{Some, None}
use Rattle.pcl_items.specs.Items.{Entry}
use Rattle.pcl_items.specs.Escapes.Value.{Amount}
use Rattle.device_profile.specs.declared.field.Field.{Field}
use Rattle.device_profile.specs.Printer.{Printer}
use Rattle.macro_store.specs.Store.{Store, body_of}
use Rattle.page_env.specs.declared.finding.Finding.{Finding}
use Rattle.page_env.specs.declared.finding.Finding.TheVariants.{MacroDepth, InMacro}
use Rattle.page_env.specs.declared.macros.Control.{Control}
use Rattle.page_env.specs.declared.macros.Control.TheVariants.{Execute, Call}
use Rattle.page_env.specs.Effect.{check, first_finding, first_unset, TableLine, Effect, Goes, GoesThenCloses, GoesThenEnds, fails_or}
use Rattle.page_env.specs.Effect.{judged, effect_of, Transition, Step, Closes, Ends, Behind, Controls}
use Rattle.page_env.specs.Effect as effect
use Rattle.page_env.specs.Macros.{control_of, control_checks, controlled, overlay_state, spend_item}
use Rattle.page_env.specs.Settings.{Settings, State}
use Rattle.page_env.specs.Sound.{plain_settings, plain_state, IsSound, IsSoundTransition, IsSoundItem}
use Rattle.page_env.specs.Rasters.{begun_by}
use Rattle.page_env.specs.Table.{printed_bytes, coordinates_of, transition_of}
use Rattle.page_env.specs.Pens.{move_pen}
use Rattle.page_env.specs.Text.{print_transparent}
use Rattle.page_machine.specs.declared.nesting.Nesting.{Nesting}
use Rattle.page_machine.specs.declared.nesting.Nesting.TheVariants.{Job, Executed, Called, Overlaid}
use Rattle.page_machine.specs.Event.{Event}
use Rattle.page_machine.specs.Run.{Peaks, Run, just, onward, followed_by, finding_or, unset_or, goes, effect_run, Ending, Done, Halts}
use Rattle.page_machine.specs.Run.{marked_close, close_and_change, transition_run, Conditions, byte_run, printing, move_run, drawing}
use Rattle.page_machine.specs.Run.{own_run, item_run, entries_run}
use Rattle.page_machine.proofs.Parts.{AreSoundParts}
use Rattle.page_machine.specs.Macros.{MacroContext, is_macro, fixes_paper, executed_in, called_in, ending_with, put_back, found_run}
use Rattle.page_machine.specs.Macros.{control_body, control_run, conditions_in, raster_ended, body_run, macro_item_run, closing_reads}
use Rattle.page_machine.specs.Macros.{ended, refused, ending_at, give_up, overlay_run, is_too_deep, page_close}
use Rattle.page_machine.specs.Job.{with_macros}
use Rattle.page_machine.proofs.Cases.{has_begun}
use Rattle.page_machine.proofs.Spending.{spend_is_sound}

-- ---- runs

-- the second state has the paper of the first
abbrev pub SamePaper : State → State → Type 0
SamePaper s t = (t.settings.fields.size ≡ s.settings.fields.size) × (t.settings.fields.orientation ≡ s.settings.fields.orientation)

-- where the run is done, it leaves the paper as it was
abbrev pub Kept : State → Ending → Type 0
Kept s (Done t) = SamePaper s t
Kept s (Halts finding) = Unit {0}

abbrev pub KeepsPaper : State → Run → Type 0
KeepsPaper s r = Kept s r.ending

-- the parts of a run that keep the paper, one after another
kept_on : (s t : State) (e : Ending) → SamePaper s t → Kept t e → Kept s e
kept_on s t (Done u) h k = (k.0 ∙ h.0, k.1 ∙ h.1)
kept_on s t (Halts finding) h k = tt

onward_keeps : (s : State) (events : List Event) (peaks : Peaks) (e : Ending) (next : State → Run) → Kept s e →
    ((t : State) → KeepsPaper t (next t)) → KeepsPaper s (onward events peaks e next)
onward_keeps s events peaks (Done t) next h k = kept_on s t (next t).ending h (k t)
onward_keeps s events peaks (Halts finding) next h k = tt

then_keeps : (s : State) (r : Run) (next : State → Run) → KeepsPaper s r → ((t : State) → KeepsPaper t (next t)) →
    KeepsPaper s (followed_by r next)
then_keeps s r next h k = onward_keeps s r.events r.peaks r.ending next h k

finding_keeps : (s : State) (o : Option Finding) (r : Run) → KeepsPaper s r → KeepsPaper s (finding_or o r)
finding_keeps s (Some finding) r h = tt
finding_keeps s None r h = h

unset_keeps : (s : State) (o : Option Field) (r : Run) → KeepsPaper s r → KeepsPaper s (unset_or o r)
unset_keeps s (Some field) r h = tt
unset_keeps s None r h = h

cond_keeps : (s : State) (b : Bool) (r t : Run) → KeepsPaper s r → KeepsPaper s t → KeepsPaper s (cond b r t)
cond_keeps s true r t h k = h
cond_keeps s false r t h k = k

-- ---- items

module _ (printer : Printer) (defaults : Settings) (fixed : Bool) (is_fixed : fixed ≡ true) (close : State → Run)
    (control : Amount → State → Run) (closes : (s : State) → KeepsPaper s (close s))
    (controls : (n : Amount) (s : State) → KeepsPaper s (control n s)) where
  abbrev here : Conditions
  here = record { defaults = defaults; fixes_paper = fixed; close = close; control = control }

  -- what begins behind a line begins on its page
  behind : (s : State) (line plain : TableLine) (r : Run) → IsSound printer s line plain → KeepsPaper line.state r → KeepsPaper s r
  behind s line plain r sound h = kept_on s line.state r.ending (sound.size, sound.orientation) h

  marked_keeps : (s : State) → KeepsPaper s (marked_close close s)
  marked_keeps s = cond_keeps s s.marked (close s) (just [] (Done s)) (closes s) (refl, refl)

  -- a change that sets the paper comes to a finding, and another leaves it
  change_keeps : (sets b : Bool) → b ≡ true → (s : State) (change : State → State) → (sets ≡ false → (t : State) → SamePaper t (change t)) →
      KeepsPaper s (cond (sets && b) (just [] (Halts InMacro)) (close_and_change here s change))
  change_keeps true true f s change k = tt
  change_keeps true false f s change k = absurd cc
  change_keeps false b f s change k = then_keeps s (marked_close close s) (λ u. just [] (Done (change u))) (marked_keeps s) (k refl)

  -- what comes behind the checks of a line
  parts_keep : (s : State) (before after : Option Finding) (unset : Option Field) (e : Effect) → KeepsPaper s (effect_run here e) →
      KeepsPaper s (effect_run here (fails_or before (effect.unset_or unset (fails_or after e))))
  parts_keep s (Some finding) after unset e h = tt
  parts_keep s None after (Some field) e h = tt
  parts_keep s None (Some finding) None e h = tt
  parts_keep s None None None e h = h

  judged_keeps : (s : State) (line : TableLine) (e : Effect) → KeepsPaper s (effect_run here e) →
      KeepsPaper s (effect_run here (judged s.settings line e))
  judged_keeps s line e h = parts_keep s (first_finding line.checks_before) (first_finding line.checks_after)
      (first_unset s.settings line.reads) e h

  read_keeps : (s : State) (unset : Option Field) (e : Effect) → KeepsPaper s (effect_run here e) →
      KeepsPaper s (effect_run here (effect.unset_or unset e))
  read_keeps s (Some field) e h = tt
  read_keeps s None e h = h

  transition_keeps : (s : State) (m m' : Transition) → IsSoundTransition printer defaults s m m' → KeepsPaper s (transition_run here s m)
  transition_keeps s (Step line) (Step plain) sound = judged_keeps s line (Goes line.state line.marks) (sound.size, sound.orientation)
  transition_keeps s (Closes line sets change) (Closes plain sets' change') sound =
      let e : Effect = GoesThenCloses line.state sets change in
      judged_keeps s line e
      (behind s line plain (effect_run here e) sound.0 (change_keeps sets fixed is_fixed line.state change sound.1.keeps))
  transition_keeps s (Ends line) (Ends plain) sound =
      judged_keeps s line (GoesThenEnds line.state) (behind s line plain (close line.state) sound (closes line.state))
  transition_keeps s (Behind reads m) (Behind reads' m') sound =
      read_keeps s (first_unset s.settings reads) (effect_of s.settings m) (transition_keeps s m m' sound.1)
  transition_keeps s (Controls t n) (Controls plain m) sound = subst (λ u. KeepsPaper s (control n u)) (sym sound.0) (controls n s)
  transition_keeps s _ _ sound = absurd sound

  module _ (sound : (item : Entry) → IsSoundItem printer defaults item) (parts : AreSoundParts printer) where
    own_keeps : (item : Entry) (s : State) → KeepsPaper s (own_run printer here item s)
    own_keeps item s =
        transition_keeps s (transition_of printer defaults s item)
        (transition_of printer (plain_settings defaults) (plain_state s) item) (sound item s)

    byte_keeps : (code : ℕ) (s : State) → KeepsPaper s (byte_run printer here code s)
    byte_keeps code s =
        transition_keeps s (Step (print_transparent printer s code))
        (Step (print_transparent printer (plain_state s) code)) (parts.bytes code s)

    printing_keeps : (s : State) (r : Run) (codes : List ℕ) → KeepsPaper s r → KeepsPaper s (printing printer here r codes)
    printing_keeps s r [] h = h
    printing_keeps s r (code ∷ codes) h =
        printing_keeps s (followed_by r (byte_run printer here code)) codes
        (then_keeps s r (byte_run printer here code) h (byte_keeps code))

    move_keeps : (to : ℤ × ℤ) (s : State) → KeepsPaper s (move_run printer here to s)
    move_keeps to s =
        transition_keeps s (Step (move_pen printer s to)) (Step (move_pen printer (plain_state s) to)) (parts.moves to s)

    drawing_keeps : (s : State) (r : Run) (to : Option (ℤ × ℤ)) → KeepsPaper s r → KeepsPaper s (drawing printer here r to)
    drawing_keeps s r None h = h
    drawing_keeps s r (Some to) h = then_keeps s r (move_run printer here to) h (move_keeps to)

    item_keeps : (item : Entry) (s : State) → KeepsPaper s (item_run printer here item s)
    item_keeps item s =
        let begun : State = begun_by item s in
        let own : Run = own_run printer here item begun in
        drawing_keeps s (printing printer here own (printed_bytes item)) (coordinates_of item)
        (printing_keeps s own (printed_bytes item)
        (kept_on s begun own.ending (has_begun (SamePaper s) item s (refl, refl) (refl, refl)) (own_keeps item begun)))

    -- an item of a macro
    macro_item_keeps : (item : Entry) (s : State) → KeepsPaper s (macro_item_run printer here item s)
    macro_item_keeps item s =
        then_keeps s (transition_run here s (Step (spend_item s))) (item_run printer here item)
        (transition_keeps s (Step (spend_item s)) (Step (spend_item (plain_state s))) (spend_is_sound printer s)) (item_keeps item)

-- ---- controls

-- a call puts the settings back, and the paper among them
put_back_keeps : (s : State) (e : Ending) → Kept s (ending_with s.settings e)
put_back_keeps s (Done t) = (refl, refl)
put_back_keeps s (Halts finding) = tt

-- a body that a control or an overlay finds
found_keeps : (body : Option (List Entry)) (s : State) (run : List Entry → Run) → ((items : List Entry) → KeepsPaper s (run items)) →
    KeepsPaper s (found_run body s run)
found_keeps None s run k = (refl, refl)
found_keeps (Some items) s run k = k items

-- what is executed where the paper is fixed, and what is called anywhere, stands where it is fixed
executed_fixed : (nesting : Nesting) → fixes_paper nesting ≡ true → fixes_paper (executed_in nesting) ≡ true
executed_fixed Job f = absurd cc
executed_fixed Executed f = absurd cc
executed_fixed Called f = refl
executed_fixed Overlaid f = refl

pub called_fixed : (nesting : Nesting) → fixes_paper (called_in nesting) ≡ true
called_fixed Job = refl
called_fixed Executed = refl
called_fixed Called = refl
called_fixed Overlaid = refl

module _ (macros : Store) (inner : Nesting → List Entry → State → Run)
    (p : (nesting : Nesting) → fixes_paper nesting ≡ true → (items : List Entry) (s : State) → KeepsPaper s (inner nesting items s))
    (nesting : Nesting) (f : fixes_paper nesting ≡ true) where
  -- what a control does after its own step
  control_body_keeps : (control : Option Control) (s : State) → KeepsPaper s (control_body macros inner nesting control s)
  control_body_keeps (Some Execute) s =
      found_keeps (body_of macros s.settings.job.macro_id) s (λ body. inner (executed_in nesting) body s)
      (λ body. p (executed_in nesting) (executed_fixed nesting f) body s)
  control_body_keeps (Some Call) s =
      found_keeps (body_of macros s.settings.job.macro_id) s (λ body. put_back s.settings (inner (called_in nesting) body s))
      (λ body. put_back_keeps s (inner (called_in nesting) body s).ending)
  control_body_keeps _ s = (refl, refl)

  control_keeps : (n : Amount) (s : State) → KeepsPaper s (control_run macros inner nesting n s)
  control_keeps n s =
      let known : Bool = is_some (body_of macros s.settings.job.macro_id) in
      let t : State = controlled (control_of n) s in
      let next : State → Run = control_body macros inner nesting (control_of n) in
      finding_keeps s (first_finding (control_checks known (is_macro nesting) (control_of n))) (followed_by (goes t []) next)
      (then_keeps s (goes t []) next (refl, refl) (control_body_keeps (control_of n)))

-- ---- bodies, and the closing of a page

-- items one after another
entries_keep : (run : Entry → State → Run) → ((item : Entry) (s : State) → KeepsPaper s (run item s)) → (items : List Entry) (s : State) →
    KeepsPaper s (entries_run run items s)
entries_keep run p [] s = (refl, refl)
entries_keep run p (item ∷ items) s = then_keeps s (run item s) (entries_run run items) (p item s) (entries_keep run p items)

-- what an overlay did is given up
give_up_keeps : (s : State) (e : Ending) → Kept s (ending_at s e)
give_up_keeps s (Done t) = (refl, refl)
give_up_keeps s (Halts finding) = tt

module _ (printer : Printer) (defaults : Settings) (sound : (item : Entry) → IsSoundItem printer defaults item)
    (parts : AreSoundParts printer) (macros : Store) where
  abbrev the_context : MacroContext
  the_context = with_macros printer defaults macros

  pub body_keeps : (close : State → Run) → ((s : State) → KeepsPaper s (close s)) → (left level : ℕ) (nesting : Nesting) →
      fixes_paper nesting ≡ true → (items : List Entry) (s : State) → KeepsPaper s (body_run the_context close left level nesting items s)
  body_keeps close closes zero level nesting f items s = tt
  body_keeps close closes (suc left) level nesting f items s =
      let inner : Nesting → List Entry → State → Run = body_run the_context close left (suc level) in
      let run : Entry → State → Run = macro_item_run printer (conditions_in the_context close nesting inner) in
      then_keeps s (entries_run run items s) raster_ended
      (entries_keep run
      (macro_item_keeps printer defaults (fixes_paper nesting) f close (control_run macros inner nesting) closes
      (control_keeps macros inner (body_keeps close closes left (suc level)) nesting f) sound parts)
      items s)
      (λ t. (refl, refl))

  -- a page and its overlay
  overlay_keeps : (s : State) (overlay : Option ℕ) → KeepsPaper s (overlay_run the_context s overlay)
  overlay_keeps s None = (refl, refl)
  overlay_keeps s (Some id) =
      let run : List Entry → Run = λ body. body_run the_context refused printer.depth 1 Overlaid body (overlay_state defaults s) in
      found_keeps (body_of macros id) s (λ body. give_up s (run body)) (λ body. give_up_keeps s (run body).ending)

  pub page_keeps : (s : State) → KeepsPaper s (page_close the_context s)
  page_keeps s =
      let over : Run = overlay_run the_context s s.settings.job.overlay in
      finding_keeps s (first_finding (check (is_too_deep printer s) MacroDepth ∷ []))
      (unset_or (first_unset s.settings closing_reads) (followed_by over ended))
      (unset_keeps s (first_unset s.settings closing_reads) (followed_by over ended)
      (then_keeps s over ended (overlay_keeps s s.settings.job.overlay) (λ t. (refl, refl))))
