-- On printers that are alike but for the device an item runs the same.
use Rattle.std.proofs.Common.{◌≡◌, ℕ, ℤ, Bool, true, false, ◌&&◌, ◌==◌, cond, is_some, List, [], ◌∷◌, Option, Some, None, refl, ap, sym}
use Rattle.std.proofs.Common.{◌∙◌}
use Rattle.std.proofs.lemmas.Bool.{false≢true}
use Rattle.macro_store.specs.Store.{Store, cleared}
use Rattle.pcl_items.specs.declared.pcl.command.Command.{Command}
use Rattle.pcl_items.specs.declared.pcl.command.Command.TheVariants.{MacroControl}
use Rattle.pcl_items.specs.Items.{Entry, ExitLanguage, Parameterized, Reset}
use Rattle.pcl_items.specs.Escapes.Value.{Amount}
use Rattle.device_profile.specs.declared.field.Field.{Field}
use Rattle.device_profile.specs.Likeness.{IsLike}
use Rattle.device_profile.specs.Printer.{Printer}
use Rattle.page_env.specs.declared.finding.Finding.{Finding}
use Rattle.page_env.specs.declared.finding.Finding.TheVariants.{InMacro, MacroDepth}
use Rattle.page_env.specs.Effect.{Effect, Goes, GoesThenCloses, GoesThenEnds, Controlling, Fails, check, effect_of, fails_or, first_finding}
use Rattle.page_env.specs.Effect.{first_unset, judged, TableLine, Transition, Step, Closes, Ends, Behind, Controls}
use Rattle.page_env.specs.Effect as effect
use Rattle.page_env.specs.Likeness.{asks_alike, command_asks_alike, HasNoOverlay, ClosesWithout, GoesOnBoth, GoesOnLike, ByteGoesOnLike}
use Rattle.page_env.specs.Likeness.{MoveGoesOnLike}
use Rattle.page_env.specs.Pens.{move_pen}
use Rattle.page_env.specs.Rasters.{begun_by, is_of_raster}
use Rattle.page_env.specs.Settings.{Settings, State}
use Rattle.page_env.specs.Table.{coordinates_of, printed_bytes, transition_of}
use Rattle.page_env.specs.Text.{print_transparent}
use Rattle.page_machine.specs.Run.{Run, just, after, Done, Halts, peaks_of, onward, followed_by, finding_or, unset_or, Conditions}
use Rattle.page_machine.specs.Run.{effect_run, item_run, transition_run, byte_run, printing, move_run, drawing, own_run}
use Rattle.page_machine.specs.Macros.{MacroContext, closing_reads, ended, in_job, overlay_run, page_close}
use Rattle.page_machine.specs.Defining.{carried_after, defined_after, defining_of, defining_run, job_item_run, macros_after}
use Rattle.page_machine.specs.Likeness.{LeavesStore, RunsOnLike}
use Rattle.page_machine.specs.PlainMacros.{context_for}

-- ---- effects

-- no overlay is enabled where an effect closes the page
abbrev EndsWithout : Effect → Type 0
EndsWithout (Goes s marks) = Unit {0}
EndsWithout (GoesThenCloses s sets_paper change) = HasNoOverlay s
EndsWithout (GoesThenEnds s) = HasNoOverlay s
EndsWithout (Controlling s n) = ⊥
EndsWithout (Fails finding) = Unit {0}

fails_without : (found : Option Finding) (e : Effect) → EndsWithout e → EndsWithout (fails_or found e)
fails_without (Some finding) e h = tt
fails_without None e h = h

unset_without : (unset : Option Field) (e : Effect) → EndsWithout e → EndsWithout (effect.unset_or unset e)
unset_without (Some field) e h = tt
unset_without None e h = h

judged_without : (settings : Settings) (line : TableLine) (e : Effect) → EndsWithout e → EndsWithout (judged settings line e)
judged_without settings line e h =
    fails_without (first_finding line.checks_before) _
    (unset_without (first_unset settings line.reads) _ (fails_without (first_finding line.checks_after) e h))

effect_without : (settings : Settings) (t : Transition) → ClosesWithout t → EndsWithout (effect_of settings t)
effect_without settings (Step line) h = judged_without settings line (Goes line.state line.marks) tt
effect_without settings (Closes line sets_paper change) h = judged_without settings line (GoesThenCloses line.state sets_paper change) h
effect_without settings (Ends line) h = judged_without settings line (GoesThenEnds line.state) h
effect_without settings (Behind reads t) h = unset_without (first_unset settings reads) (effect_of settings t) (effect_without settings t h)
effect_without settings (Controls s n) h = absurd h

-- a run, and behind it runs that are the same from each state
pub followed_same : (r : Run) (f g : State → Run) → ((s : State) → f s ≡ g s) → followed_by r f ≡ followed_by r g
followed_same r f g h = by r.ending
  where
    by : (ending : _) → onward r.events r.peaks ending f ≡ onward r.events r.peaks ending g
    by (Done s) = ap (after r.events r.peaks) (h s)
    by (Halts finding) = refl

-- a raster that ends leaves the overlay as it is
begun_without : (item : Entry) (s : State) → HasNoOverlay s → HasNoOverlay (begun_by item s)
begun_without item s h = by (is_of_raster item)
  where
    by : (b : Bool) → HasNoOverlay (cond b s (record s { raster = None }))
    by true = h
    by false = h

-- ---- on both

module _ (p q : Printer) (defaults : Settings) (own other : Store) where
  abbrev there : Conditions
  there = in_job (context_for q defaults other)

  abbrev here : Conditions
  here = in_job (context_for p defaults own)

  close_same : (s : State) → HasNoOverlay s → page_close (context_for q defaults other) s ≡ page_close (context_for p defaults own) s
  close_same s e = ap (closes (context_for q defaults other)) e ∙ sym (ap (closes (context_for p defaults own)) e)
    where
      closes : MacroContext → Option ℕ → Run
      closes context overlay =
          finding_or (first_finding (check (is_some overlay && (context.printer.depth == 0)) MacroDepth ∷ []))
          (unset_or (first_unset s.settings closing_reads) (followed_by (overlay_run context s overlay) ended))

  effect_same : (e : Effect) → EndsWithout e → effect_run there e ≡ effect_run here e
  effect_same (Goes s marks) h = refl
  effect_same (GoesThenCloses s sets_paper change) h =
      ap
      (λ (r : Run). cond (sets_paper && false) (just [] (Halts InMacro))
      (after [] (peaks_of s) (followed_by (cond s.marked r (just [] (Done s))) (λ t. just [] (Done (change t))))))
      (close_same s h)
  effect_same (GoesThenEnds s) h = ap (after [] (peaks_of s)) (close_same s h)
  effect_same (Controlling s n) h = absurd h
  effect_same (Fails finding) h = refl

  transition_same : (s : State) (t : Transition) → ClosesWithout t → transition_run there s t ≡ transition_run here s t
  transition_same s t h = effect_same (effect_of s.settings t) (effect_without s.settings t h)

  module _ (like : IsLike p q) (bytes : (code : ℕ) → ByteGoesOnLike code) (moves : (to : ℤ × ℤ) → MoveGoesOnLike to) where
    byte_same : (code : ℕ) (s : State) → byte_run q there code s ≡ byte_run p here code s
    byte_same code s =
        ap (λ line. transition_run there s (Step line)) (bytes code p q like s) ∙ transition_same s (Step (print_transparent p s code)) tt

    printing_same : (codes : List ℕ) (r : Run) → printing q there r codes ≡ printing p here r codes
    printing_same [] r = refl
    printing_same (code ∷ codes) r =
        ap (λ n. printing q there n codes) (followed_same r (byte_run q there code) (byte_run p here code) (byte_same code))
        ∙ printing_same codes (followed_by r (byte_run p here code))

    move_same : (to : ℤ × ℤ) (s : State) → move_run q there to s ≡ move_run p here to s
    move_same to s = ap (λ line. transition_run there s (Step line)) (moves to p q like s) ∙ transition_same s (Step (move_pen p s to)) tt

    drawing_same : (to : Option (ℤ × ℤ)) (r : Run) → drawing q there r to ≡ drawing p here r to
    drawing_same None r = refl
    drawing_same (Some to) r = followed_same r (move_run q there to) (move_run p here to) (move_same to)

    begun_same : (item : Entry) → GoesOnBoth p q defaults item → (s : State) → HasNoOverlay s →
        drawing q there (printing q there (own_run q there item s) (printed_bytes item)) (coordinates_of item)
        ≡ drawing p here (printing p here (own_run p here item s) (printed_bytes item)) (coordinates_of item)
    begun_same item goes s h =
        let own : own_run q there item s ≡ own_run p here item s =
        ap (transition_run there s) (goes.same s) ∙ transition_same s (transition_of p defaults s item) (goes.bare s h) in
        ap (λ r. drawing q there (printing q there r (printed_bytes item)) (coordinates_of item)) own
        ∙ ap (λ r. drawing q there r (coordinates_of item)) (printing_same (printed_bytes item) (own_run p here item s))
        ∙ drawing_same (coordinates_of item) (printing p here (own_run p here item s) (printed_bytes item))

-- ---- the macros

command_leaves : (p q : Printer) (command : Command) (n : Amount) → command_asks_alike p q command n ≡ true → (id : ℕ) (store : Store) →
    carried_after id (Parameterized command n) store ≡ store
command_leaves p q MacroControl n e id store = absurd (false≢true e)
command_leaves p q _ n e id store = refl

-- a reset where no macro is known
cleared_is : (store : Store) → store.bodies ≡ [] → cleared store ≡ store
cleared_is store none = λ i. record store { bodies = sym none i }

item_leaves : (p q : Printer) (item : Entry) → asks_alike p q item ≡ true → (id : ℕ) (store : Store) → LeavesStore item store →
    carried_after id item store ≡ store
item_leaves p q (Parameterized command n) e id store leaves = command_leaves p q command n e id store
item_leaves p q Reset e id store leaves = cleared_is store (leaves refl)
item_leaves p q ExitLanguage e id store leaves = cleared_is store (leaves refl)
item_leaves p q _ e id store leaves = refl

leaves_macros : (p q : Printer) (item : Entry) → asks_alike p q item ≡ true → (id : ℕ) (store : Store) → store.definition ≡ None →
    LeavesStore item store → macros_after id item store ≡ store
leaves_macros p q item e id store none leaves =
    ap (λ d. cond (is_some d) (defined_after item (defining_of item) store) (carried_after id item store)) none
    ∙ item_leaves p q item e id store leaves

-- where no definition is open an item is carried out
pub carried_out : (context : MacroContext) (item : Entry) (s : State) → context.macros.definition ≡ None →
    job_item_run context item s ≡ item_run context.printer (in_job context) item s
carried_out context item s none =
    ap
    (λ d. cond (is_some d) (defining_run context.macros item (defining_of item) s)
    (item_run context.printer (in_job context) item s))
    none

pub runs_on_both : ((item : Entry) → GoesOnLike item) → ((code : ℕ) → ByteGoesOnLike code) → ((to : ℤ × ℤ) → MoveGoesOnLike to) →
    (item : Entry) → RunsOnLike item
runs_on_both items bytes moves item p q like asks = record {
  same =
      λ defaults own other s none none' h.
      carried_out (context_for q defaults other) item s none'
      ∙ begun_same p q defaults own other like bytes moves item (items item p q defaults like asks) (begun_by item s)
      (begun_without item s h)
      ∙ sym (carried_out (context_for p defaults own) item s none);
  macros = leaves_macros p q item asks;
}
