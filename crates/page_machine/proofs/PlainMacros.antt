-- Macros whose items are one step each run the same on printers that are alike but for the device.
use Rattle.std.proofs.Common.{◌≡◌, ◌⊎◌, inl, inr, ℕ, zero, suc, Bool, true, false, cond, not, is_some, List, [], ◌∷◌, Option, Some, None}
use Rattle.std.proofs.Common.{refl, ap, sym, ◌∙◌}
use Rattle.std.specs.Prelude.{◌≢◌}
use Rattle.pcl_items.specs.declared.pcl.command.Command.{Command}
use Rattle.pcl_items.specs.declared.pcl.command.Command.TheVariants.{MacroControl, Orientation, PageSize, Sides, Source}
use Rattle.pcl_items.specs.Items.{Entry, Parameterized, Text}
use Rattle.pcl_items.specs.Escapes.Value.{Amount}
use Rattle.device_profile.specs.declared.field.Field.{Field}
use Rattle.device_profile.specs.Likeness.{IsLike}
use Rattle.device_profile.specs.Printer.{Printer}
use Rattle.macro_store.specs.Store.{Store, body_of}
use Rattle.page_env.specs.declared.finding.Finding.{Finding}
use Rattle.page_env.specs.declared.finding.Finding.TheVariants.{NoMacro}
use Rattle.page_env.specs.declared.macros.Control.{Control}
use Rattle.page_env.specs.declared.macros.Control.TheVariants.{Execute, Call}
use Rattle.page_env.specs.Effect.{Behind, Closes, Controls, Effect, Ends, Goes, Step, TableLine, Transition, check, effect_of, fails_or}
use Rattle.page_env.specs.Effect.{first_finding, first_unset}
use Rattle.page_env.specs.Effect as effect
use Rattle.page_env.specs.Likeness.{GoesOnLike, asks_alike, command_asks_alike}
use Rattle.page_env.specs.Macros.{control_checks, control_of, controlled, spend_item}
use Rattle.page_env.specs.Rasters.{begun_by}
use Rattle.page_env.specs.Settings.{Settings, State}
use Rattle.page_env.specs.Table.{command_transition, transition_of}
use Rattle.page_machine.specs.declared.nesting.Nesting.{Nesting}
use Rattle.page_machine.specs.declared.nesting.Nesting.TheVariants.{Called, Executed, Job}
use Rattle.page_machine.specs.Defining.{carried_after, controlled_after, defined_after, defining_of, defining_run, job_item_run}
use Rattle.page_machine.specs.Macros.{MacroContext, at_level, body_run, close_in, conditions_in, control_body, control_run, found_run}
use Rattle.page_machine.specs.Macros.{in_job, is_macro, macro_item_run, put_back, raster_ended}
use Rattle.page_machine.specs.PlainMacros.{ArePlain, HasBody, IsPlain, IsRunning, LeavesEach, RunsPlainAlike, context_for, is_plain}
use Rattle.page_machine.specs.PlainMacros.{runs_body}
use Rattle.page_machine.specs.Run.{Conditions, Run, after, effect_run, entries_run, finding_or, followed_by, goes, item_run, own_run}
use Rattle.page_machine.specs.Run.{transition_run}
use Rattle.page_machine.specs.Still.{may_close}
use Rattle.page_machine.proofs.LikePrinters.{followed_same}

-- ---- what is plain

not_true : (b : Bool) → not b ≡ true → b ≡ false
not_true true e = sym e
not_true false e = refl

pub plain_is : (item : Entry) → is_plain item ≡ true → IsPlain item
plain_is (Text code) e = tt
plain_is (Parameterized command n) e = not_true (may_close command) e
plain_is _ e = absurd cc

-- a control that executes a macro or calls it
abbrev RunsBody : Amount → Type 0
RunsBody n = (control_of n ≡ Some Execute) ⊎ (control_of n ≡ Some Call)

runs_is : (control : Option Control) → runs_body control ≡ true → (control ≡ Some Execute) ⊎ (control ≡ Some Call)
runs_is (Some Execute) e = inl refl
runs_is (Some Call) e = inr refl
runs_is _ e = absurd cc

-- ---- a step runs the same under any conditions: it goes or fails

-- a transition that is no more than a step
abbrev IsStep : Transition → Type 0
IsStep (Step line) = Unit {0}
IsStep _ = ⊥

is_step : (printer : Printer) (defaults : Settings) (s : State) (command : Command) (n : Amount) → may_close command ≡ false →
    IsStep (command_transition printer defaults s command n)
is_step printer defaults s Sides n h = let both : true ≡ false = h in absurd cc
is_step printer defaults s Source n h = let both : true ≡ false = h in absurd cc
is_step printer defaults s PageSize n h = let both : true ≡ false = h in absurd cc
is_step printer defaults s Orientation n h = let both : true ≡ false = h in absurd cc
is_step printer defaults s MacroControl n h = let both : true ≡ false = h in absurd cc
is_step printer defaults s _ n h = tt

module _ (c c' : Conditions) where
  fails_any : (found : Option Finding) (e : Effect) → effect_run c e ≡ effect_run c' e →
      effect_run c (fails_or found e) ≡ effect_run c' (fails_or found e)
  fails_any (Some finding) e h = refl
  fails_any None e h = h

  unset_any : (unset : Option Field) (e : Effect) → effect_run c e ≡ effect_run c' e →
      effect_run c (effect.unset_or unset e) ≡ effect_run c' (effect.unset_or unset e)
  unset_any (Some field) e h = refl
  unset_any None e h = h

  step_any : (settings : Settings) (line : TableLine) →
      effect_run c (effect_of settings (Step line)) ≡ effect_run c' (effect_of settings (Step line))
  step_any settings line =
      let went : Effect = Goes line.state line.marks in
      let checked : Effect = fails_or (first_finding line.checks_after) went in
      fails_any (first_finding line.checks_before) (effect.unset_or (first_unset settings line.reads) checked)
      (unset_any (first_unset settings line.reads) checked (fails_any (first_finding line.checks_after) went refl))

  transition_any : (settings : Settings) (t : Transition) → IsStep t →
      effect_run c (effect_of settings t) ≡ effect_run c' (effect_of settings t)
  transition_any settings (Step line) h = step_any settings line
  transition_any settings (Closes line sets_paper change) h = absurd h
  transition_any settings (Ends line) h = absurd h
  transition_any settings (Behind reads t) h = absurd h
  transition_any settings (Controls s n) h = absurd h

  plain_any : (printer : Printer) (defaults : Settings) (s : State) (item : Entry) → IsPlain item →
      effect_run c (effect_of s.settings (transition_of printer defaults s item))
      ≡ effect_run c' (effect_of s.settings (transition_of printer defaults s item))
  plain_any printer defaults s (Text code) h = transition_any s.settings (transition_of printer defaults s (Text code)) tt
  plain_any printer defaults s (Parameterized command n) h =
      transition_any s.settings (command_transition printer defaults s command n) (is_step printer defaults s command n h)
  plain_any printer defaults s _ h = absurd h

-- such an item is its own step
own_alone : (printer : Printer) (c : Conditions) (item : Entry) (s : State) → IsPlain item →
    item_run printer c item s ≡ own_run printer c item (begun_by item s)
own_alone printer c (Text code) s h = refl
own_alone printer c (Parameterized command n) s h = refl
own_alone printer c _ s h = absurd h

-- and asks nothing of the device
command_asks : (p q : Printer) (command : Command) (n : Amount) → may_close command ≡ false → command_asks_alike p q command n ≡ true
command_asks p q Sides n h = let both : true ≡ false = h in absurd cc
command_asks p q Source n h = let both : true ≡ false = h in absurd cc
command_asks p q MacroControl n h = let both : true ≡ false = h in absurd cc
command_asks p q _ n h = refl

plain_asks : (p q : Printer) (item : Entry) → IsPlain item → asks_alike p q item ≡ true
plain_asks p q (Text code) h = refl
plain_asks p q (Parameterized command n) h = command_asks p q command n h
plain_asks p q _ h = absurd h

-- ---- on both printers, from the same user defaults

module _ (items : (item : Entry) → GoesOnLike item) (p q : Printer) (like : IsLike p q) where
  module _ (here there : Conditions) (same : there.defaults ≡ here.defaults) where
    item_same : (item : Entry) → IsPlain item → (s : State) → item_run q there item s ≡ item_run p here item s
    item_same item h s =
        let begun : State = begun_by item s in
        own_alone q there item s h
        ∙ ap (λ d. transition_run there begun (transition_of q d begun item)) same
        ∙ ap (transition_run there begun) ((items item p q here.defaults like (plain_asks p q item h)).same begun)
        ∙ plain_any there here p here.defaults begun item h
        ∙ sym (own_alone p here item s h)

    macro_item_same : (item : Entry) → IsPlain item → (s : State) → macro_item_run q there item s ≡ macro_item_run p here item s
    macro_item_same item h s =
        ap (λ r. followed_by r (item_run q there item)) (step_any there here s.settings (spend_item s))
        ∙ followed_same (transition_run here s (Step (spend_item s))) (item_run q there item) (item_run p here item) (item_same item h)

    entries_same : (body : List Entry) → ArePlain body → (s : State) →
        entries_run (macro_item_run q there) body s ≡ entries_run (macro_item_run p here) body s
    entries_same [] h s = refl
    entries_same (item ∷ body) h s =
        ap (λ r. followed_by r (entries_run (macro_item_run q there) body)) (macro_item_same item h.0 s)
        ∙ followed_same (macro_item_run p here item s) (entries_run (macro_item_run q there) body)
        (entries_run (macro_item_run p here) body) (entries_same body h.1)

  module _ (defaults : Settings) (own other : Store) where
    abbrev at_home : MacroContext
    at_home = context_for p defaults own

    abbrev away : MacroContext
    away = context_for q defaults other

    -- a body at a level, where both have levels left
    body_same : (close close' : State → Run) (left left' level : ℕ) (nesting : Nesting) (body : List Entry) → ArePlain body →
        left ≢ 0 → left' ≢ 0 → (s : State) →
        body_run away close' left' level nesting body s ≡ body_run at_home close left level nesting body s
    body_same close close' zero left' level nesting body h some some' s = absurd (some refl)
    body_same close close' (suc left) zero level nesting body h some some' s = absurd (some' refl)
    body_same close close' (suc left) (suc left') level nesting body h some some' s =
        ap (λ r. after [] (at_level level) (followed_by r raster_ended))
        (entries_same (conditions_in at_home close nesting (body_run at_home close left (suc level)))
        (conditions_in away close' nesting (body_run away close' left' (suc level))) refl body h s)

    -- what runs a body from the job
    abbrev inner_home : Nesting → List Entry → State → Run
    inner_home = body_run at_home (close_in at_home Job) p.depth 1

    abbrev inner_away : Nesting → List Entry → State → Run
    inner_away = body_run away (close_in away Job) q.depth 1

    module _ (n : Amount) (s : State) (body : List Entry) (plain : ArePlain body) (has : HasBody own s.settings.job.macro_id body)
        (has' : HasBody other s.settings.job.macro_id body) (some : p.depth ≢ 0) (some' : q.depth ≢ 0) where
      inner_same : (nesting : Nesting) (t : State) → inner_away nesting body t ≡ inner_home nesting body t
      inner_same nesting t = body_same (close_in at_home Job) (close_in away Job) p.depth q.depth 1 nesting body plain some some' t

      -- a control, where it is this one
      abbrev run_by : Store → (Nesting → List Entry → State → Run) → Option Control → State → Run
      run_by macros inner control u =
          finding_or (first_finding (control_checks (is_some (body_of macros u.settings.job.macro_id)) (is_macro Job) control))
          (followed_by (goes (controlled control u) []) (control_body macros inner Job control))

      -- what it runs, where its macro has this body or none
      abbrev executes : (Nesting → List Entry → State → Run) → State → Option (List Entry) → Run
      executes inner u found =
          finding_or (first_finding (check (not (is_some found)) NoMacro ∷ []))
          (followed_by (goes u []) (λ t. found_run found t (λ b. inner Executed b t)))

      abbrev calls : (Nesting → List Entry → State → Run) → State → Option (List Entry) → Run
      calls inner u found =
          finding_or (first_finding (check (not (is_some found)) NoMacro ∷ []))
          (followed_by (goes u []) (λ t. found_run found t (λ b. put_back t.settings (inner Called b t))))

      abbrev begun : State
      begun = record s { raster = None }

      executed_same : run_by other inner_away (Some Execute) begun ≡ run_by own inner_home (Some Execute) begun
      executed_same =
          ap (executes inner_away begun) has'.body_is
          ∙ ap (λ r. followed_by (goes begun []) (λ t. r)) (inner_same Executed begun)
          ∙ ap (executes inner_home begun) (sym has.body_is)

      called_same : run_by other inner_away (Some Call) begun ≡ run_by own inner_home (Some Call) begun
      called_same =
          ap (calls inner_away begun) has'.body_is
          ∙ ap (λ r. followed_by (goes begun []) (λ t. put_back begun.settings r)) (inner_same Called begun)
          ∙ ap (calls inner_home begun) (sym has.body_is)

      control_same : RunsBody n → control_run other inner_away Job n begun ≡ control_run own inner_home Job n begun
      control_same (inl is) =
          ap (λ k. run_by other inner_away k begun) is ∙ executed_same ∙ ap (λ k. run_by own inner_home k begun) (sym is)
      control_same (inr is) =
          ap (λ k. run_by other inner_away k begun) is ∙ called_same ∙ ap (λ k. run_by own inner_home k begun) (sym is)

      abbrev control : Entry
      control = Parameterized MacroControl n

      -- where no definition is open it is carried out
      carried : (context : MacroContext) → context.macros.definition ≡ None →
          job_item_run context control s ≡ item_run context.printer (in_job context) control s
      carried context none =
          ap
          (λ d. cond (is_some d) (defining_run context.macros control (defining_of control) s)
          (item_run context.printer (in_job context) control s))
          none

      run_same : RunsBody n → job_item_run away control s ≡ job_item_run at_home control s
      run_same runs = carried away has'.no_definition ∙ control_same runs ∙ sym (carried at_home has.no_definition)

module _ (items : (item : Entry) → GoesOnLike item) (p q : Printer) (defaults : Settings) (own other : Store) (s : State)
    (body : List Entry) (like : IsLike p q) (plain : ArePlain body) (has : HasBody own s.settings.job.macro_id body)
    (has' : HasBody other s.settings.job.macro_id body) (some : p.depth ≢ 0) (some' : q.depth ≢ 0) where
  abbrev RunsSame : Entry → Type 0
  RunsSame item = job_item_run (context_for q defaults other) item s ≡ job_item_run (context_for p defaults own) item s

  command_alike : (command : Command) (n : Amount) → IsRunning (Parameterized command n) → RunsSame (Parameterized command n)
  command_alike MacroControl n runs =
      run_same items p q like defaults own other n s body plain has has' some some' (runs_is (control_of n) runs)
  command_alike _ n runs = absurd cc

  item_alike : (item : Entry) → IsRunning item → RunsSame item
  item_alike (Parameterized command n) runs = command_alike command n runs
  item_alike _ runs = absurd cc

pub plain_alike : ((item : Entry) → GoesOnLike item) → RunsPlainAlike
plain_alike items p q defaults own other item s body like runs plain has has' some some' =
    item_alike items p q defaults own other s body like plain has has' some some' item runs

-- ---- the macros

control_leaves : (id : ℕ) (store : Store) (control : Option Control) → runs_body control ≡ true → controlled_after id control store ≡ store
control_leaves id store (Some Execute) runs = refl
control_leaves id store (Some Call) runs = refl
control_leaves id store _ runs = absurd cc

command_leaves : (id : ℕ) (store : Store) (command : Command) (n : Amount) → IsRunning (Parameterized command n) →
    carried_after id (Parameterized command n) store ≡ store
command_leaves id store MacroControl n runs = control_leaves id store (control_of n) runs
command_leaves id store _ n runs = absurd cc

item_leaves : (id : ℕ) (store : Store) (item : Entry) → IsRunning item → carried_after id item store ≡ store
item_leaves id store (Parameterized command n) runs = command_leaves id store command n runs
item_leaves id store _ runs = absurd cc

pub leaves_each : LeavesEach
leaves_each item id store runs none =
    ap (λ d. cond (is_some d) (defined_after item (defining_of item) store) (carried_after id item store)) none
    ∙ item_leaves id store item runs
