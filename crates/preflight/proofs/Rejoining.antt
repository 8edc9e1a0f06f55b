-- Machines of a fleet that each executed an item by itself, and stand alike again.
use Rattle.std.proofs.Common.{◌≡◌, ◌⊎◌, inl, inr, ◌+◌, ℕ, Bool, true, false, cond, is_some, Option, Some, None, List, [], ◌∷◌, length, map}
use Rattle.std.proofs.Common.{unwrap_or, refl, ap, sym, ◌∙◌, subst}
use Rattle.std.specs.Prelude.{◌≢◌, nat_lt}
use Rattle.std.specs.List.{AllByRecursion}
use Rattle.pcl_items.specs.declared.pcl.command.Command.{Command}
use Rattle.pcl_items.specs.declared.pcl.command.Command.TheVariants.{MacroControl}
use Rattle.pcl_items.specs.Escapes.Value.{Amount}
use Rattle.pcl_items.specs.Items.{Entry, Parameterized}
use Rattle.pcl_items.specs.Modes.{follows}
use Rattle.pcl_items.specs.Spellings.Canon.{canon}
use Rattle.device_profile.specs.declared.panel.Panel.{Panel}
use Rattle.device_profile.specs.Likeness.{IsLike}
use Rattle.device_profile.specs.Printer.{Printer}
use Rattle.macro_store.specs.Store.{Store, appended, body_of, stored_bytes}
use Rattle.page_env.specs.declared.finding.Finding.{Finding}
use Rattle.page_env.specs.declared.finding.Finding.TheVariants.{MacroMemory}
use Rattle.page_env.specs.declared.macros.Control.{Control}
use Rattle.page_env.specs.declared.macros.Control.TheVariants.{Begin, Execute as ExecuteMacro, Call}
use Rattle.page_env.specs.Effect.{check, first_finding}
use Rattle.page_env.specs.JobControl.{is_reset}
use Rattle.page_env.specs.Likeness.{asks_alike}
use Rattle.page_env.specs.Macros.{control_checks, control_of, controlled}
use Rattle.page_env.specs.Settings.{State, settings_at, state_at}
use Rattle.page_machine.specs.declared.defining.Defining.{Defining as ToDefinition}
use Rattle.page_machine.specs.declared.defining.Defining.TheVariants.{Refused, Completed, Stored}
use Rattle.page_machine.specs.declared.nesting.Nesting.{Nesting}
use Rattle.page_machine.specs.declared.nesting.Nesting.TheVariants.{Job}
use Rattle.page_machine.specs.Defining.{carried_after, control_in, controlled_after, defined_after, defining_of, defining_run, is_defining}
use Rattle.page_machine.specs.Defining.{job_item_run, macros_after, of_memory}
use Rattle.page_machine.specs.Event.{Event}
use Rattle.page_machine.specs.Likeness.{standing_as, RunsOnLike}
use Rattle.page_machine.specs.Machine.{context_of}
use Rattle.page_machine.specs.MachineState.{MachineState}
use Rattle.page_machine.specs.Macros.{MacroContext, body_run, close_in, control_body, control_run, in_job, is_macro}
use Rattle.page_machine.specs.PlainMacros.{KeepsStores, context_for, runs_body}
use Rattle.page_machine.specs.Run.{Done, Run, after, finding_or, followed_by, goes, item_run, just}
use Rattle.sinks.specs.declared.counts.Counts.{Counts}
use Rattle.preflight.specs.declared.fleet_mode.FleetMode.{FleetMode}
use Rattle.preflight.specs.declared.fleet_mode.FleetMode.TheVariants.{Alone, Together, Defining, Apart}
use Rattle.preflight.specs.Carriers.Each.{Each}
use Rattle.preflight.specs.Carriers.FleetMode.{others_in, Follows, IsFormed, StandsAlike, StayAlike, joined_as}
use Rattle.preflight.specs.Carriers.Lockstep.{Action, Execute, Finish, Does, GoesInStep}
use Rattle.preflight.proofs.FleetModes.{none_is}

-- ---- where a run ends

done_same : (t u : State) → Done t ≡ Done u → t ≡ u
done_same t u e = cc

found_ends : (found : Option Finding) (r : Run) (t : State) → (finding_or found r).ending ≡ Done t → r.ending ≡ Done t
found_ends None r t e = e
found_ends (Some finding) r t e = absurd cc

-- an item that is stored, or ends a definition, moves nothing
defined_ends : (to : ToDefinition) (macros : Store) (item : Entry) (s t : State) → (defining_run macros item to s).ending ≡ Done t → s ≡ t
defined_ends Refused macros item s t e = absurd cc
defined_ends Completed macros item s t e = done_same s t e
defined_ends Stored macros item s t e =
    done_same s t
    (found_ends (first_finding (check (nat_lt macros.limit (stored_bytes macros + length (canon item))) MacroMemory ∷ []))
    (after [] (of_memory (stored_bytes (appended item macros))) (just [] (Done s))) t e)

-- a control that runs no macro ends where it has set what it sets
controlled_ends : (control : Option Control) (macros : Store) (inner : Nesting → List Entry → State → Run) (u t : State) →
    runs_body control ≡ false → (followed_by (goes u []) (control_body macros inner Job control)).ending ≡ Done t → u ≡ t
controlled_ends (Some ExecuteMacro) macros inner u t none e = absurd cc
controlled_ends (Some Call) macros inner u t none e = absurd cc
controlled_ends _ macros inner u t none e = done_same u t e

control_ends : (macros : Store) (inner : Nesting → List Entry → State → Run) (n : Amount) (s t : State) →
    runs_body (control_of n) ≡ false → (control_run macros inner Job n s).ending ≡ Done t → controlled (control_of n) s ≡ t
control_ends macros inner n s t none e =
    controlled_ends (control_of n) macros inner (controlled (control_of n) s) t none
    (found_ends
    (first_finding (control_checks (is_some (body_of macros s.settings.job.macro_id)) (is_macro Job) (control_of n)))
    (followed_by (goes (controlled (control_of n) s) []) (control_body macros inner Job (control_of n))) t e)

-- ---- an item on one machine

module _ (context : MacroContext) (item : Entry) (s t : State) where
  -- while a definition is open
  open_ends : is_defining context.macros ≡ true → (job_item_run context item s).ending ≡ Done t → s ≡ t
  open_ends opened e =
      let run : job_item_run context item s ≡ defining_run context.macros item (defining_of item) s =
      ap
      (λ b. cond b (defining_run context.macros item (defining_of item) s) (item_run context.printer (in_job context) item s))
      opened in
      defined_ends (defining_of item) context.macros item s t (sym (ap (λ (r : Run). r.ending) run) ∙ e)

  -- while none is
  carried : is_defining context.macros ≡ false → (job_item_run context item s).ending ≡ Done t →
      (item_run context.printer (in_job context) item s).ending ≡ Done t
  carried none e =
      let run : job_item_run context item s ≡ item_run context.printer (in_job context) item s =
      ap
      (λ b. cond b (defining_run context.macros item (defining_of item) s) (item_run context.printer (in_job context) item s))
      none in
      sym (ap (λ (r : Run). r.ending) run) ∙ e

-- where a control that runs no macro ends, by whatever macros there are
abbrev ends_at : Entry → State → State
ends_at item s = controlled (control_in item) (record s { raster = None })

command_ends : (context : MacroContext) (command : Command) (n : Amount) (s t : State) → KeepsStores (Parameterized command n) →
    (item_run context.printer (in_job context) (Parameterized command n) s).ending ≡ Done t → ends_at (Parameterized command n) s ≡ t
command_ends context MacroControl n s t keeps e =
    control_ends context.macros (body_run context (close_in context Job) context.printer.depth 1) n (record s { raster = None }) t
    keeps.runs_none e
command_ends context _ n s t keeps e = let both : false ≡ true = keeps.controls in absurd cc

item_ends : (context : MacroContext) (item : Entry) (s t : State) → KeepsStores item →
    (item_run context.printer (in_job context) item s).ending ≡ Done t → ends_at item s ≡ t
item_ends context (Parameterized command n) s t keeps e = command_ends context command n s t keeps e
item_ends context _ s t keeps e = let both : false ≡ true = keeps.controls in absurd cc

reset_asks : (p q : Printer) (item : Entry) → is_reset item ≡ true → asks_alike p q item ≡ true
reset_asks p q (Parameterized command n) e = absurd cc
reset_asks p q _ e = refl

-- ---- whether a definition is open behind an item

abbrev open_by : ToDefinition → Bool → Bool
open_by Refused opened = opened
open_by Completed opened = false
open_by Stored opened = opened

defined_open : (to : ToDefinition) (item : Entry) (macros : Store) →
    is_defining (defined_after item to macros) ≡ open_by to (is_defining macros)
defined_open Refused item macros = refl
defined_open Completed item macros = refl
defined_open Stored item macros = with_one macros.definition
  where
    with_one : (d : Option (ℕ × List Entry)) →
        is_some (appended item (record macros { definition = d })).definition ≡ is_some d
    with_one None = refl
    with_one (Some d) = refl

abbrev control_opens : Option Control → Bool → Bool
control_opens (Some Begin) opened = true
control_opens _ opened = opened

controlled_open : (id : ℕ) (control : Option Control) (macros : Store) →
    is_defining (controlled_after id control macros) ≡ control_opens control (is_defining macros)
controlled_open id None macros = refl
controlled_open id (Some control) macros = by control
  where
    by : (k : Control) → is_defining (controlled_after id (Some k) macros) ≡ control_opens (Some k) (is_defining macros)
    by Begin = refl
    by _ = refl

carried_open : (resets : Bool) (id : ℕ) (control : Option Control) (macros : Store) →
    is_defining (cond resets (record macros { bodies = [] }) (controlled_after id control macros))
    ≡ cond resets (is_defining macros) (control_opens control (is_defining macros))
carried_open true id control macros = refl
carried_open false id control macros = controlled_open id control macros

-- it depends on no more than whether one is open before
abbrev open_after : Entry → Bool → Bool
open_after item opened =
    cond opened (open_by (defining_of item) opened) (cond (is_reset item) opened (control_opens (control_in item) opened))

opens : (id : ℕ) (item : Entry) (macros : Store) → is_defining (macros_after id item macros) ≡ open_after item (is_defining macros)
opens id item macros =
    either (is_defining macros)
    ∙ (λ i. cond (is_defining macros) (defined_open (defining_of item) item macros i)
    (carried_open (is_reset item) id (control_in item) macros i))
  where
    either : (b : Bool) →
        is_defining (cond b (defined_after item (defining_of item) macros) (carried_after id item macros))
        ≡ cond b (is_defining (defined_after item (defining_of item) macros)) (is_defining (carried_after id item macros))
    either true = refl
    either false = refl

-- ---- a machine that stands where the first one does

-- the item keeps both where they are alike: it is stored, keeps the stores, or is a reset without an overlay
abbrev KeepsAlike : MachineState → Entry → Type 0
KeepsAlike first item =
    (is_defining first.macros ≡ true)
    ⊎ ((is_defining first.macros ≡ false) × (KeepsStores item ⊎ ((is_reset item ≡ true) × (first.page.env.job.overlay ≡ None))))

module _ (law : (item : Entry) → RunsOnLike item) (item : Entry) (events : List Event) (first first' : MachineState)
    (does : Does (Execute item) events first first') (keeps : KeepsAlike first item) where
  module _ (m m' : MachineState) (alike : StandsAlike first m) (does' : Does (Execute item) events m m') where
    module _ (panel : Panel) where
      abbrev from : State
      from = state_at panel first.page

      first_ends : (job_item_run (context_of first panel) item from).ending ≡ Done (state_at panel first'.page)
      first_ends = ap (λ (r : Run). r.ending) (does.run panel)

      other_ends : (job_item_run (context_of m panel) item from).ending ≡ Done (state_at panel m'.page)
      other_ends =
          ap (λ s. (job_item_run (context_of m panel) item s).ending) (sym (alike.page panel))
          ∙ ap (λ (r : Run). r.ending) (does'.run panel)

      page_kept : is_defining first.macros ≡ false → KeepsStores item ⊎ ((is_reset item ≡ true) × (first.page.env.job.overlay ≡ None)) →
          state_at panel m'.page ≡ state_at panel first'.page
      page_kept none (inl stores) =
          sym
          (item_ends (context_of m panel) item from (state_at panel m'.page) stores
          (carried (context_of m panel) item from (state_at panel m'.page) (alike.defines ∙ none) other_ends))
          ∙ item_ends (context_of first panel) item from (state_at panel first'.page) stores
          (carried (context_of first panel) item from (state_at panel first'.page) none first_ends)
      page_kept none (inr resets) =
          let on_both =
          (law item first.printer m.printer alike.like (reset_asks first.printer m.printer item resets.0)).same
          (settings_at panel first.defaults) first.macros m.macros from (none_is first.macros.definition none)
          (none_is m.macros.definition (alike.defines ∙ none)) resets.1 in
          let own =
          ap (λ d. (job_item_run (context_for m.printer (settings_at panel d) m.macros) item from).ending) alike.defaults in
          done_same (state_at panel m'.page) (state_at panel first'.page)
          (sym other_ends ∙ own ∙ ap (λ (r : Run). r.ending) on_both ∙ first_ends)

      page_by : KeepsAlike first item → state_at panel m'.page ≡ state_at panel first'.page
      page_by (inl opened) =
          sym (open_ends (context_of m panel) item from (state_at panel m'.page) (alike.defines ∙ opened) other_ends)
          ∙ open_ends (context_of first panel) item from (state_at panel first'.page) opened first_ends
      page_by (inr kept) = page_kept kept.0 kept.1

    again : StandsAlike first' m'
    again = record {
      like =
          subst (λ p. IsLike p m'.printer) (sym (ap (λ (x : MachineState). x.printer) does.is))
          (subst (IsLike first.printer) (sym (ap (λ (x : MachineState). x.printer) does'.is)) alike.like);
      defaults =
          ap (λ (x : MachineState). x.defaults) does'.is ∙ alike.defaults ∙ sym (ap (λ (x : MachineState). x.defaults) does.is);
      mode =
          ap (λ (x : MachineState). x.mode) does'.is
          ∙ ap (λ mode. unwrap_or (follows mode item) mode) alike.mode
          ∙ sym (ap (λ (x : MachineState). x.mode) does.is);
      page = λ panel. page_by panel keeps;
      defines =
          ap (λ (x : MachineState). is_defining x.macros) does'.is
          ∙ opens m.page.env.job.macro_id item m.macros
          ∙ ap (open_after item) alike.defines
          ∙ sym (opens first.page.env.job.macro_id item first.macros)
          ∙ sym (ap (λ (x : MachineState). is_defining x.macros) does.is);
    }

    -- it did so, too, if it is put where the first one stands
    does_standing : Does (Execute item) events m (standing_as first' m')
    does_standing = record {
      is = λ i. record {
        printer = ap (λ (x : MachineState). x.printer) does'.is i;
        defaults = (sym again.defaults ∙ ap (λ (x : MachineState). x.defaults) does'.is) i;
        page = first'.page;
        macros = ap (λ (x : MachineState). x.macros) does'.is i;
        mode = (sym again.mode ∙ ap (λ (x : MachineState). x.mode) does'.is) i;
        stopped = ap (λ (x : MachineState). x.stopped) does.is i;
      };
      peaks = does'.peaks;
      run = λ panel.
          does'.run panel ∙ ap (λ s. after events (does'.peaks panel) (just [] (Done s))) (again.page panel);
    }

  -- ---- all that do

  all_again : (ms ms' : List MachineState) → AllByRecursion (StandsAlike first) ms → Each (Does (Execute item) events) ms ms' →
      AllByRecursion (StandsAlike first') ms'
  all_again [] [] alike each = tt
  all_again [] (m' ∷ ms') alike each = absurd each
  all_again (m ∷ ms) [] alike each = absurd each
  all_again (m ∷ ms) (m' ∷ ms') alike each = (again m m' alike.0 each.0, all_again ms ms' alike.1 each.1)

  all_standing : (ms ms' : List MachineState) → AllByRecursion (StandsAlike first) ms → Each (Does (Execute item) events) ms ms' →
      Each (Does (Execute item) events) ms (map (standing_as first') ms')
  all_standing [] [] alike each = tt
  all_standing [] (m' ∷ ms') alike each = absurd each
  all_standing (m ∷ ms) [] alike each = absurd each
  all_standing (m ∷ ms) (m' ∷ ms') alike each = (does_standing m m' alike.0 each.0, all_standing ms ms' alike.1 each.1)

  all_follow : is_defining first'.macros ≡ false → (ms' : List MachineState) → AllByRecursion (StandsAlike first') ms' →
      AllByRecursion (Follows first') ms'
  all_follow none [] alike = tt
  all_follow none (m' ∷ ms') alike =
      ((alike.0.like, none_is m'.macros.definition (alike.0.defines ∙ none)), all_follow none ms' alike.1)

  some_again : (ms ms' : List MachineState) → ms ≢ [] → Each (Does (Execute item) events) ms ms' → ms' ≢ []
  some_again [] ms' some each = absurd (some refl)
  some_again (m ∷ ms) [] some each = absurd each
  some_again (m ∷ ms) (m' ∷ ms') some each = λ e. absurd cc

  -- they join again
  module _ (ms ms' : List MachineState) (alike : AllByRecursion (StandsAlike first) ms) (some : ms ≢ [])
      (each : Each (Does (Execute item) events) ms ms') where
    formed_as : (opened : Bool) → is_defining first'.macros ≡ opened → IsFormed (joined_as opened) first' ms'
    formed_as true is = (is, all_again ms ms' alike each, some_again ms ms' some each)
    formed_as false is = (
      none_is first'.macros.definition is,
      all_follow is ms' (all_again ms ms' alike each),
      some_again ms ms' some each,
    )

    each_as : (opened : Bool) → Each (Does (Execute item) events) (first ∷ ms) (first' ∷ others_in (joined_as opened) first' ms')
    each_as true = (does, each)
    each_as false = (does, all_standing ms ms' alike each)

-- ---- the fleet

standing_alike : (first : MachineState) (others : List MachineState) → first.macros.definition ≡ None →
    AllByRecursion (Follows first) others → AllByRecursion (StandsAlike first) (map (standing_as first) others)
standing_alike first [] none follow = tt
standing_alike first (m ∷ others) none follow = (
  record {
    like = follow.0.0;
    defaults = refl;
    mode = refl;
    page = λ panel. refl;
    defines = ap is_some follow.0.1 ∙ sym (ap is_some none);
  },
  standing_alike first others none follow.1,
)

standing_some : (first : MachineState) (others : List MachineState) → others ≢ [] → map (standing_as first) others ≢ []
standing_some first [] some = absurd (some refl)
standing_some first (m ∷ others) some = λ e. absurd cc

module _ (first : MachineState) (item : Entry) (others : List MachineState) where
  alike_in : (f : FleetMode) → IsFormed f first others → StayAlike f first (Execute item) →
      AllByRecursion (StandsAlike first) (others_in f first others)
  alike_in Alone formed stay = absurd stay
  alike_in Together formed stay = standing_alike first others formed.0 formed.1
  alike_in Defining formed stay = formed.1
  alike_in Apart formed stay = absurd stay

  some_in : (f : FleetMode) → IsFormed f first others → StayAlike f first (Execute item) → others_in f first others ≢ []
  some_in Alone formed stay = absurd stay
  some_in Together formed stay = standing_some first others formed.2
  some_in Defining formed stay = formed.2
  some_in Apart formed stay = absurd stay

  keeps_in : (f : FleetMode) → IsFormed f first others → StayAlike f first (Execute item) → KeepsAlike first item
  keeps_in Alone formed stay = absurd stay
  keeps_in Together formed stay = inr (ap is_some formed.0, stay)
  keeps_in Defining formed stay = inl formed.0
  keeps_in Apart formed stay = absurd stay

ends_none : (f : FleetMode) (first : MachineState) → StayAlike f first Finish → ⊥
ends_none Alone first stay = stay
ends_none Together first stay = stay
ends_none Defining first stay = stay
ends_none Apart first stay = stay

module _ (law : (item : Entry) → RunsOnLike item) (f : FleetMode) (first first' : MachineState) (others others' : List MachineState)
    (formed : IsFormed f first others) where
  pub joins : (action : Action) → StayAlike f first action → (events : List Event) →
      Each (Does action events) (first ∷ others_in f first others) (first' ∷ others') →
      IsFormed (joined_as (is_defining first'.macros)) first' others'
  joins Finish stay events each = absurd (ends_none f first stay)
  joins (Execute item) stay events each =
      formed_as law item events first first' each.0 (keeps_in first item others f formed stay) (others_in f first others) others'
      (alike_in first item others f formed stay) (some_in first item others f formed stay) each.1 (is_defining first'.macros) refl

  pub joined_in_step : (action : Action) → StayAlike f first action → (place : ℕ) (counts counts' : Counts) →
      GoesInStep action place (first ∷ others_in f first others) (first' ∷ others') counts counts' None →
      GoesInStep action place (first ∷ others_in f first others)
      (first' ∷ others_in (joined_as (is_defining first'.macros)) first' others') counts counts' None
  joined_in_step Finish stay place counts counts' goes = absurd (ends_none f first stay)
  joined_in_step (Execute item) stay place counts counts' goes = (
    goes.0,
    each_as law item goes.0 first first' goes.1.0 (keeps_in first item others f formed stay) (others_in f first others) others'
        (alike_in first item others f formed stay) (some_in first item others f formed stay) goes.1.1 (is_defining first'.macros),
    goes.2,
  )
