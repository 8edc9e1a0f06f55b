-- Machines that stand together go as the first one does.
use Rattle.std.proofs.Common.{◌≡◌, inl, inr, ℕ, zero, suc, ◌+◌, ◌<◌, Bool, true, false, not, is_some, Option, None, Some, List, []}
use Rattle.std.proofs.Common.{◌∷◌, ◌++◌, length, take, get_or, map, unwrap_or, refl, ap, sym, ◌∙◌, subst, arith}
use Rattle.std.specs.Prelude.{◌≢◌}
use Rattle.std.specs.List.{AllByRecursion}
use Rattle.std.proofs.lemmas.List.{take_more}
use Rattle.macro_store.specs.Store.{Store}
use Rattle.pcl_items.specs.Modes.{follows}
use Rattle.pcl_items.specs.declared.pcl.command.Command.{Command}
use Rattle.pcl_items.specs.Escapes.Value.{Amount}
use Rattle.pcl_items.specs.Items.{Entry, Parameterized}
use Rattle.device_profile.specs.Likeness.{IsLike}
use Rattle.device_profile.specs.Printer.{Printer}
use Rattle.page_env.specs.JobControl.{is_reset}
use Rattle.page_env.specs.Likeness.{command_asks_alike}
use Rattle.page_env.specs.Settings.{settings_at, state_at}
use Rattle.page_machine.specs.Defining.{macros_after}
use Rattle.page_machine.specs.Event.{Event}
use Rattle.page_machine.specs.Likeness.{standing_as, LeavesStore, RunsOnLike}
use Rattle.page_machine.specs.MachineState.{MachineState}
use Rattle.page_machine.specs.PlainMacros.{LeavesEach, RunsPlain, RunsPlainAlike}
use Rattle.preflight.specs.declared.fleet_mode.FleetMode.{FleetMode}
use Rattle.preflight.specs.declared.fleet_mode.FleetMode.TheVariants.{Alone, Together, Defining, Apart}
use Rattle.preflight.specs.Carriers.Each.{Each}
use Rattle.preflight.specs.Carriers.FleetMode.{others_in, AskAlike, AsksNothing, DefinesNone, Follows, GoesAsOne, IsFormed, NoneDefines}
use Rattle.preflight.specs.Carriers.FleetMode.{RunsAsFirst, RunsAsOne, ShareMacro, StandsAs}
use Rattle.preflight.specs.Carriers.Lockstep.{Execute, Does}

module _ (law : (item : Entry) → RunsOnLike item) (item : Entry) (events : List Event) (first first' : MachineState)
    (does : Does (Execute item) events first first') where
  -- what it does as on the first one it does on a machine that stands there
  follower_does : (m : MachineState) → IsLike first.printer m.printer → RunsAsFirst first item m →
      Does (Execute item) events (standing_as first m) (standing_as first' m)
  follower_does m like runs = record {
    is = ap (λ f. standing_as f m) does.is ∙ (λ i. record first {
      printer = m.printer;
      page = first'.page;
      macros = (sym runs.macros) i;
      mode = unwrap_or (follows first.mode item) first.mode;
      stopped = false;
    });
    peaks = does.peaks;
    run = λ panel. runs.same like panel ∙ does.run panel;
  }

  followers_do : (others : List MachineState) → AllByRecursion (Follows first) others → AllByRecursion (RunsAsFirst first item) others →
      Each (Does (Execute item) events) (map (standing_as first) others) (map (standing_as first') others)
  followers_do [] follow runs = tt
  followers_do (m ∷ others) follow runs = (follower_does m follow.0.0 runs.0, followers_do others follow.1 runs.1)

  -- an item that asks the others nothing else runs on them as on the first one
  asking_run : (others : List MachineState) → DefinesNone first → AllByRecursion (Follows first) others →
      first.page.env.job.overlay ≡ None → AskAlike first item others → AllByRecursion (RunsAsFirst first item) others
  asking_run [] none follow overlay asks = tt
  asking_run (m ∷ others) none follow overlay asks = (
    record {
      same = λ like panel.
          (law item first.printer m.printer like asks.0.asks).same (settings_at panel first.defaults) first.macros m.macros
          (state_at panel first.page) none follow.0.1 overlay;
      macros =
          (law item first.printer m.printer follow.0.0 asks.0.asks).macros first.page.env.job.macro_id m.macros follow.0.1 asks.0.leaves;
    },
    asking_run others none follow.1 overlay asks.1,
  )

  asking_leaves : (others : List MachineState) → DefinesNone first → AllByRecursion (Follows first) others → (others ≢ []) →
      LeavesStore item first.macros → AskAlike first item others →
      macros_after first.page.env.job.macro_id item first.macros ≡ first.macros
  asking_leaves [] none follow some leaves asks = absurd (some refl)
  asking_leaves (m ∷ others) none follow some leaves asks =
      (law item first.printer m.printer follow.0.0 asks.0.asks).macros first.page.env.job.macro_id first.macros none leaves

  runs_as_one : (others : List MachineState) → IsFormed Together first others → GoesAsOne Together first others item →
      RunsAsOne first item others
  runs_as_one others formed (inl asks) = record {
    macros = asking_leaves others formed.0 formed.1 formed.2 asks.leaves asks.alike;
    each = asking_run others formed.0 formed.1 asks.no_overlay asks.alike;
  }
  runs_as_one others formed (inr runs) = runs

  -- and the first one still defines none
  still_none : macros_after first.page.env.job.macro_id item first.macros ≡ first.macros → DefinesNone first → DefinesNone first'
  still_none macros none = ap (λ (m : MachineState). m.macros.definition) does.is ∙ ap (λ (s : Store). s.definition) macros ∙ none

  same_printer : first'.printer ≡ first.printer
  same_printer = ap (λ (m : MachineState). m.printer) does.is

  still_follow : (others : List MachineState) → AllByRecursion (Follows first) others → AllByRecursion (Follows first') others
  still_follow [] follow = tt
  still_follow (m ∷ others) follow =
      ((subst (λ printer. IsLike printer m.printer) (sym same_printer) follow.0.0, follow.0.1), still_follow others follow.1)

  -- what the first does all do, and they stand so again
  pub all_do : (fleet_mode : FleetMode) (others : List MachineState) → IsFormed fleet_mode first others →
      GoesAsOne fleet_mode first others item →
      Each (Does (Execute item) events) (first ∷ others_in fleet_mode first others) (first' ∷ others_in fleet_mode first' others)
  all_do Alone others formed goes = (does, tt)
  all_do Together others formed goes = (does, followers_do others formed.1 (runs_as_one others formed goes).each)
  all_do Defining others formed goes = absurd goes
  all_do Apart others formed goes = absurd goes

  pub still_formed : (fleet_mode : FleetMode) (others : List MachineState) → IsFormed fleet_mode first others →
      GoesAsOne fleet_mode first others item → IsFormed fleet_mode first' others
  still_formed Alone others formed goes = formed
  still_formed Together others formed goes =
      (still_none (runs_as_one others formed goes).macros formed.0, still_follow others formed.1, formed.2)
  still_formed Defining others formed goes = absurd goes
  still_formed Apart others formed goes = tt

-- ---- what an answer says

pub not_true : (b : Bool) → not b ≡ true → b ≡ false
not_true true e = sym e
not_true false e = refl

pub none_is : {X : Type 0} (o : Option X) → is_some o ≡ false → o ≡ None
none_is None e = refl
none_is (Some x) e = absurd cc

-- ---- machines one after another

-- what holds of all holds of the one that stands there
pub all_at : {X : Type 0} (P : X → Type 0) (i : ℕ) (xs : List X) (d : X) → i < length xs → AllByRecursion P xs → P (get_or xs i d)
all_at P i [] d inside h = absurd (omega (arith, inside))
all_at P zero (x ∷ xs) d inside h = h.0
all_at P (suc i) (x ∷ xs) d inside h = all_at P i xs d (omega (arith, inside)) h.1

-- where it holds of the first ones and of the next it holds of one more
pub one_more : {X : Type 0} (P : X → Type 0) (xs : List X) (i : ℕ) (x : X) → i < length xs → x ≡ get_or xs i x → P x →
    AllByRecursion P (take i xs) → AllByRecursion P (take (i + 1) xs)
one_more P xs i x inside is p h =
    let front : take (i + 1) xs ≡ take i xs ++ x ∷ [] = take_more xs i x inside ∙ ap (λ y. take i xs ++ y ∷ []) (sym is) in
    subst (AllByRecursion P) (sym front) (push (take i xs) h)
  where
    push : (ys : List _) → AllByRecursion P ys → AllByRecursion P (ys ++ x ∷ [])
    push [] h = (p, tt)
    push (y ∷ ys) h = (h.0, push ys h.1)

-- where each comes to stand there
pub all_stand : (first : MachineState) (old new : List MachineState) → Each (StandsAs first) old new → new ≡ map (standing_as first) old
all_stand first [] [] h = refl
all_stand first [] (n ∷ new) h = absurd h
all_stand first (m ∷ old) [] h = absurd h
all_stand first (m ∷ old) (n ∷ new) h = λ i. h.0 i ∷ all_stand first old new h.1 i

-- a command that asks nothing of the device asks the same of all
pub none_asks : (first : MachineState) (command : Command) (n : Amount) →
    ((p q : Printer) (n : Amount) → command_asks_alike p q command n ≡ true) → (others : List MachineState) →
    AskAlike first (Parameterized command n) others
none_asks first command n same [] = tt
none_asks first command n same (m ∷ others) =
    (record { asks = same first.printer m.printer n; leaves = λ e. absurd cc }, none_asks first command n same others)

-- so does any item
asks_none : (first : MachineState) (item : Entry) → AsksNothing item → (others : List MachineState) → AskAlike first item others
asks_none first item nothing [] = tt
asks_none first item nothing (m ∷ others) = (
  record { asks = nothing.asks first.printer m.printer; leaves = no_reset item nothing.no_reset m.macros },
  asks_none first item nothing others,
)
  where
    no_reset : (item : Entry) → is_reset item ≡ false → (macros : Store) → LeavesStore item macros
    no_reset item none macros = λ e. let both : true ≡ false = sym e ∙ none in absurd cc

pub command_as_one : (first : MachineState) (command : Command) (n : Amount) (others : List MachineState) →
    ((p q : Printer) (n : Amount) → command_asks_alike p q command n ≡ true) → first.page.env.job.overlay ≡ None →
    GoesAsOne Together first others (Parameterized command n)
command_as_one first command n others same overlay =
    inl (record { no_overlay = overlay; leaves = λ e. absurd cc; alike = none_asks first command n same others })

pub item_as_one : (first : MachineState) (item : Entry) (others : List MachineState) → AsksNothing item →
    first.page.env.job.overlay ≡ None → GoesAsOne Together first others item
item_as_one first item others nothing overlay =
    inl (record {
      no_overlay = overlay;
      leaves = λ e. let both : true ≡ false = sym e ∙ nothing.no_reset in absurd cc;
      alike = asks_none first item nothing others;
    })

-- no definition is open on any
pub followers_define_none : (first : MachineState) (others : List MachineState) → AllByRecursion (Follows first) others → NoneDefines others
followers_define_none first [] h = tt
followers_define_none first (m ∷ others) h = (h.0.1, followers_define_none first others h.1)

-- ---- a macro of single steps

-- machines that share the macro run it as the first one does
sharers_run : RunsPlainAlike → LeavesEach → (first : MachineState) (item : Entry) (body : List Entry) → RunsPlain first item body →
    (others : List MachineState) → ShareMacro first body others → AllByRecursion (RunsAsFirst first item) others
sharers_run alike leaves first item body runs [] share = tt
sharers_run alike leaves first item body runs (m ∷ others) share = (
  record {
    same = λ like panel.
        alike first.printer m.printer (settings_at panel first.defaults) first.macros m.macros item (state_at panel first.page) body
        like runs.running runs.plain runs.has share.0.has runs.may_run.levels share.0.may_run.levels;
    macros = leaves item first.page.env.job.macro_id m.macros runs.running share.0.may_run.no_definition;
  },
  sharers_run alike leaves first item body runs others share.1,
)

pub plain_as_one : RunsPlainAlike → LeavesEach → (first : MachineState) (item : Entry) (body : List Entry) → RunsPlain first item body →
    (others : List MachineState) → ShareMacro first body others → GoesAsOne Together first others item
plain_as_one alike leaves first item body runs others share =
    inr (record {
      macros = leaves item first.page.env.job.macro_id first.macros runs.running runs.may_run.no_definition;
      each = sharers_run alike leaves first item body runs others share;
    })
