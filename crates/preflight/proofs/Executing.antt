-- What the machines of a fleet did, one after another.
use Rattle.std.proofs.Common.{◌≡◌, ◌≢◌, ◌↔◌, IsFalse, inl, inr, ◌+◌, ◌<◌, ◌≤◌, ℕ, zero, suc, Bool, true, false, List, [], ◌∷◌, ◌++◌, length}
use Rattle.std.proofs.Common.{take, drop, set, get_or, Option, None, Some, Result, Ok, Err, IfErr, refl, ap, sym, ◌∙◌, subst, append_assoc}
use Rattle.std.proofs.Common.{append-nil, arith}
use Rattle.std.specs.Option.{option_or}
use Rattle.std.specs.Bool.{then_some}
use Rattle.std.specs.List.{AllByRecursion}
use Rattle.std.proofs.lemmas.List.{take_more_set, drop_more, drop-set-lt, drop-drop, take_all, drop_all}
use Rattle.pcl_items.specs.Items.{Entry}
use Rattle.page_env.specs.declared.finding.Finding.{Finding}
use Rattle.page_machine.specs.declared.stop.Stop.{Stop}
use Rattle.page_machine.specs.declared.stop.Stop.TheVariants as stops
use Rattle.page_machine.specs.Event.{Event, TakesAll}
use Rattle.page_machine.specs.Run.{just, Done}
use Rattle.page_machine.specs.Follows.{TakesUpTo}
use Rattle.page_env.specs.Settings.{state_at}
use Rattle.page_machine.specs.MachineState.{MachineState}
use Rattle.page_machine.specs.Likeness.{RunsOnLike}
use Rattle.page_machine.specs.Machine.{CarriesOn}
use Rattle.page_machine.specs.Still.{StopsStill}
use Rattle.sinks.specs.declared.counts.Counts.{Counts}
use Rattle.verdict.specs.declared.failure.Failure.{Failure}
use Rattle.verdict.specs.declared.reason.Reason.{Reason}
use Rattle.verdict.specs.declared.reason.Reason.TheVariants as reasons
use Rattle.verdict.specs.Failing.{found_at}
use Rattle.sinks.specs.Counts.{counts_after, pages_after}
use Rattle.sinks.specs.Recorder.{Recorded, recorded_all}
use Rattle.sinks.proofs.Recording.{recorder_takes, TakesAll-recorded}
use Rattle.preflight.specs.CheckState.{StandsAfter, StandsBy, is_open}
use Rattle.preflight.specs.declared.check_state.CheckState.{CheckState}
use Rattle.preflight.specs.Carriers.Each.{Each}
use Rattle.preflight.specs.declared.fleet_mode.FleetMode.{FleetMode}
use Rattle.preflight.specs.Carriers.FleetMode.{others_in, fleet_of, IsFormed, GoesAsOne}
use Rattle.preflight.specs.Carriers.Lockstep.{Action, Execute, Fleet, carrying_of, is_last, Does, IsDone, Finds, FoundFrom, DiffersFrom}
use Rattle.preflight.specs.Carriers.Lockstep.{WrongFrom, IsWrong, Compared, CountsPages, FindsAt, GoesInStep, PagesAt, StopsAt, StopsFor}
use Rattle.preflight.specs.Carriers.Lockstep.{StopsThere}
use Rattle.preflight.proofs.Counting.{counter_takes, counter_refuses, TakesAll-counts, pages_counted, pages_taken}
use Rattle.preflight.proofs.FleetModes.{all_do, still_formed}
use Rattle.preflight.proofs.CheckStates.{failed_by, open_by, refused_by}

-- ---- one machine

does_of : {S : Type 0} (takes : S → Event → S → Type 0) (action : Action) (sink sink' : S) (machine machine' : MachineState) →
    machine'
    ≡ record machine {
      page = machine'.page;
      macros = (carrying_of machine action).macros;
      mode = (carrying_of machine action).mode;
      stopped = is_last action;
    } →
    (took : TakesUpTo takes sink sink' (carrying_of machine action).run (λ panel. just [] (Done (state_at panel machine'.page)))) →
    Does action took.events machine machine'
does_of takes action sink sink' machine machine' is took = record { is = is; peaks = took.peaks; run = took.is }

-- what a machine that was running answered, and how the check stands behind it
module _ {S F : Type 0} (takes refuses : S → Event → S → Type 0) (action : Action) (sink sink' : S) (machine machine' : MachineState) where
  abbrev pub Answers : Result Unit (Stop F) → Type 0
  Answers answer = CarriesOn takes refuses (carrying_of machine action) (is_last action) sink sink' machine machine' answer

  -- it says not that it had stopped before
  pub was_running : (answer : Result Unit (Stop F)) → machine.stopped ≡ false → Answers answer → IfErr answer (λ stop. stop ≢ stops.Stopped)
  was_running (Ok done) running h = tt
  was_running (Err (stops.Found finding)) running h = λ is. absurd cc
  was_running (Err (stops.Refused fault)) running h = λ is. absurd cc
  was_running (Err (stops.Memory error)) running h = λ is. absurd cc
  was_running (Err stops.Stopped) running h = let both : true ≡ false = sym h.0 ∙ running in absurd cc

  -- where the check is open, it executed the action
  pub does_by : (place number : ℕ) (answer : Result Unit (Stop F)) (state : CheckState) → StandsAfter place number answer state →
      is_open state ≡ true → Answers answer →
      (events : List Event) × Does action events machine machine' × TakesAll takes sink events sink'
  does_by place number (Ok done) state stands is h = (h.2.events, does_of takes action sink sink' machine machine' h.1 h.2, h.2.leads)
  does_by place number (Err (stops.Found finding)) state stands is h =
      let both : false ≡ true = sym (ap is_open stands) ∙ is in absurd cc
  does_by place number (Err (stops.Refused fault)) state stands is h =
      let both : false ≡ true = sym (ap is_open stands) ∙ is in absurd cc
  does_by place number (Err (stops.Memory error)) state stands is h = let both : false ≡ true = sym (ap is_open stands) ∙ is in absurd cc
  does_by place number (Err stops.Stopped) state stands is h = absurd stands

  -- where it is not, it has a finding, or memory was refused
  pub fails_by : (P : Option Failure → Type 0) (place number : ℕ) (answer : Result Unit (Stop F)) (state : CheckState) →
      StandsAfter place number answer state → is_open state ≡ false → Answers answer
      → ((finding : Finding) (finds : Finds action finding machine) → TakesAll takes sink finds.events sink' →
      StopsStill (carrying_of machine action).one_step machine machine' →
      P (Some (found_at place number finding)))
      → StandsBy state P
  fails_by P place number (Ok done) state stands is h wrong = let both : true ≡ false = sym (ap is_open stands) ∙ is in absurd cc
  fails_by P place number (Err (stops.Found finding)) state stands is h wrong =
      failed_by P state (found_at place number finding) stands
      (wrong finding (record { events = h.2.events; peaks = h.2.peaks; run = h.2.is }) h.2.leads h.3)
  fails_by P place number (Err (stops.Refused fault)) state stands is h wrong = refused_by P state stands
  fails_by P place number (Err (stops.Memory error)) state stands is h wrong = refused_by P state stands
  fails_by P place number (Err stops.Stopped) state stands is h wrong = absurd stands

-- the first machine, where all do what it does
module _ (action : Action) (place : ℕ) (fleet_mode : FleetMode) (counts counts' : Counts) (first first' : MachineState)
    (others : List MachineState)
    (all : (events : List Event) → Does action events first first' →
    Each (Does action events) (first ∷ others_in fleet_mode first others) (first' ∷ others_in fleet_mode first' others))
  where
    abbrev came : Option Failure → Type 0
    came failed =
        GoesInStep action place (first ∷ others_in fleet_mode first others)
        (first' ∷ others_in fleet_mode first' others) counts counts' failed

    pub as_one_in_step : {F : Type 0} (answer : Result Unit (Stop F)) (state : CheckState) → StandsAfter place 1 answer state
        → CarriesOn counter_takes counter_refuses (carrying_of first action) (is_last action) counts counts' first first' answer
        → StandsBy state (λ failed.
        GoesInStep action place (first ∷ others_in fleet_mode first others)
        (first' ∷ others_in fleet_mode first' others) counts counts' failed)
    as_one_in_step (Ok done) state stands h =
        open_by came state stands (
          h.2.events,
          all h.2.events (does_of counter_takes action counts counts' first first' h.1 h.2),
          TakesAll-counts counts counts' h.2.events h.2.leads,
        )
    as_one_in_step (Err (stops.Found finding)) state stands h =
        let finds : Finds action finding first = record { events = h.2.events; peaks = h.2.peaks; run = h.2.is } in
        failed_by came state (found_at place 1 finding) stands
        (refl, inl (refl, finds), inl (refl, (finds, pages_taken counts counts' h.2.events h.2.leads)), inl (refl, h.3))
    as_one_in_step (Err (stops.Refused fault)) state stands h = refused_by came state stands
    as_one_in_step (Err (stops.Memory error)) state stands h = refused_by came state stands
    as_one_in_step (Err stops.Stopped) state stands h = absurd stands

-- an item that does the same on all
module _ (law : (item : Entry) → RunsOnLike item) (item : Entry) (fleet_mode : FleetMode) (counts counts' : Counts)
    (first first' : MachineState) (others : List MachineState) (formed : IsFormed fleet_mode first others)
    (goes : GoesAsOne fleet_mode first others item) where
  -- all of a fleet have done what the first did, whatever the item was read as
  pub item_in_step : {F : Type 0} (read : Entry) → read ≡ item → (old : Fleet) → fleet_of fleet_mode first others counts ≡ old → (place : ℕ)
      (answer : Result Unit (Stop F)) (state : CheckState) → StandsAfter place 1 answer state
      → CarriesOn counter_takes counter_refuses (carrying_of first (Execute item)) false counts counts' first first' answer
      → StandsBy state
      (λ failed. GoesInStep (Execute read) place old.machines (first' ∷ others_in fleet_mode first' others) old.counts counts' failed)
  item_in_step read is old stood place answer state stands h =
      subst
      (λ (i : Entry). StandsBy state
      (λ failed. GoesInStep (Execute i) place old.machines (first' ∷ others_in fleet_mode first' others) old.counts counts' failed))
      (sym is)
      (subst
      (λ (f : Fleet). StandsBy state
      (λ failed. GoesInStep (Execute item) place f.machines (first' ∷ others_in fleet_mode first' others) f.counts counts' failed))
      stood
      (as_one_in_step (Execute item) place fleet_mode counts counts' first first' others
      (λ events does. all_do law item events first first' does fleet_mode others formed goes) answer state stands h))

  -- where it goes on they stand as they stood
  pub as_one_formed : {F : Type 0} (answer : Result Unit (Stop F)) → first.stopped ≡ false → first'.stopped ≡ false
      → CarriesOn counter_takes counter_refuses (carrying_of first (Execute item)) false counts counts' first first' answer
      → IsFormed fleet_mode first' others
  as_one_formed (Ok done) running runs h =
      still_formed law item h.2.events first first'
      (does_of counter_takes (Execute item) counts counts' first first' h.1 h.2) fleet_mode others formed goes
  as_one_formed (Err (stops.Found finding)) running runs h = let both : true ≡ false = sym h.1 ∙ runs in absurd cc
  as_one_formed (Err (stops.Refused fault)) running runs h = let both : true ≡ false = sym h.1 ∙ runs in absurd cc
  as_one_formed (Err (stops.Memory error)) running runs h = let both : true ≡ false = sym h.1 ∙ runs in absurd cc
  as_one_formed (Err stops.Stopped) running runs h = let both : true ≡ false = sym h.0 ∙ running in absurd cc

pub done_of : (action : Action) (events : List Event) (machine machine' : MachineState) → Does action events machine machine' →
    IsDone action machine
done_of action events machine machine' does = record { events = events; emits = record { new = machine'; does = does } }

-- ---- the first machine, and then the others

-- what is wrong for one of the others is wrong first
wrong_in_step : (action : Action) (events : List Event) (first first' : MachineState) (others : List MachineState) (number : ℕ)
    (reason : Reason) → Does action events first first' → WrongFrom action events 2 others number reason →
    IsWrong action (first ∷ others) number reason
wrong_in_step action events first first' others number (reasons.Finding finding) does h = inr (done_of action events first first' does, h)
wrong_in_step action events first first' others number reasons.Differs does h =
    (events, record { new = first'; does = does }, inr (record { new = first'; does = does }, h))
wrong_in_step action events first first' others number (reasons.Fault cause) does h = absurd h
wrong_in_step action events first first' others number reasons.Unpinnable does h = absurd h

-- and so many pages have ended on it
pages_in_step : (action : Action) (pages pages' : ℕ) (first : MachineState) (others : List MachineState) (number : ℕ) (reason : Reason) →
    PagesAt action pages pages' 2 others number reason → PagesAt action pages pages' 1 (first ∷ others) number reason
pages_in_step action pages pages' first others number (reasons.Finding finding) h = inr h
pages_in_step action pages pages' first others number reasons.Differs h = h
pages_in_step action pages pages' first others number (reasons.Fault cause) h = h
pages_in_step action pages pages' first others number reasons.Unpinnable h = h

-- and it stopped where it stood
stops_in_step : (action : Action) (first first' : MachineState) (others others' : List MachineState) (number : ℕ) (reason : Reason) →
    StopsAt action 2 others others' number reason → StopsAt action 1 (first ∷ others) (first' ∷ others') number reason
stops_in_step action first first' others others' number (reasons.Finding finding) h = inr h
stops_in_step action first first' others others' number reasons.Differs h = tt
stops_in_step action first first' others others' number (reasons.Fault cause) h = tt
stops_in_step action first first' others others' number reasons.Unpinnable h = tt

-- where all executed it, the events of the first were counted, and else the pages up to what is wrong
in_step : (action : Action) (place : ℕ) (events : List Event) (first first' : MachineState) (others others' : List MachineState)
    (counts counts' : Counts) (failed : Option Failure) → Does action events first first' →
    Compared action place events 2 others others' failed → CountsPages action counts.pages counts'.pages 2 others failed →
    StopsFor action 2 others others' failed → (failed ≡ None → counts' ≡ counts_after events counts) →
    GoesInStep action place (first ∷ others) (first' ∷ others') counts counts' failed
in_step action place events first first' others others' counts counts' None does h paged stopped counted =
    (events, (does, h), counted refl)
in_step action place events first first' others others' counts counts' (Some failure) does h paged stopped counted = (
  h.0,
  wrong_in_step action events first first' others failure.profile failure.reason does h.1,
  pages_in_step action counts.pages counts'.pages first others failure.profile failure.reason paged,
  stops_in_step action first first' others others' failure.profile failure.reason stopped,
)

-- the first machine's events are recorded, and the others' compared with the record
pub step_recorded : (action : Action) (place : ℕ) (first first' : MachineState) (others others' : List MachineState)
    (before cleared after : Recorded) (given events : List Event) (counts' : Counts) (failed : Option Failure) →
    cleared ≡ record before { events = [] } → Does action given first first' → TakesAll recorder_takes cleared given after →
    events ≡ after.events → Compared action place events 2 others others' failed →
    CountsPages action before.counts.pages counts'.pages 2 others failed → StopsFor action 2 others others' failed →
    (failed ≡ None → counts' ≡ after.counts) →
    GoesInStep action place (first ∷ others) (first' ∷ others') before.counts counts' failed
step_recorded action place first first' others others' before cleared after given events counts' failed clear does leads recorded h paged
    stopped counted =
    let all : after ≡ record { events = given; counts = counts_after given before.counts } =
    TakesAll-recorded cleared after given leads ∙ ap (recorded_all given) clear in
    in_step action place given first first' others others' before.counts counts' failed does
    (subst (λ es. Compared action place es 2 others others' failed) (recorded ∙ ap (λ (r : Recorded). r.events) all) h) paged stopped
    (λ none. counted none ∙ ap (λ (r : Recorded). r.counts) all)

-- the pages of what was recorded behind these counts
pub pages_recorded : (before cleared after : Recorded) (given : List Event) (counts' : Counts) → cleared ≡ record before { events = [] } →
    TakesAll recorder_takes cleared given after → counts' ≡ after.counts → counts'.pages ≡ pages_after given before.counts.pages
pages_recorded before cleared after given counts' clear leads counted =
    let all : after ≡ record { events = given; counts = counts_after given before.counts } =
    TakesAll-recorded cleared after given leads ∙ ap (recorded_all given) clear in
    ap (λ (c : Counts). c.pages) (counted ∙ ap (λ (r : Recorded). r.counts) all) ∙ pages_counted given before.counts

-- a slice of all elements that was written back
pub written_back : {X : Type 0} (n : ℕ) (old new : List X) → length new ≡ n → length old ≡ n → take n (new ++ drop (length new) old) ≡ new
written_back n old new new_len old_len =
    ap (λ xs. take n (new ++ xs)) (drop_all (length new) old (omega (arith, new_len, old_len)))
    ∙ (ap (take n) (append-nil new) ∙ take_all n new (omega (arith, new_len)))

-- the others where they stand, written back
pub parted : (fleet_mode : FleetMode) (first : MachineState) (n : ℕ) (items lent stood now : List MachineState) →
    now ≡ take n (stood ++ drop (length stood) items) → stood ≡ others_in fleet_mode first lent → lent ≡ items → length stood ≡ n →
    length items ≡ n
    → now ≡ others_in fleet_mode first items
parted fleet_mode first n items lent stood now is stand same stood_len len =
    is ∙ (written_back n items stood stood_len len ∙ (stand ∙ ap (others_in fleet_mode first) same))

-- what a comparer tells of the events that it took
pub differ_of : (given events : List Event) (differs : Bool) → IsFalse differs ↔ (given ≡ events) → differs ≡ true → given ≢ events
differ_of given events differs told is same = let both : false ≡ true = sym (told.1 same) ∙ is in absurd cc

-- ---- the others

-- why an action is wrong from the machine of number n on, where the first that gave other events so far has this number
abbrev pub WrongWhere : Action → List Event → ℕ → Option ℕ → List MachineState → ℕ → Reason → Type 0
WrongWhere action events n None old number reason = WrongFrom action events n old number reason
WrongWhere action events n (Some other) old number (reasons.Finding finding) = FoundFrom action finding number n old
WrongWhere action events n (Some other) old number reasons.Differs = (number ≡ other) × AllByRecursion (IsDone action) old
WrongWhere action events n (Some other) old number (reasons.Fault cause) = ⊥
WrongWhere action events n (Some other) old number reasons.Unpinnable = ⊥

-- all gave the same events, where none gave others so far
abbrev pub AllAlike : Action → List Event → Option ℕ → List MachineState → List MachineState → Type 0
AllAlike action events None old new = Each (Does action events) old new
AllAlike action events (Some other) old new = ⊥

-- what an action comes to from there on
abbrev pub GoesOnTo : Action → ℕ → List Event → ℕ → Option ℕ → List MachineState → List MachineState → Option Failure → Type 0
GoesOnTo action place events n other old new None = AllAlike action events other old new
GoesOnTo action place events n other old new (Some failure) =
    (failure.place ≡ place) × WrongWhere action events n other old failure.profile failure.reason

module _ (action : Action) (events given : List Event) (n : ℕ) (machine machine' : MachineState) (does : Does action given machine machine')
    (old new : List MachineState) where
  same_does : given ≡ events → Does action events machine machine'
  same_does e = subst (λ es. Does action es machine machine') e does

  done : IsDone action machine
  done = done_of action given machine machine' does

  alike_on : (other : Option ℕ) (differs : Bool) → (differs ≡ false → given ≡ events) →
      AllAlike action events (option_or other (then_some differs n)) old new → AllAlike action events other (machine ∷ old) (machine' ∷ new)
  alike_on None false same h = (same_does (same refl), h)
  alike_on None true same h = absurd h
  alike_on (Some other) differs same h = absurd h

  wrong_on : (other : Option ℕ) (differs : Bool) (number : ℕ) (reason : Reason) → (differs ≡ false → given ≡ events) →
      (differs ≡ true → given ≢ events) → WrongWhere action events (n + 1) (option_or other (then_some differs n)) old number reason →
      WrongWhere action events n other (machine ∷ old) number reason
  wrong_on None false number (reasons.Finding finding) same differ h = inr (done, h)
  wrong_on None false number reasons.Differs same differ h = inr (record { new = machine'; does = same_does (same refl) }, h)
  wrong_on None false number (reasons.Fault cause) same differ h = absurd h
  wrong_on None false number reasons.Unpinnable same differ h = absurd h
  wrong_on None true number (reasons.Finding finding) same differ h = inr (done, h)
  wrong_on None true number reasons.Differs same differ h =
      inl (h.0, record { others = given; emits = record { new = machine'; does = does }; differ = differ refl }, h.1)
  wrong_on None true number (reasons.Fault cause) same differ h = absurd h
  wrong_on None true number reasons.Unpinnable same differ h = absurd h
  wrong_on (Some other) differs number (reasons.Finding finding) same differ h = inr (done, h)
  wrong_on (Some other) differs number reasons.Differs same differ h = (h.0, (done, h.1))
  wrong_on (Some other) differs number (reasons.Fault cause) same differ h = absurd h
  wrong_on (Some other) differs number reasons.Unpinnable same differ h = absurd h

  -- a machine gave the same events, or others
  pub goes_on : (place : ℕ) (other : Option ℕ) (differs : Bool) (failed : Option Failure) → (differs ≡ false → given ≡ events) →
      (differs ≡ true → given ≢ events) → GoesOnTo action place events (n + 1) (option_or other (then_some differs n)) old new failed →
      GoesOnTo action place events n other (machine ∷ old) (machine' ∷ new) failed
  goes_on place other differs None same differ h = alike_on other differs same h
  goes_on place other differs (Some failure) same differ h = (h.0, wrong_on other differs failure.profile failure.reason same differ h.1)

-- a machine has a finding
stops_at : (action : Action) (events : List Event) (n : ℕ) (other : Option ℕ) (finding : Finding) (machine : MachineState)
    (old : List MachineState) → Finds action finding machine → WrongWhere action events n other (machine ∷ old) n (reasons.Finding finding)
stops_at action events n None finding machine old finds = inl (refl, finds)
stops_at action events n (Some other) finding machine old finds = inl (refl, finds)

-- ---- the machines so far

-- the machines from i on are as they were, and what the action comes to from there on, it comes to as a whole
pub record SoFar (action : Action) (place : ℕ) (events : List Event) (i : ℕ) (other : Option ℕ) (old new : List MachineState) : Type 0 where
  pub rest : drop i new ≡ drop i old
  pub leads : (later : List MachineState) (failed : Option Failure) → GoesOnTo action place events (i + 2) other (drop i old) later failed →
      Compared action place events 2 old (take i new ++ later) failed

-- what no machine has come to yet
compared : (action : Action) (place : ℕ) (events : List Event) (old new : List MachineState) (failed : Option Failure) →
    GoesOnTo action place events 2 None old new failed → Compared action place events 2 old new failed
compared action place events old new None h = h
compared action place events old new (Some failure) h = h

pub none_so_far : (action : Action) (place : ℕ) (events : List Event) (old : List MachineState) → SoFar action place events 0 None old old
none_so_far action place events old = record { rest = refl; leads = λ later failed h. compared action place events old later failed h }

module _ (action : Action) (place : ℕ) (events given : List Event) (i : ℕ) (other : Option ℕ) (old new : List MachineState)
    (default machine' : MachineState) (so_far : SoFar action place events i other old new) (inside : i < length new) where
  abbrev machine : MachineState
  machine = get_or new i default

  rest_more : drop (i + 1) new ≡ drop (i + 1) old
  rest_more = sym (drop-drop 1 i new) ∙ (ap (drop 1) so_far.rest ∙ drop-drop 1 i old)

  pub next_is : drop i old ≡ machine ∷ drop (i + 1) old
  next_is =
      sym so_far.rest
      ∙ (drop_more new i default inside
      ∙ ap (λ xs. machine ∷ xs) rest_more)

  -- the machine executed the action
  pub so_far_more : (differs : Bool) → Does action given machine machine' → (differs ≡ false → given ≡ events) →
      (differs ≡ true → given ≢ events) →
      SoFar action place events (i + 1) (option_or other (then_some differs (i + 2))) old (set new i machine')
  so_far_more differs does same differ = record {
    rest = drop-set-lt (i + 1) new i machine' (omega arith) ∙ rest_more;
    leads = λ later failed h.
        let n : i + 1 + 2 ≡ i + 2 + 1 = omega arith in
        let front : take (i + 1) (set new i machine') ++ later ≡ take i new ++ machine' ∷ later =
        ap (λ (xs : List MachineState). xs ++ later) (take_more_set new i machine' inside)
        ∙ append_assoc (take i new) (machine' ∷ []) later in
        let on : GoesOnTo action place events (i + 2) other (machine ∷ drop (i + 1) old) (machine' ∷ later) failed =
        goes_on action events given (i + 2) machine machine' does (drop (i + 1) old) later place other differs failed same differ
        (subst (λ k. GoesOnTo action place events k (option_or other (then_some differs (i + 2))) (drop (i + 1) old) later failed) n h) in
        subst (λ xs. Compared action place events 2 old xs failed) (sym front)
        (so_far.leads (machine' ∷ later) failed
        (subst (λ xs. GoesOnTo action place events (i + 2) other xs (machine' ∷ later) failed) (sym next_is) on));
  }

  -- the machine has a finding
  pub stops_so_far : (finding : Finding) → Finds action finding machine → WrongFrom action events 2 old (i + 2) (reasons.Finding finding)
  stops_so_far finding finds =
      let failure : Failure = record { place = place; profile = i + 2; reason = reasons.Finding finding } in
      let wrong = so_far.leads [] (Some failure) (
        refl,
        subst (λ xs. WrongWhere action events (i + 2) other xs (i + 2) (reasons.Finding finding)) (sym next_is)
            (stops_at action events (i + 2) other finding machine (drop (i + 1) old) finds),
      ) in
      wrong.1

-- what holds of all elements holds of the one that stands there
pub all_there : {X : Type 0} (P : X → Type 0) (i : ℕ) (xs : List X) (x : X) (rest : List X) → drop i xs ≡ x ∷ rest → AllByRecursion P xs →
    P x
all_there P zero [] x rest e h = absurd cc
all_there P zero (y ∷ ys) x rest e h = let same : y ≡ x = cc in subst P same h.0
all_there P (suc i) [] x rest e h = absurd cc
all_there P (suc i) (y ∷ ys) x rest e h = all_there P i ys x rest e h.1

-- so many pages have ended where the machine that stands there has a finding
pub finds_there : (action : Action) (finding : Finding) (pages pages' n i : ℕ) (machines : List MachineState) (machine : MachineState)
    (rest : List MachineState) → drop i machines ≡ machine ∷ rest → (finds : Finds action finding machine) →
    pages' ≡ pages_after finds.events pages → FindsAt action finding pages pages' (i + n) n machines
finds_there action finding pages pages' n zero [] machine rest e finds paged = absurd cc
finds_there action finding pages pages' n zero (m ∷ ms) machine rest e finds paged =
    let same : m ≡ machine = cc in
    subst (λ k. FindsAt action finding pages pages' (zero + n) n (k ∷ ms)) (sym same) (inl (omega arith, (finds, paged)))
finds_there action finding pages pages' n (suc i) [] machine rest e finds paged = absurd cc
finds_there action finding pages pages' n (suc i) (m ∷ ms) machine rest e finds paged =
    inr
    (subst (λ number. FindsAt action finding pages pages' number (n + 1) ms) (omega arith)
    (finds_there action finding pages pages' (n + 1) i ms machine rest e finds paged))

-- the machine that stands there stopped where it stood
pub stops_there : (action : Action) (n i : ℕ) (old new : List MachineState) (machine machine' : MachineState)
    (rest rest' : List MachineState) → drop i old ≡ machine ∷ rest → drop i new ≡ machine' ∷ rest' →
    StopsStill (carrying_of machine action).one_step machine machine' → StopsThere action (i + n) n old new
stops_there action n zero [] new machine machine' rest rest' e e' stops = absurd cc
stops_there action n zero (m ∷ ms) [] machine machine' rest rest' e e' stops = absurd cc
stops_there action n zero (m ∷ ms) (k ∷ ks) machine machine' rest rest' e e' stops =
    let same : m ≡ machine = cc in
    let same' : k ≡ machine' = cc in
    subst (λ x. StopsThere action (zero + n) n (x ∷ ms) (k ∷ ks)) (sym same)
    (subst (λ x. StopsThere action (zero + n) n (machine ∷ ms) (x ∷ ks)) (sym same') (inl (omega arith, stops)))
stops_there action n (suc i) [] new machine machine' rest rest' e e' stops = absurd cc
stops_there action n (suc i) (m ∷ ms) [] machine machine' rest rest' e e' stops = absurd cc
stops_there action n (suc i) (m ∷ ms) (k ∷ ks) machine machine' rest rest' e e' stops =
    inr
    (subst (λ number. StopsThere action number (n + 1) ms ks) (omega arith)
    (stops_there action (n + 1) i ms ks machine machine' rest rest' e e' stops))

-- all machines executed the action
pub all_so_far : (action : Action) (place : ℕ) (events : List Event) (i : ℕ) (old new : List MachineState) →
    SoFar action place events i None old new → length new ≤ i → Each (Does action events) old new
all_so_far action place events i old new so_far end =
    let none : drop i old ≡ [] = sym so_far.rest ∙ drop_all i new end in
    let all : take i new ++ [] ≡ new = append-nil (take i new) ∙ take_all i new end in
    subst (λ xs. Each (Does action events) old xs) all
    (so_far.leads [] None (subst (λ xs. AllAlike action events None xs []) (sym none) tt))

pub other_so_far : (action : Action) (place : ℕ) (events : List Event) (i other : ℕ) (old new : List MachineState) →
    SoFar action place events i (Some other) old new → length new ≤ i → DiffersFrom action events other 2 old
other_so_far action place events i other old new so_far end =
    let none : drop i old ≡ [] = sym so_far.rest ∙ drop_all i new end in
    let failure : Failure = record { place = place; profile = other; reason = reasons.Differs } in
    let wrong =
    so_far.leads [] (Some failure)
    (refl, subst (λ xs. WrongWhere action events (i + 2) (Some other) xs other reasons.Differs) (sym none) (refl, tt)) in
    wrong.1
