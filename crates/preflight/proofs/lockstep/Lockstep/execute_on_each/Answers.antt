use Rattle.std.proofs.Common.{◌≡◌, ◌∷◌, [], List, map, take, drop, length, ◌++◌, Option, None, Some, refl, sym, ap, subst, ◌∙◌, inl, arith}
use Rattle.page_machine.specs.Event.{Event}
use Rattle.page_machine.specs.MachineState.{MachineState}
use Rattle.sinks.specs.Owned.{event_of}
use Rattle.sinks.specs.Recorder.{Recorded}
use Rattle.sinks.proofs.Recording.{recorder_takes}
use Rattle.preflight.specs.CheckState.{StandsBy}
use Rattle.page_machine.specs.Defining.{is_defining}
use Rattle.preflight.specs.Carriers.FleetMode.{others_in, joined_as, IsFormed}
use Rattle.verdict.specs.declared.failure.Failure.{Failure}
use Rattle.preflight.specs.Carriers.Lockstep.{Action, action_of, AllAdmit, AreRunning, Compared, CountsPages, FindsAt, Fleet, FoundFrom}
use Rattle.preflight.specs.Carriers.Lockstep.{GoesInStep, StopsFor, StopsThere, counts_of, machines_of}
use Rattle.preflight.proofs.Executing.{does_by, fails_by, pages_recorded, parted, step_recorded, was_running, written_back}
use Rattle.preflight.proofs.CheckStates.{closed_on, open_by, open_is, open_is_none}
use Rattle.preflight.proofs.Rejoining.{joins, joined_in_step}
use Rattle.preflight.proofs.lockstep.Lockstep.execute_on_each.Given.{Over}
use Rattle.preflight.proofs.lockstep.Lockstep.execute_on_each.Goals.{After-counts-self-inside-2}
use Rattle.preflight.proofs.lockstep.Lockstep.execute_on_each.Goals as goal

-- where a recorder refuses an event it is as before
abbrev recorder_refuses : Recorded → Event → Recorded → Type 0
recorder_refuses old event new = new ≡ old

pub part-requires : goal.part-requires
part-requires g c =
    subst (IsFormed c.self.inside.fleet_mode c.self.inside.first) (sym c.deref_mut.ensures.value)
    (c.self.invariant (subst (λ (f : Fleet). AreRunning f.machines) (sym c.self.view_is) c.requires.running).0)

pub execute_by-answer-requires : goal.execute_by-answer-requires
execute_by-answer-requires g c =
    (subst (λ (f : Fleet). AllAdmit (action_of c.args.task.now) f.machines) (sym c.self.view_is) c.requires.admitted).0

pub judge-requires-clause-running : goal.judge-requires-clause-running
judge-requires-clause-running g c =
    was_running recorder_takes recorder_refuses
    (action_of c.args.task.now) _ _ c.self.inside.first c.execute_by-answer.new.machine c.execute_by-answer.result
    (subst (λ (f : Fleet). AreRunning f.machines) (sym c.self.view_is) c.requires.running).0 c.execute_by-answer.ensures

pub returns-then-not-judge-clause-came : goal.returns-then-not-judge-clause-came
returns-then-not-judge-clause-came g c =
    let action = action_of c.args.task.now in
    let begun : Recorded = record { events = []; counts = c.self.inside.counts } in
    let counts = c.counts-self-inside.result in
    let others = c.self.inside.others in
    let parts : List MachineState = take others.len (c.part.new.others ++ drop (length c.part.new.others) others.items) in
    fails_by recorder_takes recorder_refuses action _ _ c.self.inside.first c.execute_by-answer.new.machine _
    c.args.place 1 c.execute_by-answer.result c.judge.new.self c.judge.ensures.standing
    (sym c.judge.ensures.open ∙ c.if-not-judge.true) c.execute_by-answer.ensures
    (λ finding finds leads stopped. (
      refl,
      subst (λ (f : Fleet). FoundFrom action finding 1 1 f.machines) c.self.view_is (inl (refl, finds)),
      subst (λ (f : Fleet). FindsAt action finding f.counts.pages counts.pages 1 1 f.machines) c.self.view_is (inl (
        refl,
        (
          finds,
          pages_recorded begun c.restart.new.self c.execute_by-answer.new.sink finds.events counts c.restart.ensures leads
              c.counts-self-inside.ensures,
        ),
      )),
      subst (λ (f : Fleet). StopsThere action 1 1 f.machines (c.execute_by-answer.new.machine ∷ parts)) c.self.view_is
          (inl (refl, stopped)),
    ))

pub execute_by_others-requires-clause-running : goal.execute_by_others-requires-clause-running
execute_by_others-requires-clause-running g c =
    let before = c.self.inside in
    let n = before.others.len in
    let stand =
    parted before.fleet_mode before.first n before.others.items c.deref_mut.result.now c.part.new.others c.deref_mut-2.result.now
    c.deref_mut-2.ensures.value c.part.ensures c.deref_mut.ensures.value (omega (arith, c.part.auto.others, c.deref_mut.ensures.len))
    (omega (arith, before.others.ok.0)) in
    subst AreRunning (sym stand) (subst (λ (f : Fleet). AreRunning f.machines) (sym c.self.view_is) c.requires.running).1

pub execute_by_others-requires-clause-admitted : goal.execute_by_others-requires-clause-admitted
execute_by_others-requires-clause-admitted g c =
    let before = c.self.inside in
    let n = before.others.len in
    let stand =
    parted before.fleet_mode before.first n before.others.items c.deref_mut.result.now c.part.new.others c.deref_mut-2.result.now
    c.deref_mut-2.ensures.value c.part.ensures c.deref_mut.ensures.value (omega (arith, c.part.auto.others, c.deref_mut.ensures.len))
    (omega (arith, before.others.ok.0)) in
    let action = action_of c.args.task.now in
    subst (AllAdmit action) (sym stand) (subst (λ (f : Fleet). AllAdmit action f.machines) (sym c.self.view_is) c.requires.admitted).1

pub execute_by_others-requires-clause-open : goal.execute_by_others-requires-clause-open
execute_by_others-requires-clause-open g c = open_is c.judge.new.self (sym c.judge.ensures.open ∙ c.if-not-judge.false)

-- the others, where one of them fails
pub returns-then-not-execute_by_others-clause-came : goal.returns-then-not-execute_by_others-clause-came
returns-then-not-execute_by_others-clause-came g c =
    let before = c.self.inside in
    let n = before.others.len in
    let action = action_of c.args.task.now in
    let first = c.execute_by-answer.new.machine in
    let after = c.execute_by-answer.new.sink in
    let others = c.execute_by_others.new.others in
    let counts = c.execute_by_others.new.counts in
    let lent = c.deref_mut-2.result.now in
    let stood : List MachineState = others_in before.fleet_mode before.first before.others.items in
    let begun : Recorded = record { events = []; counts = before.counts } in
    let events = map event_of c.events-events.result.now in
    let did =
    does_by recorder_takes recorder_refuses action _ after before.first first c.args.place 1 c.execute_by-answer.result c.judge.new.self
    c.judge.ensures.standing (sym c.judge.ensures.open ∙ c.if-not-judge.false) c.execute_by-answer.ensures in
    let items : List MachineState = take n (c.part.new.others ++ drop (length c.part.new.others) before.others.items) in
    let len : length before.others.items ≡ n = omega (arith, before.others.ok.0) in
    let parted_len : length c.part.new.others ≡ n = omega (arith, c.part.auto.others, c.deref_mut.ensures.len) in
    let stand =
    parted before.fleet_mode before.first n before.others.items c.deref_mut.result.now c.part.new.others lent
    c.deref_mut-2.ensures.value c.part.ensures c.deref_mut.ensures.value parted_len len in
    let whole : take n (others ++ drop (length others) items) ≡ others =
    written_back n items others (omega (arith, c.execute_by_others.auto.others, c.deref_mut-2.ensures.len))
    (omega (arith, ap length (sym c.deref_mut-2.ensures.value), c.deref_mut-2.ensures.len)) in
    subst
    (λ (f : Fleet). StandsBy c.execute_by_others.new.state (λ failed.
    GoesInStep action c.args.place f.machines (first ∷ take n (others ++ drop (length others) items)) f.counts counts failed))
    c.self.view_is
    (closed_on
    (λ failed. Compared action c.args.place events 2 lent others failed
    × CountsPages action before.counts.pages counts.pages 2 lent failed × StopsFor action 2 lent others failed)
    (GoesInStep action c.args.place (before.first ∷ stood) (first ∷ take n (others ++ drop (length others) items)) before.counts counts)
    c.execute_by_others.new.state (sym c.execute_by_others.ensures.open ∙ c.if-not-execute_by_others.true)
    (λ failure compared.
    let fails : Option Failure = Some failure in
    subst (λ xs. GoesInStep action c.args.place (before.first ∷ stood) (first ∷ xs) before.counts counts fails) (sym whole)
    (step_recorded action c.args.place before.first first stood others begun c.restart.new.self after did.0 _ counts fails
    c.restart.ensures did.1 did.2 c.events-events.ensures
    (subst (λ xs. Compared action c.args.place events 2 xs others fails) stand compared.0)
    (subst (λ xs. CountsPages action before.counts.pages counts.pages 2 xs fails) stand compared.1)
    (subst (λ xs. StopsFor action 2 xs others fails) stand compared.2)
    (λ none. absurd cc)))
    c.execute_by_others.ensures.came)

-- all machines
module _ (g : Over) (c : After-counts-self-inside-2 g) where
  abbrev action : Action
  action = action_of c.args.task.now

  abbrev before_others : List MachineState
  before_others = others_in c.self.inside.fleet_mode c.self.inside.first c.self.inside.others.items

  abbrev parts : List MachineState
  parts =
      take c.self.inside.others.len
      (c.part.new.others ++ drop (length c.part.new.others) c.self.inside.others.items)

  abbrev behind : List MachineState
  behind =
      take c.self.inside.others.len
      (c.execute_by_others.new.others ++ drop (length c.execute_by_others.new.others) parts)

  went : GoesInStep action c.args.place (c.self.inside.first ∷ before_others) (c.execute_by-answer.new.machine ∷ behind)
      c.self.inside.counts c.counts-self-inside-2.result None
  went =
      let before = c.self.inside in
      let n = before.others.len in
      let first = c.execute_by-answer.new.machine in
      let after = c.execute_by-answer.new.sink in
      let others = c.execute_by_others.new.others in
      let counts = c.counts-self-inside-2.result in
      let lent = c.deref_mut-2.result.now in
      let begun : Recorded = record { events = []; counts = before.counts } in
      let events = map event_of c.events-events.result.now in
      let did =
      does_by recorder_takes recorder_refuses action _ after before.first first c.args.place 1 c.execute_by-answer.result c.judge.new.self
      c.judge.ensures.standing (sym c.judge.ensures.open ∙ c.if-not-judge.false) c.execute_by-answer.ensures in
      let len : length before.others.items ≡ n = omega (arith, before.others.ok.0) in
      let parted_len : length c.part.new.others ≡ n = omega (arith, c.part.auto.others, c.deref_mut.ensures.len) in
      let stand =
      parted before.fleet_mode before.first n before.others.items c.deref_mut.result.now c.part.new.others lent
      c.deref_mut-2.ensures.value c.part.ensures c.deref_mut.ensures.value parted_len len in
      let whole : take n (others ++ drop (length others) parts) ≡ others =
      written_back n parts others (omega (arith, c.execute_by_others.auto.others, c.deref_mut-2.ensures.len))
      (omega (arith, ap length (sym c.deref_mut-2.ensures.value), c.deref_mut-2.ensures.len)) in
      let none : Option Failure = None in
      let compared =
      open_is_none
      (λ failed. Compared action c.args.place events 2 lent others failed
      × CountsPages action before.counts.pages c.execute_by_others.new.counts.pages 2 lent failed × StopsFor action 2 lent others failed)
      c.execute_by_others.new.state (sym c.execute_by_others.ensures.open ∙ c.if-not-execute_by_others.false)
      c.execute_by_others.ensures.came in
      subst (λ xs. GoesInStep action c.args.place (before.first ∷ before_others) (first ∷ xs) before.counts counts none) (sym whole)
      (step_recorded action c.args.place before.first first before_others others begun c.restart.new.self after did.0 _ counts none
      c.restart.ensures did.1 did.2 c.events-events.ensures
      (subst (λ xs. Compared action c.args.place events 2 xs others none) stand compared.0) tt tt (λ same. c.counts-self-inside-2.ensures))

  -- where none fails
  open_by_none : (new : List MachineState) →
      GoesInStep action c.args.place (c.self.inside.first ∷ before_others) new c.self.inside.counts c.counts-self-inside-2.result None →
      StandsBy c.execute_by_others.new.state (λ failed.
      GoesInStep action c.args.place (machines_of c.args.self.now) new (counts_of c.args.self.now) c.counts-self-inside-2.result failed)
  open_by_none new goes =
      subst
      (λ (f : Fleet). StandsBy c.execute_by_others.new.state (λ failed.
      GoesInStep action c.args.place f.machines new f.counts c.counts-self-inside-2.result failed))
      c.self.view_is
      (open_by
      (GoesInStep action c.args.place (c.self.inside.first ∷ before_others) new c.self.inside.counts c.counts-self-inside-2.result)
      c.execute_by_others.new.state
      (open_is c.execute_by_others.new.state (sym c.execute_by_others.ensures.open ∙ c.if-not-execute_by_others.false)) goes)

  formed : IsFormed c.self.inside.fleet_mode c.self.inside.first c.self.inside.others.items
  formed = c.self.invariant (subst (λ (f : Fleet). AreRunning f.machines) (sym c.self.view_is) c.requires.running).0

pub returns-then-not-alike-clause-came : goal.returns-then-not-alike-clause-came
returns-then-not-alike-clause-came g c =
    let at = (goal.at.returns-then-not-alike-clause-came g c).After-counts-self-inside-2 in
    open_by_none g at (c.execute_by-answer.new.machine ∷ behind g at) (went g at)

-- where they stand alike they join again
pub invariant_of-self-2 : goal.invariant_of-self-2
invariant_of-self-2 g c = λ _.
    let at = (goal.at.invariant_of-self-2 g c).After-counts-self-inside-2 in
    subst (λ f. IsFormed f c.execute_by-answer.new.machine (behind g at)) (sym c.joined-self-inside.ensures)
    (joins c.items_run_on_like_printers.ensures c.self.inside.fleet_mode c.self.inside.first c.execute_by-answer.new.machine
    c.self.inside.others.items (behind g at) (formed g at) (action g at) (c.stay_alike-alike.ensures c.if-not-alike.false)
    (went g at).0 (went g at).1)

pub returns-clause-came : goal.returns-clause-came
returns-clause-came g c =
    let at = (goal.at.returns-clause-came g c).After-counts-self-inside-2 in
    let first = c.execute_by-answer.new.machine in
    subst
    (λ f. StandsBy c.execute_by_others.new.state (λ failed.
    GoesInStep (action g at) c.args.place (machines_of c.args.self.now) (first ∷ others_in f first (behind g at))
    (counts_of c.args.self.now) c.counts-self-inside-2.result failed))
    (sym c.joined-self-inside.ensures)
    (open_by_none g at (first ∷ others_in (joined_as (is_defining first.macros)) first (behind g at))
    (joined_in_step c.items_run_on_like_printers.ensures c.self.inside.fleet_mode c.self.inside.first first
    c.self.inside.others.items (behind g at) (formed g at) (action g at) (c.stay_alike-alike.ensures c.if-not-alike.false)
    c.args.place c.self.inside.counts c.counts-self-inside-2.result (went g at)))
