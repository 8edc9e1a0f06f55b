use Rattle.std.proofs.Common.{refl, sym, subst}
use Rattle.pcl_items.specs.Items.{view}
use Rattle.preflight.specs.Carriers.FleetMode.{GoesAsOne}
use Rattle.preflight.specs.Carriers.Lockstep.{Execute, Fleet, AreRunning, AllAdmit}
use Rattle.preflight.proofs.Counting.{counter_takes, counter_refuses}
use Rattle.preflight.proofs.Executing.{as_one_formed, item_in_step, was_running}
use Rattle.preflight.proofs.lockstep.Lockstep.step.Goals.{then-goes_as_one, else-goes_as_one}
use Rattle.preflight.proofs.lockstep.Lockstep.step.Goals as goal

pub step-answer-requires : goal.step-answer-requires
step-answer-requires g c = λ _.
    (subst (λ (f : Fleet). AllAdmit (Execute (view c.args.item.now)) f.machines) (sym c.self.view_is) c.requires.admitted).0

pub judge-is_open-requires-clause-running : goal.judge-is_open-requires-clause-running
judge-is_open-requires-clause-running g c =
    was_running counter_takes counter_refuses
    (Execute (view c.args.item.now)) _ _ c.self.inside.first c.step-answer.new.self c.step-answer.result
    (subst (λ (f : Fleet). AreRunning f.machines) (sym c.self.view_is) c.requires.running).0 c.step-answer.ensures

pub invariant_of-self : goal.invariant_of-self
invariant_of-self g c = λ runs.
    let before = c.self.inside in
    let item = view c.args.item.now in
    let running = (subst (λ (f : Fleet). AreRunning f.machines) (sym c.self.view_is) c.requires.running).0 in
    let goes =
    subst (λ ms. GoesAsOne before.fleet_mode before.first ms item) c.deref.ensures.value (c.goes_as_one.ensures c.if-goes_as_one.true) in
    as_one_formed c.items_run_on_like_printers.ensures item before.fleet_mode before.counts c.step-answer.new.sink before.first
    c.step-answer.new.self before.others.items (c.self.invariant running) goes
    c.step-answer.result running runs c.step-answer.ensures

pub returns-then-not-is_open-clause-came : goal.returns-then-not-is_open-clause-came
returns-then-not-is_open-clause-came g c = elim c.if-goes_as_one.branch [
  | then-goes_as_one w ↦
      let before = c.self.inside in
      let item = view c.args.item.now in
      let running = (subst (λ (f : Fleet). AreRunning f.machines) (sym c.self.view_is) c.requires.running).0 in
      let goes =
      subst (λ ms. GoesAsOne before.fleet_mode before.first ms item) c.deref.ensures.value
      (c.goes_as_one.ensures w.if-goes_as_one.true) in
      rw (w.self-is, w.state-is)
      (item_in_step c.items_run_on_like_printers.ensures item before.fleet_mode before.counts w.step-answer.new.sink before.first
      w.step-answer.new.self before.others.items (c.self.invariant running) goes
      item refl c.args.self.now c.self.view_is c.args.place w.step-answer.result w.judge-is_open.new.self
      w.judge-is_open.ensures.standing w.step-answer.ensures)
  | else-goes_as_one w ↦ rw (w.self-is, w.state-is) w.step_apart-is_open.ensures.came
]

pub returns-else-not-is_open-clause-came : goal.returns-else-not-is_open-clause-came
returns-else-not-is_open-clause-came g c = elim c.if-goes_as_one.branch [
  | then-goes_as_one w ↦
      let before = c.self.inside in
      let item = view c.args.item.now in
      let running = (subst (λ (f : Fleet). AreRunning f.machines) (sym c.self.view_is) c.requires.running).0 in
      let goes =
      subst (λ ms. GoesAsOne before.fleet_mode before.first ms item) c.deref.ensures.value
      (c.goes_as_one.ensures w.if-goes_as_one.true) in
      rw (w.self-is, w.state-is)
      (item_in_step c.items_run_on_like_printers.ensures item before.fleet_mode before.counts w.step-answer.new.sink before.first
      w.step-answer.new.self before.others.items (c.self.invariant running) goes
      item refl c.args.self.now c.self.view_is c.args.place w.step-answer.result w.judge-is_open.new.self
      w.judge-is_open.ensures.standing w.step-answer.ensures)
  | else-goes_as_one w ↦ rw (w.self-is, w.state-is) w.step_apart-is_open.ensures.came
]

pub returns-else-not-is_open-clause-open : goal.returns-else-not-is_open-clause-open
returns-else-not-is_open-clause-open g c = elim c.if-goes_as_one.branch [
  | then-goes_as_one w ↦ rw (w.is_open-is, w.state-is) w.judge-is_open.ensures.open
  | else-goes_as_one w ↦ rw (w.is_open-is, w.state-is) w.step_apart-is_open.ensures.open
]
