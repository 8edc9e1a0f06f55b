use Rattle.std.proofs.Common.{refl}
use Rattle.preflight.proofs.Answered.{all_admit_next}
use Rattle.preflight.proofs.Loops.{answered, goes_behind, goes_here, goes_none, goes_open, item_behind, may_again, on_behind, on_open}
use Rattle.preflight.proofs.checking.Checking.execute_plot.Goals as goal

pub loop-self-init : goal.loop-self-init
loop-self-init g c = goes_none _ c.requires

-- ---- what leads within a box

pub execute_in_box-requires : goal.execute_in_box-requires
execute_in_box-requires g c = may_again _ _ c.loop-self.invariant

pub returns-then-not-execute_in_box : goal.returns-then-not-execute_in_box
returns-then-not-execute_in_box g c =
    answered _ _ _ _ c.if-not-execute_in_box.true (on_behind _ _ _ _ c.loop-self.invariant c.execute_in_box.ensures)

-- ---- any other move

pub step_other-requires-clause-running : goal.step_other-requires-clause-running
step_other-requires-clause-running g c =
    let goes = goes_behind _ _ _ _ c.loop-self.invariant c.if-not-execute_in_box.false c.execute_in_box.ensures in
    goes.through.running

pub step_other-requires-clause-admitted : goal.step_other-requires-clause-admitted
step_other-requires-clause-admitted g c =
    let goes = goes_behind _ _ _ _ c.loop-self.invariant c.if-not-execute_in_box.false c.execute_in_box.ensures in
    all_admit_next _ _ _ c.in-Some.ensures.moves _ _ refl _ goes.through.modes

pub step_other-requires-clause-open : goal.step_other-requires-clause-open
step_other-requires-clause-open g c =
    let goes = goes_behind _ _ _ _ c.loop-self.invariant c.if-not-execute_in_box.false c.execute_in_box.ensures in
    goes.stands

pub loop-self-preserved : goal.loop-self-preserved
loop-self-preserved g c =
    let goes = goes_behind _ _ _ _ c.loop-self.invariant c.if-not-execute_in_box.false c.execute_in_box.ensures in
    let step = c.step_other.ensures in
    goes_open _ _ _ c.if-not-step_other.false
    (item_behind _ _ _ _ c.one_reading.ensures c.watched_runs_are_alike.ensures _ _ _ refl goes c.in-Some.ensures.moves step.open
    step.told step.untold step.came)

pub returns-then-not-step_other : goal.returns-then-not-step_other
returns-then-not-step_other g c =
    let goes = goes_behind _ _ _ _ c.loop-self.invariant c.if-not-execute_in_box.false c.execute_in_box.ensures in
    let step = c.step_other.ensures in
    answered _ _ _ _ c.if-not-step_other.true
    (item_behind _ _ _ _ c.one_reading.ensures c.watched_runs_are_alike.ensures _ _ _ refl goes c.in-Some.ensures.moves step.open
    step.told step.untold step.came)

-- ---- nothing of a plot

pub returns-in_default : goal.returns-in_default
returns-in_default g c =
    let goes = goes_behind _ _ _ _ c.loop-self.invariant c.if-not-execute_in_box.false c.execute_in_box.ensures in
    on_open _ _ (goes_here _ _ _ c.in_default.ensures.none goes)
