use Rattle.std.proofs.Common.{refl, arith}
use Rattle.preflight.proofs.Answered.{all_admit_next, item_takes}
use Rattle.preflight.proofs.Loops.{answered, goes_here, goes_none, goes_open, item_behind, on_open}
use Rattle.preflight.proofs.RowItems.{row_is_next, none_is_next}
use Rattle.preflight.proofs.checking.Checking.execute_rows.Goals as goal

pub loop-row-init : goal.loop-row-init
loop-row-init g c = goes_none _ c.requires

pub step-requires-clause-admitted : goal.step-requires-clause-admitted
step-requires-clause-admitted g c =
    let next = row_is_next _ _ _ c.next_row.follows.holds-at-none c.in-Some.row c.in-Some.is in
    all_admit_next _ _ _ next.0 _ _ refl _ c.loop-row.invariant.through.modes

pub loop-row-preserved : goal.loop-row-preserved
loop-row-preserved g c =
    let next = row_is_next _ _ _ c.next_row.follows.holds-at-none c.in-Some.row c.in-Some.is in
    let step = c.step.ensures in
    goes_open _ _ _ c.if-not-step.false
    (item_behind _ _ _ _ c.one_reading.ensures c.watched_runs_are_alike.ensures _ _ _ refl c.loop-row.invariant next.0 step.open
    step.told step.untold step.came)

pub loop-row-smaller : goal.loop-row-smaller
loop-row-smaller g c =
    let next = row_is_next _ _ _ c.next_row.follows.holds-at-none c.in-Some.row c.in-Some.is in
    omega (arith, item_takes _ _ _ next.0 _ _ refl)

pub returns-in-None : goal.returns-in-None
returns-in-None g c = on_open _ _ (goes_here _ _ _ (none_is_next _ _ _ c.next_row.follows.holds-at-none c.in-None.is) c.loop-row.invariant)

pub returns-then-not-step : goal.returns-then-not-step
returns-then-not-step g c =
    let next = row_is_next _ _ _ c.next_row.follows.holds-at-none c.in-Some.row c.in-Some.is in
    let step = c.step.ensures in
    answered _ _ _ _ c.if-not-step.true
    (item_behind _ _ _ _ c.one_reading.ensures c.watched_runs_are_alike.ensures _ _ _ refl c.loop-row.invariant next.0 step.open
    step.told step.untold step.came)
