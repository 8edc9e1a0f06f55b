use Rattle.std.proofs.Common.{◌∙◌, refl}
use Rattle.preflight.proofs.Answered.{all_admit_next, further, item_through, through_both}
use Rattle.preflight.proofs.Loops.{goes_here, goes_none, goes_unmoved, item_behind, on_open}
use Rattle.preflight.proofs.checking.Checking.execute_down.Goals as goal

pub loop-read-init : goal.loop-read-init
loop-read-init g c = record { draws = c.requires.draws; goes = goes_none _ c.requires.may; down = c.requires.down }

pub returns-in_default-clause-stays : goal.returns-in_default-clause-stays
returns-in_default-clause-stays g c =
    (on_open _ _ (goes_here _ _ _ c.in_default.ensures.none c.loop-read.invariant.goes), c.loop-read.invariant.draws)

pub loop-read-preserved : goal.loop-read-preserved
loop-read-preserved g c =
    let so_far = c.loop-read.invariant.goes in
    let next = c.in-Some.ensures.pair in
    let drawn = c.draw_pair.ensures in
    record {
      draws = drawn.still c.if-not-draw_pair.false;
      goes = record {
        stands = so_far.stands;
        untold = so_far.untold;
        further = further _ _ _ _ _ _ refl next so_far.further;
        through =
            through_both _ _ _ _ _ _ _ _ _ so_far.through
            (item_through _ _ _ next _ _ refl _ _ _ _ so_far.through.modes (drawn.drawn c.if-not-draw_pair.false));
      };
      down = c.in-Some.ensures.context ∙ c.loop-read.invariant.down;
    }

pub step_other-requires-clause-running : goal.step_other-requires-clause-running
step_other-requires-clause-running g c =
    let goes = goes_unmoved _ _ _ (c.draw_pair.ensures.same c.if-not-draw_pair.true) c.loop-read.invariant.goes in
    goes.through.running

pub step_other-requires-clause-admitted : goal.step_other-requires-clause-admitted
step_other-requires-clause-admitted g c =
    let goes = goes_unmoved _ _ _ (c.draw_pair.ensures.same c.if-not-draw_pair.true) c.loop-read.invariant.goes in
    all_admit_next _ _ _ c.in-Some.ensures.pair _ _ refl _ goes.through.modes

pub returns-then-not-draw_pair-clause-left : goal.returns-then-not-draw_pair-clause-left
returns-then-not-draw_pair-clause-left g c =
    let goes = goes_unmoved _ _ _ (c.draw_pair.ensures.same c.if-not-draw_pair.true) c.loop-read.invariant.goes in
    let step = c.step_other.ensures in
    item_behind _ _ _ _ c.one_reading.ensures c.watched_runs_are_alike.ensures _ _ _ refl goes c.in-Some.ensures.pair step.open
    step.told step.untold step.came
