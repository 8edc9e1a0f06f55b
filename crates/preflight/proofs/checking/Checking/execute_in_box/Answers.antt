use Rattle.std.proofs.Common.{refl}
use Rattle.preflight.proofs.Answered.{all_admit_next, further, item_through, through_both}
use Rattle.preflight.proofs.Loops.{goes_behind, goes_here, goes_none, goes_unmoved, item_behind, may_again, on_behind, on_open}
use Rattle.preflight.proofs.checking.Checking.execute_in_box.Goals as goal

pub returns-in_default : goal.returns-in_default
returns-in_default g c = on_open _ _ (goes_none _ c.requires)

pub loop-is_open-init : goal.loop-is_open-init
loop-is_open-init g c = record { draws = c.in-Some.ensures; goes = goes_none _ c.requires }

-- ---- further pairs

pub execute_further-requires-clause-may : goal.execute_further-requires-clause-may
execute_further-requires-clause-may g c = may_again _ _ c.loop-is_open.invariant.goes

pub returns-in-Some-execute_further : goal.returns-in-Some-execute_further
returns-in-Some-execute_further g c = on_behind _ _ _ _ c.loop-is_open.invariant.goes c.in-Some-execute_further.ensures.left

-- ---- any other move

pub returns-in_default-next_pen_move : goal.returns-in_default-next_pen_move
returns-in_default-next_pen_move g c =
    let so_far = goes_behind _ _ _ _ c.loop-is_open.invariant.goes refl c.in_default-execute_further.ensures.stays.0 in
    on_open _ _ (goes_here _ _ _ c.in_default-next_pen_move.ensures.none so_far)

pub draw_pair-requires-clause-running : goal.draw_pair-requires-clause-running
draw_pair-requires-clause-running g c =
    let so_far = goes_behind _ _ _ _ c.loop-is_open.invariant.goes refl c.in_default-execute_further.ensures.stays.0 in
    so_far.through.running

pub draw_pair-requires-clause-draws : goal.draw_pair-requires-clause-draws
draw_pair-requires-clause-draws g c = c.in_default-execute_further.ensures.stays.1

pub loop-is_open-preserved : goal.loop-is_open-preserved
loop-is_open-preserved g c =
    let so_far = goes_behind _ _ _ _ c.loop-is_open.invariant.goes refl c.in_default-execute_further.ensures.stays.0 in
    let next = c.in-Some-next_pen_move.ensures.moves in
    let drawn = c.draw_pair.ensures in
    record {
      draws = drawn.still c.if-not-draw_pair.false;
      goes = record {
        stands = so_far.stands;
        untold = so_far.untold;
        further = further _ _ _ _ _ _ refl next so_far.further;
        through =
            through_both _ _ _ _ _ _ _ _ _ so_far.through
            (item_through _ _ _ next _ _ refl _ _ _ _ so_far.through.modes (drawn.drawn c.if-not-draw_pair.false));
      };
    }

pub step_other-requires-clause-running : goal.step_other-requires-clause-running
step_other-requires-clause-running g c =
    let so_far = goes_behind _ _ _ _ c.loop-is_open.invariant.goes refl c.in_default-execute_further.ensures.stays.0 in
    let goes = goes_unmoved _ _ _ (c.draw_pair.ensures.same c.if-not-draw_pair.true) so_far in
    goes.through.running

pub step_other-requires-clause-admitted : goal.step_other-requires-clause-admitted
step_other-requires-clause-admitted g c =
    let so_far = goes_behind _ _ _ _ c.loop-is_open.invariant.goes refl c.in_default-execute_further.ensures.stays.0 in
    let goes = goes_unmoved _ _ _ (c.draw_pair.ensures.same c.if-not-draw_pair.true) so_far in
    all_admit_next _ _ _ c.in-Some-next_pen_move.ensures.moves _ _ refl _ goes.through.modes

pub step_other-requires-clause-open : goal.step_other-requires-clause-open
step_other-requires-clause-open g c =
    let so_far = goes_behind _ _ _ _ c.loop-is_open.invariant.goes refl c.in_default-execute_further.ensures.stays.0 in
    so_far.stands

pub returns-then-not-draw_pair : goal.returns-then-not-draw_pair
returns-then-not-draw_pair g c =
    let so_far = goes_behind _ _ _ _ c.loop-is_open.invariant.goes refl c.in_default-execute_further.ensures.stays.0 in
    let goes = goes_unmoved _ _ _ (c.draw_pair.ensures.same c.if-not-draw_pair.true) so_far in
    let step = c.step_other.ensures in
    item_behind _ _ _ _ c.one_reading.ensures c.watched_runs_are_alike.ensures _ _ _ refl goes c.in-Some-next_pen_move.ensures.moves
    step.open step.told step.untold step.came
