use Rattle.std.proofs.Common.{ℤ, None, Some, ap}
use Rattle.pcl_items.specs.Items.{Move, pair}
use Rattle.page_env.specs.Settings.{state_at}
use Rattle.page_machine.specs.Run.{move_run, own_run, begun_run}
use Rattle.page_machine.proofs.Composed.{Follows-handed, Follows-is, Follows-onward}
use Rattle.page_machine.proofs.Printing.{Follows-undrawn}
use Rattle.page_machine.proofs.steps.move_and_draw.Goals as goal

pub returns-in_err-run_own_motion : goal.returns-in_err-run_own_motion
returns-in_err-run_own_motion g c = λ conditions.
    Follows-handed _ _ _ _ _ _ _ c.in_err-run_own_motion.field-0.0 c.from_residual.result c.from_residual.ensures.1
    (Follows-undrawn _ _ _ _ _ _ c.args.profile.now conditions
    (λ panel. own_run c.args.profile.now (conditions panel) (Move c.args.motion (pair c.args.to)) (state_at panel c.args.page.now)) _
    (pair c.args.to)
    (c.in_err-run_own_motion.ensures (pair c.args.to) conditions))

pub returns-in-None : goal.returns-in-None
returns-in-None g c = λ conditions.
    Follows-is _ _ _ _ _ _ _ _ _ (λ panel.
    ap (λ to. begun_run c.args.profile.now (conditions panel) (Move c.args.motion (pair to)) (state_at panel c.args.page.now)) c.in-None.is)
    (c.in_ok-run_own_motion.ensures None conditions)

pub returns-in-Some : goal.returns-in-Some
returns-in-Some g c = λ conditions.
    let to : ℤ × ℤ = (c.in-Some.to.x.units, c.in-Some.to.y.units) in
    Follows-is _ _ _ _ _ _ _ _ _ (λ panel.
    ap (λ o. begun_run c.args.profile.now (conditions panel) (Move c.args.motion (pair o)) (state_at panel c.args.page.now)) c.in-Some.is)
    (Follows-onward _ _ _ _ _ _ c.run_own_motion.new.page _
    (λ panel. own_run c.args.profile.now (conditions panel) (Move c.args.motion (Some to)) (state_at panel c.args.page.now))
    (λ panel. move_run c.args.profile.now (conditions panel) to) _ _
    (c.in_ok-run_own_motion.ensures (Some to) conditions) (c.run_move.ensures conditions))
