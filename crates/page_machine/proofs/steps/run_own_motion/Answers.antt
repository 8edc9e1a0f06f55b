use Rattle.std.proofs.Common.{◌∙◌}
use Rattle.page_env.specs.Answers.{Marks}
use Rattle.page_env.specs.Effect.{Step, effect_of}
use Rattle.page_env.specs.Pens.{motion_step}
use Rattle.page_env.specs.Settings.{settings_at, state_at}
use Rattle.page_machine.proofs.steps.run_own_motion.Goals as goal

pub returns : goal.returns
unfolding Marks
returns g c = λ to conditions.
    c.hand_over.ensures.run conditions
    (λ panel. effect_of (settings_at panel c.args.page.now.env)
    (Step (motion_step c.args.profile.now (state_at panel c.args.page.now) c.args.motion)))
    (λ panel. c.carry_out_motion.ensures.0 panel ∙ c.marked-drawn.ensures panel c.carry_out_motion.new.page)
