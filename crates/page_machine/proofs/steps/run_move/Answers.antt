use Rattle.std.proofs.Common.{◌∙◌}
use Rattle.page_env.specs.Answers.{Marks}
use Rattle.page_env.specs.Effect.{Step, effect_of}
use Rattle.page_env.specs.Pens.{move_pen}
use Rattle.page_env.specs.Settings.{settings_at, state_at}
use Rattle.page_machine.proofs.steps.run_move.Goals as goal

pub returns : goal.returns
unfolding Marks
returns g c = λ conditions.
    c.hand_over.ensures.run conditions
    (λ panel. effect_of (settings_at panel c.args.page.now.env)
    (Step (move_pen c.args.profile.now (state_at panel c.args.page.now) (c.args.to.x.units, c.args.to.y.units))))
    (λ panel. c.move_pen.ensures.0 panel ∙ c.marked-drawn.ensures panel c.move_pen.new.page)
