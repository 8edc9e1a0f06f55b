use Rattle.std.proofs.Common.{◌∙◌}
use Rattle.page_env.specs.Answers.{Marks}
use Rattle.page_env.specs.Effect.{Step, effect_of}
use Rattle.page_env.specs.Settings.{settings_at, state_at}
use Rattle.page_env.specs.Text.{print_transparent}
use Rattle.page_machine.proofs.steps.run_byte.Goals as goal

pub returns : goal.returns
unfolding Marks
returns g c = λ conditions.
    c.hand_over.ensures.run conditions
    (λ panel. effect_of (settings_at panel c.args.page.now.env)
    (Step (print_transparent c.args.profile.now (state_at panel c.args.page.now) c.args.code)))
    (λ panel. c.print_transparent.ensures.0 panel ∙ c.marked-printed.ensures panel c.print_transparent.new.page)
