use Rattle.std.proofs.Common.{◌∙◌}
use Rattle.page_env.specs.Answers.{Marks}
use Rattle.page_env.specs.Effect.{Step, effect_of}
use Rattle.page_env.specs.Mark.{characters_of, shapes_of}
use Rattle.page_env.specs.Settings.{settings_at, state_at}
use Rattle.page_env.specs.Text.{print_byte}
use Rattle.page_machine.proofs.Still.{still_handed, still_marked}
use Rattle.page_machine.proofs.steps.run_text.Goals as goal

pub returns-clause-run : goal.returns-clause-run
unfolding Marks
returns-clause-run g c = λ conditions.
    c.hand_over.ensures.run conditions
    (λ panel.
    effect_of (settings_at panel c.args.page.now.env) (Step (print_byte c.args.profile.now (state_at panel c.args.page.now) c.args.code)))
    (λ panel. c.print_byte.ensures.0 panel ∙ c.marked-printed.ensures panel c.print_byte.new.page)

pub returns-clause-still : goal.returns-clause-still
unfolding Marks
returns-clause-still g c =
    still_handed c.args.page.now c.print_byte.new.page c.marked-printed.result c.hand_over.result c.hand_over.ensures.found
    (still_marked characters_of shapes_of c.args.page.now c.print_byte.new.page c.print_byte.result c.marked-printed.result
    c.marked-printed.ensures c.print_byte.ensures.1)
