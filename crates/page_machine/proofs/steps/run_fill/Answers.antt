use Rattle.std.proofs.Common.{◌∙◌}
use Rattle.pcl_items.specs.Items.{amount}
use Rattle.page_env.specs.Answers.{Marks}
use Rattle.page_env.specs.Effect.{Step, effect_of}
use Rattle.page_env.specs.Mark.{areas_of, shapes_of}
use Rattle.page_env.specs.Rectangles.{fill_rectangle}
use Rattle.page_env.specs.Settings.{settings_at, state_at}
use Rattle.page_machine.proofs.Still.{still_handed, still_marked}
use Rattle.page_machine.proofs.steps.run_fill.Goals as goal

pub returns-clause-run : goal.returns-clause-run
unfolding Marks
returns-clause-run g c = λ conditions.
    c.hand_over.ensures.run conditions
    (λ panel. effect_of (settings_at panel c.args.page.now.env)
    (Step (fill_rectangle c.args.profile.now (state_at panel c.args.page.now) (amount c.args.n))))
    (λ panel. c.fill_rectangle.ensures.0 panel ∙ c.marked-filled.ensures panel c.fill_rectangle.new.page)

pub returns-clause-still : goal.returns-clause-still
unfolding Marks
returns-clause-still g c =
    still_handed c.args.page.now c.fill_rectangle.new.page c.marked-filled.result c.hand_over.result c.hand_over.ensures.found
    (still_marked areas_of shapes_of c.args.page.now c.fill_rectangle.new.page c.fill_rectangle.result c.marked-filled.result
    c.marked-filled.ensures c.fill_rectangle.ensures.1)
