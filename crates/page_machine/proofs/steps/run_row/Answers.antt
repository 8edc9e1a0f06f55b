use Rattle.page_env.specs.Answers.{Marks}
use Rattle.page_env.specs.Effect.{Step, effect_of}
use Rattle.page_env.specs.Rasters.{print_row}
use Rattle.page_env.specs.Settings.{settings_at, state_at}
use Rattle.page_machine.proofs.Still.{still_handed}
use Rattle.page_machine.proofs.steps.run_row.Goals as goal

pub returns-clause-run : goal.returns-clause-run
unfolding Marks
returns-clause-run g c = λ conditions.
    c.hand_over.ensures.run conditions
    (λ panel. effect_of (settings_at panel c.args.page.now.env)
    (Step (print_row c.args.profile.now (state_at panel c.args.page.now) c.args.bytes.now)))
    c.print_row-printed.ensures.0

pub returns-clause-still : goal.returns-clause-still
unfolding Marks
returns-clause-still g c =
    still_handed c.args.page.now c.print_row-printed.new.page c.print_row-printed.result c.hand_over.result c.hand_over.ensures.found
    c.print_row-printed.ensures.1
