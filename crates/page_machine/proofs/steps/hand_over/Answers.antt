use Rattle.std.proofs.Common.{ap}
use Rattle.page_machine.specs.Run.{effect_run}
use Rattle.page_machine.proofs.Composed.{Follows-found}
use Rattle.page_machine.proofs.Still.{none_found}
use Rattle.page_machine.proofs.steps.hand_over.Goals as goal

pub returns-in-Err-clause-run : goal.returns-in-Err-clause-run
returns-in-Err-clause-run g c = λ conditions effect is.
    Follows-found _ _ _ _ _ _ _ (λ panel. ap (effect_run (conditions panel)) (rw c.in-Err.is at is panel))

pub returns-in-Ok-clause-run : goal.returns-in-Ok-clause-run
returns-in-Ok-clause-run g c = λ conditions effect is. c.hand_over_mark.ensures.run conditions effect (λ panel. rw c.in-Ok.is at is panel)

pub returns-in-Err-clause-found : goal.returns-in-Err-clause-found
returns-in-Err-clause-found g c = c.in-Err.is

pub returns-in-Ok-clause-found : goal.returns-in-Ok-clause-found
returns-in-Ok-clause-found g c = none_found c.args.marked.now c.hand_over_mark.result c.hand_over_mark.ensures.never
