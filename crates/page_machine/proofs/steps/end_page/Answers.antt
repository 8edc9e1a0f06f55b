use Rattle.std.proofs.Common.{[], ◌∷◌, ap}
use Rattle.page_env.specs.Settings.{state_at}
use Rattle.page_machine.specs.Event.{Ended}
use Rattle.page_machine.specs.Run.{just}
use Rattle.page_machine.specs.Macros.{ended}
use Rattle.page_machine.proofs.Composed.{Follows-taken, Follows-refused}
use Rattle.page_machine.proofs.steps.end_page.Goals as goal

pub returns-in-Err : goal.returns-in-Err
returns-in-Err g c =
    Follows-refused _ _ _ _ _ (Ended c.args.end) _ _ (λ panel. just [] (ended (state_at panel c.args.page.now)).ending) _
    (λ panel. ap (λ e. just (Ended e ∷ []) (ended (state_at panel c.args.page.now)).ending) (c.requires panel)) c.in-Err.ensures.err

pub returns-in-Ok : goal.returns-in-Ok
returns-in-Ok g c =
    Follows-taken _ _ _ _ _ (Ended c.args.end) _ _ _
    (λ panel. ap (λ e. just (Ended e ∷ []) (ended (state_at panel c.args.page.now)).ending) (c.requires panel)) c.in-Ok.ensures.ok
