use Rattle.preflight.proofs.FormsInStep.{none_kept, some_kept}
use Rattle.preflight.proofs.pcl.execute_ahead.Goals as goal

pub returns-in-Some-clause-known : goal.returns-in-Some-clause-known
returns-in-Some-clause-known g c = some_kept _ _ c.args.known.now (λ bounds. c.execute_on_page.ensures.kept bounds) c.requires.known

pub returns-in-None-clause-measured : goal.returns-in-None-clause-measured
returns-in-None-clause-measured g c = none_kept _ _ c.forget_measure.ensures
