use Rattle.std.proofs.Common.{Option, ap, not, ◌∙◌}
use Rattle.page_machine.specs.Event.{Event}
use Rattle.comparison.specs.Running.{is_open}
use Rattle.page_comparison.specs.Reading.{is_over_by}
use Rattle.page_comparison.proofs.reading.is_over.Goals as goal

pub returns-in-Some : goal.returns-in-Some
returns-in-Some g c = ap (λ (o : Option Event). is_over_by o (is_open c.args.job.now.run.progress)) c.in-Some.ensures

pub returns-in-None : goal.returns-in-None
returns-in-None g c =
    ap not c.is_open.ensures
    ∙ ap (λ (o : Option Event). is_over_by o (is_open c.args.job.now.run.progress)) c.in-None.ensures
