use Rattle.std.proofs.Common.{map, sym, ◌∙◌}
use Rattle.std.proofs.lemmas.Result.{IfOk-weaker}
use Rattle.sinks.specs.Owned.{event_of}
use Rattle.comparison.specs.Comparing.{ItemCompares, StepCompares}
use Rattle.comparison.specs.Comparison.{made_at}
use Rattle.comparison.proofs.Ends.{errors_of_new, on_ok_always, read_no_old}
use Rattle.comparison.proofs.SoFar.{made_last, step_compares}
use Rattle.comparison.proofs.compare.compare_next.Goals as goal

pub returns-in-Ok-clause-compared : goal.returns-in-Ok-clause-compared
returns-in-Ok-clause-compared g c =
    let old_now = g.S.Source.state c.args.old_job.now in
    let old_now' = g.S.Source.state c.step.new.source in
    let new_now = g.T.Source.state c.args.new_job.now in
    let new_now' = g.T.Source.state c.compare_made.new.new_job in
    let made = made_at c.place.result (map event_of c.events.result.now) in
    IfOk-weaker c.compare_made.result
    (ItemCompares new_now new_now' c.args.spot.now c.compare_made.new.spot made c.args.second.now c.compare_made.new.second)
    (StepCompares old_now old_now' new_now new_now' c.args.first.now c.step.new.self c.args.spot.now c.compare_made.new.spot
    c.args.second.now c.compare_made.new.second)
    (step_compares old_now old_now' new_now new_now' c.args.first.now c.step.new.self c.args.spot.now c.compare_made.new.spot
    c.args.second.now c.compare_made.new.second made
    (made_last c.step.new.self c.place.result (map event_of c.events.result.now) c.place.ensures c.events.ensures) c.in-Ok.ensures.run)
    c.compare_made.ensures.compared

pub returns-in-Ok-clause-less : goal.returns-in-Ok-clause-less
returns-in-Ok-clause-less g c = on_ok_always c.compare_made.result c.in-Ok.ensures.less

pub returns-in-Ok-clause-old_read : goal.returns-in-Ok-clause-old_read
returns-in-Ok-clause-old_read g c = c.in-Ok.ensures.read ∙ sym (read_no_old c.compare_made.result c.compare_made.ensures.err)

pub returns-in-Ok-clause-err : goal.returns-in-Ok-clause-err
returns-in-Ok-clause-err g c = errors_of_new c.compare_made.result c.compare_made.ensures.err
