use Rattle.std.proofs.lemmas.Result.{IfOk-weaker}
use Rattle.comparison.specs.Comparing.{StepCompares}
use Rattle.comparison.proofs.SameLines.{step_behind}
use Rattle.comparison.proofs.compare.compare_step.Goals as goal

pub returns-clause-compared : goal.returns-clause-compared
returns-clause-compared g c =
    let old_now = g.S.Source.state c.args.old_job.now in
    let old_now' = g.S.Source.state c.compare_here.new.old_job in
    let new_now = g.T.Source.state c.args.new_job.now in
    let new_mid = g.T.Source.state c.come_to_text.new.new_job in
    let new_now' = g.T.Source.state c.compare_here.new.new_job in
    let here = c.compare_here.new in
    IfOk-weaker c.compare_here.result
    (StepCompares old_now old_now' new_mid new_now' c.args.first.now here.first c.args.spot.now here.spot c.come_to_text.new.second
    here.second)
    (StepCompares old_now old_now' new_now new_now' c.args.first.now here.first c.args.spot.now here.spot c.args.second.now here.second)
    (step_behind old_now old_now' new_now new_mid new_now' c.args.first.now here.first c.args.spot.now here.spot c.args.second.now
    c.come_to_text.new.second here.second c.in_ok-come_to_text.ensures.run)
    c.compare_here.ensures.compared
