use Rattle.std.proofs.Common.{ap, ◌∙◌}
use Rattle.sinks.specs.Owned.{event_of}
use Rattle.comparison.specs.Comparing.{Following}
use Rattle.comparison.proofs.Following.{still_inside}
use Rattle.comparison.proofs.SoFar.{event_differs, event_passes}
use Rattle.comparison.proofs.compare.compare_event.Goals as goal

pub difference-requires : goal.difference-requires
difference-requires g c = c.in_ok-come.ensures.came

pub pass-requires : goal.pass-requires
pass-requires g c =
    let next = c.in-None.ensures in still_inside c.come.new.second next.0 next.1 next.2

pub returns-in-Some-clause-compared : goal.returns-in-Some-clause-compared
returns-in-Some-clause-compared g c =
    event_differs (g.T.Source.state c.args.new_job.now) (g.T.Source.state c.come.new.new_job) c.args.spot.now c.args.place
    (event_of c.args.event.now) c.args.second.now c.come.new.second c.in-Some.difference c.in_ok-come.ensures.run c.in-Some.ensures

pub returns-in-None-clause-compared : goal.returns-in-None-clause-compared
returns-in-None-clause-compared g c =
    event_passes (g.T.Source.state c.args.new_job.now) (g.T.Source.state c.come.new.new_job) c.args.spot.now c.count.new.self c.args.place
    (event_of c.args.event.now) c.args.second.now c.come.new.second c.pass.new.self c.in_ok-come.ensures.run c.in-None.ensures
    c.count.ensures c.pass.ensures

pub returns-in-None-clause-number : goal.returns-in-None-clause-number
returns-in-None-clause-number g c = ap (λ (f : Following). f.run.number) c.pass.ensures ∙ c.come.ensures.number
