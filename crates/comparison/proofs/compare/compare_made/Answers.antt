use Rattle.std.proofs.Common.{refl, ◌∙◌}
use Rattle.sinks.specs.Owned.{event_of}
use Rattle.comparison.proofs.SoFar.{front_all, front_differs, front_more, front_none}
use Rattle.comparison.proofs.compare.compare_made.Goals as goal

pub loop-event-init : goal.loop-event-init
loop-event-init g c = record {
  working = c.requires;
  number = refl;
  level = front_none (g.T.Source.state c.args.new_job.now) c.args.spot.now c.args.place event_of c.args.events.now c.args.second.now;
}

pub loop-event-preserved : goal.loop-event-preserved
loop-event-preserved g c =
    let so_far = c.loop-event.invariant in
    record {
      working = c.in_ok-found.ensures.read;
      number = c.compare_event.ensures.number ∙ so_far.number;
      level =
          front_more (g.T.Source.state c.args.new_job.now) (g.T.Source.state c.loop-event.new_job)
          (g.T.Source.state c.compare_event.new.new_job) c.args.spot.now c.loop-event.spot c.compare_event.new.spot
          c.args.place event_of c.args.events.now c.loop-event.event-index c.event-item.result c.loop-event-test.true c.event-item.is
          c.args.second.now c.loop-event.second c.compare_event.new.second so_far.level c.in_ok-found.found c.in-None.is
          c.in_ok-found.ensures.compared;
    }

pub returns-in-Some-clause-compared : goal.returns-in-Some-clause-compared
returns-in-Some-clause-compared g c =
    front_differs (g.T.Source.state c.args.new_job.now) (g.T.Source.state c.loop-event.new_job)
    (g.T.Source.state c.compare_event.new.new_job) c.args.spot.now c.loop-event.spot c.compare_event.new.spot c.args.place
    event_of c.args.events.now c.loop-event.event-index c.event-item.result c.loop-event-test.true c.event-item.is c.args.second.now
    c.loop-event.second c.compare_event.new.second c.loop-event.invariant.level c.in_ok-found.found c.in-Some.difference
    c.in-Some.is c.in_ok-found.ensures.compared

pub returns-clause-compared : goal.returns-clause-compared
returns-clause-compared g c =
    front_all (g.T.Source.state c.args.new_job.now) (g.T.Source.state c.loop-event.new_job) c.args.spot.now c.loop-event.spot
    c.args.place event_of c.args.events.now c.loop-event.event-index c.args.second.now c.loop-event.second c.loop-event-test.false
    c.loop-event.invariant.level

pub returns-in_err-found-clause-number : goal.returns-in_err-found-clause-number
returns-in_err-found-clause-number g c = c.compare_event.ensures.number ∙ c.loop-event.invariant.number

pub returns-in-Some-clause-number : goal.returns-in-Some-clause-number
returns-in-Some-clause-number g c = c.compare_event.ensures.number ∙ c.loop-event.invariant.number
