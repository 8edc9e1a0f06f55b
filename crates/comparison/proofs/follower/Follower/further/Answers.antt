use Rattle.std.proofs.Common.{Some, ap, sym, ◌∙◌}
use Rattle.sinks.specs.Owned.{event_of}
use Rattle.comparison.specs.Comparing.{Following}
use Rattle.comparison.specs.Comparison.{difference_at}
use Rattle.comparison.proofs.Following.{further_none, further_some}
use Rattle.comparison.proofs.follower.Follower.further.Goals as goal

pub returns-in-Some : goal.returns-in-Some
returns-in-Some g c =
    let place = c.place.ensures ∙ ap (λ (f : Following). f.run.place) c.self.view_is in
    let change = c.only_in_new.ensures in
    ap Some (c.difference.ensures ∙ (λ i. difference_at c.args.spot c.args.end (place i) (change i)))
    ∙ sym (further_some c.args.self.now c.args.spot c.args.end (event_of c.in-Some.next.now) c.in-Some.ensures)

pub returns-in-None : goal.returns-in-None
returns-in-None g c = sym (further_none c.args.self.now c.args.spot c.args.end c.in-None.ensures)
