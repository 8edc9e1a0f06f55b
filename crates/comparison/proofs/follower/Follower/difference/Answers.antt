use Rattle.std.proofs.Common.{Some, ap, subst, sym, ◌∙◌}
use Rattle.sinks.specs.Owned.{event_of}
use Rattle.comparison.specs.Comparing.{Following, IsNextDifference, difference_of}
use Rattle.comparison.specs.Comparison.{difference_at}
use Rattle.comparison.proofs.Following.{lacks_differs, next_differs}
use Rattle.comparison.proofs.follower.Follower.difference.Goals as goal

pub returns-in-Some : goal.returns-in-Some
returns-in-Some g c =
    let event = event_of c.args.event.now in
    let other = event_of c.in-Some.next.now in
    let place = c.place-own_place.ensures ∙ ap (λ (f : Following). f.run.place) c.self.view_is in
    subst (IsNextDifference c.args.spot c.args.place event c.args.self.now)
    (sym (c.difference_of.ensures ∙ ap (λ n. difference_of c.args.spot c.args.place n event other) place))
    (next_differs c.args.self.now c.args.spot c.args.place event other c.in-Some.ensures)

pub returns-in-None : goal.returns-in-None
returns-in-None g c =
    let event = event_of c.args.event.now in
    let place = c.place-own_place.ensures ∙ ap (λ (f : Following). f.run.place) c.self.view_is in
    let change = c.only_in_old.ensures in
    subst (λ difference. IsNextDifference c.args.spot c.args.place event c.args.self.now (Some difference))
    (sym (c.difference.ensures ∙ (λ i. difference_at c.args.spot c.args.place (place i) (change i))))
    (lacks_differs c.args.self.now c.args.spot c.args.place event c.in-None.ensures c.requires)
