use Rattle.std.proofs.lemmas.Bool.Decides.{same_from_decides}
use Rattle.sinks.specs.Same.{is_same_event}
use Rattle.sinks.specs.Owned.{event_of}
use Rattle.comparison.proofs.Sameness.{event_decides}
use Rattle.comparison.proofs.events.is_same.Goals as goal

pub returns : goal.returns
returns g c =
    let one = event_of c.args.one.now in
    let other = event_of c.args.other.now in
    same_from_decides c.is_equal.result (is_same_event one other) c.is_equal.ensures (event_decides one other)
