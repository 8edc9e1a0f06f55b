use Rattle.std.proofs.Common.{ap, slice_get, ◌∙◌}
use Rattle.sinks.specs.Owned.{event_of}
use Rattle.comparison.specs.Comparing.{Following}
use Rattle.comparison.proofs.Following.{lent_at}
use Rattle.comparison.proofs.follower.Follower.next.Goals as goal

pub returns : goal.returns
returns g c =
    lent_at event_of c.events.result.now c.self.inside.job.events c.self.inside.taken c.get.result c.get.ensures.lookup c.events.ensures
    ∙ ap (λ (f : Following). slice_get f.run.events f.taken) c.self.view_is
