use Rattle.std.proofs.Common.{ap, ◌∙◌}
use Rattle.comparison.specs.Comparing.{Following}
use Rattle.comparison.proofs.follower.Follower.place.Goals as goal

pub returns : goal.returns
returns g c = c.place.ensures ∙ ap (λ (f : Following). f.run.place) c.self.view_is
