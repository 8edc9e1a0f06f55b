use Rattle.std.proofs.Common.{ap, ◌∙◌}
use Rattle.comparison.specs.Comparing.{Following}
use Rattle.comparison.specs.Running.{failure_of}
use Rattle.comparison.proofs.follower.Follower.failure.Goals as goal

pub returns : goal.returns
returns g c = c.failure.ensures ∙ ap (λ (f : Following). failure_of f.run.progress) c.self.view_is
