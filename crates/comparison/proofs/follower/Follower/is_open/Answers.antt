use Rattle.std.proofs.Common.{ap, ◌∙◌}
use Rattle.comparison.specs.Comparing.{Following}
use Rattle.comparison.specs.Running.{is_open}
use Rattle.comparison.proofs.follower.Follower.is_open.Goals as goal

pub returns : goal.returns
returns g c = c.is_open.ensures ∙ ap (λ (f : Following). is_open f.run.progress) c.self.view_is
