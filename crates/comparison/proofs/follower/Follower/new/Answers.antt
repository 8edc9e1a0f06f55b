use Rattle.comparison.proofs.Following.{none_followed}
use Rattle.comparison.proofs.follower.Follower.new.Goals as goal

pub returns-clause-run : goal.returns-clause-run
returns-clause-run g c = λ first.
    none_followed c.args.profile.now c.args.panel.now first c.new-job.result c.new-job.ensures.none (c.new-job.ensures.run first)
