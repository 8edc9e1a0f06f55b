use Rattle.std.proofs.Common.{ap, subst, ◌∙◌}
use Rattle.std.proofs.lemmas.Result.{on_ok_weaker}
use Rattle.comparison.specs.Comparing.{Following}
use Rattle.comparison.specs.Running.{RunsOut}
use Rattle.comparison.proofs.follower.Follower.run_out.Goals as goal

pub returns-clause-run : goal.returns-clause-run
returns-clause-run g c =
    let now = g.S.Source.state c.args.source.now in
    let now' = g.S.Source.state c.run_out.new.source in
    let after = c.run_out.new.self in
    on_ok_weaker c.run_out.result
    (λ (runs : RunsOut now now' c.self.inside.job after).
    subst (λ (f : Following). RunsOut now now' f.run after) c.self.view_is runs)
    c.run_out.ensures.run

pub returns-clause-number : goal.returns-clause-number
returns-clause-number g c = c.run_out.ensures.number ∙ ap (λ (f : Following). f.run.number) c.self.view_is
