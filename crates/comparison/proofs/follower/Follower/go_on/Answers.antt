use Rattle.std.proofs.Common.{◌<◌, ap, subst, ◌∙◌}
use Rattle.std.proofs.lemmas.Result.{on_ok_weaker}
use Rattle.comparison.specs.Comparing.{Following}
use Rattle.comparison.specs.Running.{RunsOn, is_open, work}
use Rattle.comparison.proofs.Following.{gone_on, lacks_tells}
use Rattle.comparison.proofs.follower.Follower.go_on.Goals as goal

pub step-requires-clause-running : goal.step-requires-clause-running
step-requires-clause-running g c =
    ap (λ (f : Following). is_open f.run.progress) c.self.view_is ∙ (lacks_tells c.args.self.now c.requires.lacks).1

pub returns-clause-run : goal.returns-clause-run
returns-clause-run g c =
    let now = g.S.Source.state c.args.source.now in
    let now' = g.S.Source.state c.step.new.source in
    on_ok_weaker c.step.result
    (λ (runs : RunsOn now now' c.self.inside.job c.step.new.self).
    gone_on c.self.inside.job c.step.new.self c.self.inside.taken c.args.self.now now now' c.self.view_is
    (lacks_tells c.args.self.now c.requires.lacks).0 runs)
    c.step.ensures.run

pub returns-clause-less : goal.returns-clause-less
returns-clause-less g c =
    on_ok_weaker c.step.result
    (λ (less : work c.step.new.self < work c.self.inside.job).
    subst (λ (f : Following). work c.step.new.self < work f.run) c.self.view_is less)
    c.step.ensures.less

pub returns-clause-number : goal.returns-clause-number
returns-clause-number g c = c.step.ensures.number ∙ ap (λ (f : Following). f.run.number) c.self.view_is
