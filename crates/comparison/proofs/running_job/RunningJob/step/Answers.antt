use Rattle.std.proofs.Common.{◌<◌}
use Rattle.std.proofs.lemmas.Result.{on_ok_weaker}
use Rattle.comparison.specs.Running.{RunsOn, work}
use Rattle.comparison.proofs.Running.{less_made, less_read, made_on, read_on}
use Rattle.comparison.proofs.running_job.RunningJob.step.Goals as goal

pub read-requires-clause-waits : goal.read-requires-clause-waits
read-requires-clause-waits g c = c.advance-stepped.ensures.waits c.in-More.is

pub returns-in-More-clause-run : goal.returns-in-More-clause-run
returns-in-More-clause-run g c =
    let now = g.S.Source.state c.args.source.now in
    let now' = g.S.Source.state c.read.new.source in
    on_ok_weaker c.read.result
    (λ (runs : RunsOn now now' c.advance-stepped.new.self c.read.new.self).
    read_on c.advance-stepped.result c.in-More.is now now' c.args.self.now c.advance-stepped.new.self c.read.new.self
    c.advance-stepped.ensures.came runs)
    c.read.ensures.run

pub returns-in-More-clause-less : goal.returns-in-More-clause-less
returns-in-More-clause-less g c =
    on_ok_weaker c.read.result
    (λ (less : work c.read.new.self < work c.advance-stepped.new.self).
    less_read c.advance-stepped.result c.in-More.is c.args.self.now c.advance-stepped.new.self c.read.new.self
    c.advance-stepped.ensures.less less)
    c.read.ensures.less

pub returns-in_default-clause-run : goal.returns-in_default-clause-run
returns-in_default-clause-run g c = λ printer panel first made h.
    let now = g.S.Source.state c.args.source.now in
    made_on c.advance-stepped.result c.in_default.not-More c.in_default.not-Refused printer panel first now made
    c.advance-stepped.new.self (c.advance-stepped.ensures.came printer panel first now made h)

pub returns-in_default-clause-less : goal.returns-in_default-clause-less
returns-in_default-clause-less g c =
    less_made c.advance-stepped.result c.in_default.not-More c.in_default.not-Refused c.args.self.now c.advance-stepped.new.self
    c.advance-stepped.ensures.less
