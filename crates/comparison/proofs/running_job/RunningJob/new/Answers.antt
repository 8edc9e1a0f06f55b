use Rattle.std.proofs.Common.{ap}
use Rattle.sinks.specs.Recorder.{Recorded}
use Rattle.comparison.proofs.Running.{starts, starts_ready}
use Rattle.comparison.proofs.running_job.RunningJob.new.Goals as goal

pub invariant_of-result : goal.invariant_of-result
invariant_of-result g c = λ _.
    starts_ready c.args.profile.now c.args.panel.now c.new-lexer.result c.new-machine.result c.new-lexer.ensures.start
    c.new-machine.ensures

pub returns-clause-run : goal.returns-clause-run
returns-clause-run g c = λ first.
    starts c.args.profile.now c.args.panel.now c.args.number first c.new-lexer.result c.new-machine.result c.new-recorder.result.events 0
    c.new-lexer.ensures.start c.new-lexer.ensures.reads c.new-machine.ensures

pub returns-clause-none : goal.returns-clause-none
returns-clause-none g c = ap (λ (r : Recorded). r.events) c.new-recorder.ensures
