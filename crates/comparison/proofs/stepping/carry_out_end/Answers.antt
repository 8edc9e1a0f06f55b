use Rattle.std.proofs.Common.{◌∙◌, [], ap, Err, subst, sym, true}
use Rattle.page_env.specs.Settings.{state_at}
use Rattle.page_machine.specs.Machine.{CarriesOn, end_of}
use Rattle.comparison.specs.declared.stepping.Stepped.TheVariants.{FailsBy}
use Rattle.comparison.specs.Running.{EndsBy}
use Rattle.comparison.proofs.Carried.{tells_end, tells_end_finding}
use Rattle.comparison.proofs.stepping.carry_out_end.Goals as goal

pub returns-in-Ok : goal.returns-in-Ok
returns-in-Ok g c =
    tells_end g.K.MarkSink.takes c.args.number c.args.machine.now c.args.sink.now c.finish.new.sink c.args.total
    (λ panel. state_at panel c.finish.new.self.page) c.in-Ok.ensures.2

pub returns-in-Err-Found : goal.returns-in-Err-Found
returns-in-Err-Found g c =
    let is = c.in-Err-Found.is ∙ ap Err c.in-Err-Found.field-0-is in
    let executed =
    subst
    (CarriesOn g.K.MarkSink.takes g.K.MarkSink.refuses (end_of c.args.machine.now) true c.args.sink.now c.finish.new.sink
    c.args.machine.now c.finish.new.self)
    is c.finish.ensures in
    subst
    (λ failure. EndsBy g.K.MarkSink.takes (FailsBy failure) c.args.number c.args.total c.args.machine.now c.args.sink.now
    c.finish.new.sink)
    (sym c.of_finding.ensures)
    (tells_end_finding g.K.MarkSink.takes c.args.number c.args.machine.now c.args.sink.now c.finish.new.sink c.args.total
    c.in-Err-Found.finding executed.2)

pub returns-in-Err-Refused : goal.returns-in-Err-Refused
returns-in-Err-Refused g c = record { events = []; taken = tt; ends = tt }

pub returns-in-Err-Memory : goal.returns-in-Err-Memory
returns-in-Err-Memory g c = record { events = []; taken = tt; ends = tt }
