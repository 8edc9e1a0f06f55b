use Rattle.std.proofs.Common.{◌∙◌, [], ap, Err, false, is_some, subst, sym}
use Rattle.pcl_items.specs.Items.{at, view}
use Rattle.page_machine.specs.Machine.{CarriesOn, item_of}
use Rattle.comparison.specs.declared.stepping.Stepped.TheVariants.{FailsBy}
use Rattle.comparison.specs.Running.{CarriesTo}
use Rattle.comparison.proofs.Carried.{tells_finding, tells_item}
use Rattle.comparison.proofs.stepping.carry_out.Goals as goal

pub step-requires : goal.step-requires
step-requires g c = λ _. ap is_some c.requires.admitted.1

pub returns-in-Ok : goal.returns-in-Ok
returns-in-Ok g c =
    tells_item g.K.MarkSink.takes c.args.number c.args.machine.now c.args.sink.now c.step.new.sink c.step.new.self
    (at c.args.place (view c.args.item.now)) _ c.requires.admitted.1 c.in-Ok.ensures.1 c.in-Ok.ensures.2

pub returns-in-Err-Found : goal.returns-in-Err-Found
returns-in-Err-Found g c =
    let is = c.in-Err-Found.is ∙ ap Err c.in-Err-Found.field-0-is in
    let executed =
    subst
    (CarriesOn g.K.MarkSink.takes g.K.MarkSink.refuses (item_of c.args.machine.now (view c.args.item.now)) false c.args.sink.now
    c.step.new.sink c.args.machine.now c.step.new.self)
    is c.step.ensures in
    subst
    (λ failure. CarriesTo g.K.MarkSink.takes (FailsBy failure) c.args.number (at c.args.place (view c.args.item.now)) c.args.machine.now
    c.step.new.self c.args.sink.now c.step.new.sink)
    (sym c.of_finding.ensures)
    (tells_finding g.K.MarkSink.takes c.args.number c.args.machine.now c.args.sink.now c.step.new.sink c.step.new.self
    (at c.args.place (view c.args.item.now)) c.in-Err-Found.finding executed.2)

pub returns-in-Err-Refused : goal.returns-in-Err-Refused
returns-in-Err-Refused g c = record { events = []; taken = tt; carried = tt }

pub returns-in-Err-Memory : goal.returns-in-Err-Memory
returns-in-Err-Memory g c = record { events = []; taken = tt; carried = tt }
