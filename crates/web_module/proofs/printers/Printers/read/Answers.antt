use Rattle.web_module.proofs.Cutting.{all_cut, next_cut, none_cut, refused_at}
use Rattle.web_module.proofs.printers.Printers.read.Goals as goal

pub loop-i-init : goal.loop-i-init
loop-i-init g c =
    none_cut c.args.lengths.now c.args.texts.now c.none-printers.result c.none-printers.ensures.printers c.none-printers.ensures.names

pub loop-i-preserved : goal.loop-i-preserved
loop-i-preserved g c =
    next_cut c.args.lengths.now c.args.texts.now c.loop-i.i _ c.loop-i.left.now c.front-text.result.now c.behind-rest.result.now
    c.loop-i.printers c.add.new.self c.loop-i-test.true c.loop-i.invariant c.front-text.ensures c.behind-rest.ensures c.in-Ok.ensures.added

pub returns-in-Err-clause-refused : goal.returns-in-Err-clause-refused
returns-in-Err-clause-refused g c =
    refused_at c.args.lengths.now c.args.texts.now c.loop-i.i _ c.loop-i.left.now c.front-text.result.now c.loop-i.printers
    c.in-Err.why c.loop-i-test.true c.loop-i.invariant c.front-text.ensures c.in-Err.ensures.refused

pub returns-clause-printers : goal.returns-clause-printers
returns-clause-printers g c =
    all_cut c.args.lengths.now c.args.texts.now c.loop-i.i c.loop-i.left.now c.loop-i.printers c.loop-i-test.false c.loop-i.invariant
