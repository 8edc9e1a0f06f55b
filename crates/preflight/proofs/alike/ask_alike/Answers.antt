use Rattle.std.proofs.Common.{subst, arith}
use Rattle.std.proofs.lemmas.List.{take_all}
use Rattle.pcl_items.specs.Items.{view}
use Rattle.preflight.specs.Carriers.FleetMode.{AskAlike, AsksAlike}
use Rattle.preflight.proofs.FleetModes.{one_more}
use Rattle.preflight.proofs.alike.ask_alike.Goals as goal

pub loop-machine-init : goal.loop-machine-init
loop-machine-init g c = tt

pub loop-machine-preserved : goal.loop-machine-preserved
loop-machine-preserved g c =
    one_more (AsksAlike c.args.first.now (view c.args.item.now)) c.args.others.now c.loop-machine.machine-index c.machine-item.result
    c.loop-machine-test.true c.machine-item.is (c.asks_as.ensures c.if-not-asks_as.false) c.loop-machine.invariant

pub returns : goal.returns
returns g c = λ _.
    subst (AskAlike c.args.first.now (view c.args.item.now))
    (take_all c.loop-machine.machine-index c.args.others.now (omega (arith, c.loop-machine-test.false))) c.loop-machine.invariant
