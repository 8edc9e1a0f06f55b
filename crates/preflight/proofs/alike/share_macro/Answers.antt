use Rattle.std.proofs.Common.{subst, arith}
use Rattle.std.proofs.lemmas.List.{take_all}
use Rattle.page_machine.specs.MachineState.{MachineState}
use Rattle.page_machine.specs.PlainMacros.{SharesMacro}
use Rattle.preflight.specs.Carriers.FleetMode.{ShareMacro}
use Rattle.preflight.proofs.FleetModes.{one_more}
use Rattle.preflight.proofs.alike.share_macro.Goals as goal

pub loop-machine-init : goal.loop-machine-init
loop-machine-init g c = tt

pub loop-machine-preserved : goal.loop-machine-preserved
loop-machine-preserved g c =
    one_more (λ (m : MachineState). SharesMacro m c.args.first.now c.args.body.now) c.args.others.now c.loop-machine.machine-index
    c.machine-item.result c.loop-machine-test.true c.machine-item.is (c.shares_macro.ensures c.if-not-shares_macro.false)
    c.loop-machine.invariant

pub returns : goal.returns
returns g c = λ _.
    subst (ShareMacro c.args.first.now c.args.body.now)
    (take_all c.loop-machine.machine-index c.args.others.now (omega (arith, c.loop-machine-test.false))) c.loop-machine.invariant
