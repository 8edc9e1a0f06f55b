use Rattle.std.proofs.Common.{◌≡◌, ◌<◌, None, length, subst, sym, arith}
use Rattle.page_machine.specs.MachineState.{MachineState}
use Rattle.preflight.specs.Carriers.FleetMode.{StandsAs}
use Rattle.preflight.proofs.FleetModes.{all_at}
use Rattle.preflight.proofs.TextInStep.{unchanged_at, changed_more}
use Rattle.preflight.proofs.lockstep.stand_as.Goals as goal

pub stand_as-requires : goal.stand_as-requires
stand_as-requires g c =
    let i = c.loop-machine.machine-index in
    let d = c.machine-item.result in
    let old = c.args.machines.now in
    let new = c.loop-machine.machines in
    let inside : i < length new = omega (arith, c.loop-machine-test.true, c.loop-machine.auto.machines) in
    subst (λ (m : MachineState). m.macros.definition ≡ None)
    (sym (unchanged_at (StandsAs c.args.first.now) i old new d c.loop-machine.invariant inside))
    (all_at (λ (m : MachineState). m.macros.definition ≡ None) i old d c.loop-machine-test.true c.requires)

pub loop-machine-preserved : goal.loop-machine-preserved
loop-machine-preserved g c =
    let i = c.loop-machine.machine-index in
    let d = c.machine-item.result in
    let old = c.args.machines.now in
    let new = c.loop-machine.machines in
    let stands = StandsAs c.args.first.now in
    let inside : i < length new = omega (arith, c.loop-machine-test.true, c.loop-machine.auto.machines) in
    let same = unchanged_at stands i old new d c.loop-machine.invariant inside in
    changed_more stands i old new d c.loop-machine.invariant inside c.stand_as.new.self
    (subst (λ m. stands m c.stand_as.new.self) same c.stand_as.ensures)
