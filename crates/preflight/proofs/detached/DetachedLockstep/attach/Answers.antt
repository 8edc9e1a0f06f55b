use Rattle.std.proofs.Common.{◌≡◌, ◌∷◌, ◌∙◌, List, ap, length, reverse, subst, sym}
use Rattle.std.proofs.lemmas.List.{length-reverse}
use Rattle.page_machine.specs.Detached.{attached}
use Rattle.page_machine.specs.MachineState.{MachineState}
use Rattle.preflight.specs.Carriers.Detached.{DetachedFleet, attached_each, attached_fleet}
use Rattle.preflight.specs.Carriers.FleetMode.{IsFormed, fleet_of}
use Rattle.preflight.proofs.detached.DetachedLockstep.attach.Goals as goal

pub attach_each-requires : goal.attach_each-requires
attach_each-requires g c =
    sym (length-reverse c.self.inside.others.items)
    ∙ ap (λ (left : DetachedFleet). length left.others) c.self.view_is
    ∙ c.requires.0

pub invariant_of-result : goal.invariant_of-result
invariant_of-result g c = λ running.
    let first = c.args.first.now in
    let printers = c.args.others.now in
    let fleet_mode = c.self.inside.fleet_mode in
    let each = attached_each printers (reverse c.self.inside.others.items) in
    let formed : IsFormed fleet_mode (attached first c.self.inside.first) each =
    subst (λ (left : DetachedFleet). IsFormed left.fleet_mode (attached first left.first) (attached_each printers left.others))
    (sym c.self.view_is) c.requires.1 in
    subst (λ (machine : MachineState). IsFormed fleet_mode machine c.in_ok-machines.machines.items) (sym c.attach-machine.ensures)
    (subst (λ (machines : List MachineState). IsFormed fleet_mode (attached first c.self.inside.first) machines)
    (sym c.in_ok-machines.ensures) formed)

pub returns : goal.returns
returns g c =
    let first = c.args.first.now in
    let printers = c.args.others.now in
    let fleet_mode = c.self.inside.fleet_mode in
    let counts = c.self.inside.counts in
    ap (λ (machine : MachineState). fleet_of fleet_mode machine c.in_ok-machines.machines.items counts) c.attach-machine.ensures
    ∙ ap (λ (machines : List MachineState). fleet_of fleet_mode (attached first c.self.inside.first) machines counts)
    c.in_ok-machines.ensures
    ∙ ap (λ (left : DetachedFleet). attached_fleet (first ∷ printers) left) c.self.view_is
