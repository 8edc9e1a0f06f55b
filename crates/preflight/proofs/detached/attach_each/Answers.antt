use Rattle.std.proofs.Common.{◌≡◌, ◌+◌, ◌∙◌, List, [], ◌∷◌, ◌++◌, append-nil, ap, arith, drop, length, length-append}
use Rattle.std.proofs.Common.{reverse, sym}
use Rattle.std.proofs.lemmas.List.{at_drop_all}
use Rattle.device_profile.specs.Printer.{Printer}
use Rattle.page_machine.specs.Detached.{DetachedState}
use Rattle.page_machine.specs.MachineState.{MachineState}
use Rattle.preflight.specs.Carriers.Detached.{attached_each}
use Rattle.preflight.proofs.Attaching.{one_attached}
use Rattle.preflight.proofs.detached.attach_each.Goals as goal

pub loop-profile-init : goal.loop-profile-init
loop-profile-init g c = (
  omega (arith, c.requires),
  ap (λ (machines : List MachineState). machines ++ attached_each c.args.profiles.now (reverse c.args.left.items))
      c.in_ok-machines.ensures.items,
)

pub unreachable-requires : goal.unreachable-requires
unreachable-requires g c =
    omega (arith, c.in_default.ensures.cases, c.loop-profile.left.ok.0, c.loop-profile.invariant.0, c.loop-profile-test.true)

pub loop-profile-preserved : goal.loop-profile-preserved
loop-profile-preserved g c =
    let i = c.loop-profile.profile-index in
    let front = c.pop.new.self.items in
    let one = c.in-Some.machine in (
      omega (
        arith,
        c.loop-profile.invariant.0,
        ap (λ (left : List DetachedState). length left) c.in-Some.ensures.items,
        length-append front (one ∷ []),
      ),
      one_attached c.args.profiles.now i c.profile-item.result c.loop-profile.machines.items c.push.new.self.items c.attach.result
          c.loop-profile.left.items front one c.loop-profile-test.true c.profile-item.is c.in-Some.ensures.items c.attach.ensures
          c.in_ok-push.ensures.items
          ∙ c.loop-profile.invariant.1,
    )

pub returns : goal.returns
returns g c =
    let machines = c.loop-profile.machines.items in
    let left = reverse c.loop-profile.left.items in
    sym (append-nil machines)
    ∙ sym
    (at_drop_all (λ (printers : List Printer). machines ++ attached_each printers left) c.args.profiles.now c.loop-profile.profile-index
    c.loop-profile-test.false)
    ∙ c.loop-profile.invariant.1
