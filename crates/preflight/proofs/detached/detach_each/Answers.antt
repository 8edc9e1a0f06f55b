use Rattle.std.proofs.Common.{◌≡◌, ◌∙◌, List, [], ◌++◌, append-nil, ap, arith, map, reverse, sym}
use Rattle.std.proofs.lemmas.List.{nil_from_length}
use Rattle.page_machine.specs.Detached.{DetachedState, detached}
use Rattle.page_machine.specs.MachineState.{MachineState}
use Rattle.preflight.proofs.Attaching.{one_left}
use Rattle.preflight.proofs.detached.detach_each.Goals as goal

pub loop-machine-init : goal.loop-machine-init
loop-machine-init g c =
    let machines : List DetachedState = map detached c.args.machines.items in
    ap (λ (left : List DetachedState). machines ++ reverse left) c.in_ok-left.ensures.items ∙ append-nil machines

pub loop-machine-preserved : goal.loop-machine-preserved
loop-machine-preserved g c =
    let left : List DetachedState = c.loop-machine.left.items in
    one_left c.pop.new.self.items c.in-Some.machine left c.push.new.self.items c.detach.result c.detach.ensures c.in_ok-push.ensures.items
    ∙ ap (λ (machines : List MachineState). map detached machines ++ reverse left) (sym c.in-Some.ensures.items)
    ∙ c.loop-machine.invariant

pub returns : goal.returns
returns g c =
    let left : List DetachedState = c.loop-machine.left.items in
    let none : c.loop-machine.machines.items ≡ [] =
    nil_from_length _ (omega (arith, c.in_default.ensures.cases, c.loop-machine.machines.ok.0)) in
    ap (λ (machines : List MachineState). map detached machines ++ reverse left) (sym none) ∙ c.loop-machine.invariant
