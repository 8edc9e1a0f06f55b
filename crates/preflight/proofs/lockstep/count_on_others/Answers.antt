use Rattle.std.proofs.Common.{◌≤◌, take, sym, ◌∙◌, subst, arith}
use Rattle.std.proofs.lemmas.List.{length-take-le}
use Rattle.page_machine.specs.TextLines.{IsMeasuredAt}
use Rattle.sinks.proofs.TextLines.{fewer_have_room, same_place}
use Rattle.preflight.proofs.TextInStep.{measured_goes, more_go}
use Rattle.preflight.proofs.lockstep.count_on_others.Goals as goal

pub alike-requires : goal.alike-requires
alike-requires g c = fewer_have_room c.args.measure.now c.loop-machine.count c.args.bytes.now c.args.from c.requires

pub loop-machine-preserved : goal.loop-machine-preserved
loop-machine-preserved g c =
    let bytes = c.args.bytes.now in
    let from = c.args.from in
    let look = c.args.measure.now.look in
    let h = c.loop-machine.invariant in
    let count = c.in_ok-count.count in
    let far = c.in_ok-count.ensures in
    let most : count ≤ c.loop-machine.count = omega (arith, far.short, length-take-le c.loop-machine.count bytes h.0) in
    let is =
    subst (λ at. IsMeasuredAt c.machine-item.result c.in_ok-own.own at)
    (same_place c.in_ok-own.at from (sym c.ne.ensures ∙ c.if-ne.false)) c.in_ok-own.ensures in (
      omega (arith, most, h.0),
      more_go look from count c.loop-machine.count bytes c.args.machines.now c.loop-machine.machine-index c.machine-item.result
          c.loop-machine-test.true most c.machine-item.is h.1
          (measured_goes c.machine-item.result c.in_ok-own.own look from
          (take count (take c.loop-machine.count bytes)) is far.look far.room),
    )
