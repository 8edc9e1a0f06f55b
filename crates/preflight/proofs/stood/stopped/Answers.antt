use Rattle.std.proofs.Common.{◌≡◌, true, ◌∙◌}
use Rattle.std.proofs.lemmas.Option.{IfSome_then}
use Rattle.pcl_items.specs.Items.{Entry}
use Rattle.page_machine.specs.Still.{is_one_step}
use Rattle.preflight.specs.Carriers.Lockstep.{machines_of}
use Rattle.judgement.specs.FailingItem.{IsFailingItem}
use Rattle.preflight.proofs.Spots.{stopped_is}
use Rattle.preflight.proofs.stood.stopped.Goals as goal

pub returns : goal.returns
returns g c =
    let one : (entry : Entry) → IsFailingItem c.in_ok-item.item entry → is_one_step entry ≡ true =
    λ entry is. c.is_one_step.ensures entry is ∙ c.if-not-is_one_step.false in
    IfSome_then c.machine.result c.machine.ensures
    (λ machine there.
    stopped_is c.args.verdict c.args.failing_item (machines_of c.args.machines.now) c.in_ok-number.number c.in_ok-item.item machine.now
    c.in_ok-number.ensures c.in_ok-item.was one there)
