use Rattle.std.proofs.Common.{◌≡◌, ◌∙◌, Option, Some, ap, subst, sym}
use Rattle.pclcheck_c.specs.declared.fleet.Fleet.{Fleet}
use Rattle.pclcheck_c.specs.Fleets.{Limits}
use Rattle.pclcheck_c.proofs.pclcheck_fleet_limit.Goals as goal

pub returns : goal.returns
returns c =
    let limited : Fleet → Fleet = λ fleet. record fleet { most_items = Some c.args.most_items } in
    subst (λ (old : Option Fleet). Limits c.args.most_items old c.put.new.self.held) (sym c.take-held.ensures.taken)
    (c.put.ensures ∙ ap (λ (fleet : Fleet). Some fleet) (c.limit.ensures ∙ ap limited c.deref_mut.ensures.value))
