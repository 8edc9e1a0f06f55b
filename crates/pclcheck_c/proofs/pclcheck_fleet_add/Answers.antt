use Rattle.std.proofs.Common.{IfSome, Option, Some, subst, sym}
use Rattle.pclcheck_c.specs.declared.fleet.Fleet.{Fleet}
use Rattle.pclcheck_c.specs.Fleets.{Adds}
use Rattle.pclcheck_c.proofs.pclcheck_fleet_add.Goals as goal

pub returns-clause-added : goal.returns-clause-added
returns-clause-added c =
    let add = c.add_telling-number in
    let Added : Fleet → Fleet → Type 0 = λ old new. Adds c.args.profile.now add.result old new c.args.refusal.now add.new.refusal in
    let Held : Option Fleet → Option Fleet → Type 0 = λ old new. IfSome old (λ fleet. IfSome new (Added fleet)) in
    subst (λ (old : Option Fleet). Held old c.put.new.self.held) (sym c.take-held.ensures.taken)
    (subst (Held (Some c.take-held.result.value)) (sym c.put.ensures)
    (subst (λ (old : Fleet). Added old add.new.self) c.deref_mut.ensures.value add.ensures))
