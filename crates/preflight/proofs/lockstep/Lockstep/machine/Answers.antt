use Rattle.std.proofs.Common.{◌≡◌, ◌+◌, ◌-◌, ℕ, ◌∷◌, List, inl, inr, refl, sym, subst, arith}
use Rattle.std.proofs.lemmas.Option.{IfSome_then}
use Rattle.page_machine.specs.MachineState.{MachineState}
use Rattle.preflight.specs.Carriers.FleetMode.{others_in}
use Rattle.preflight.specs.Carriers.Lockstep.{Fleet, machines_of}
use Rattle.preflight.specs.Stood.{IsThere}
use Rattle.preflight.proofs.lockstep.Lockstep.machine.Goals as goal

pub returns-then-number-eq1 : goal.returns-then-number-eq1
returns-then-number-eq1 g c =
    subst (λ (f : Fleet). IsThere c.args.number 1 c.self.inside.first (machines_of f)) c.self.view_is
    (inl (c.if-number-eq1.true, refl))

pub returns : goal.returns
returns g c =
    let before = c.self.inside in
    let number : ℕ = c.args.number in
    let first : MachineState = before.first in
    let same : number - 2 + 2 ≡ number = omega (arith, c.if-number-lt2.false) in
    IfSome_then c.machine_behind.result c.machine_behind.ensures
    (λ machine there.
    subst (λ (f : Fleet). IsThere number 1 machine.now (machines_of f)) c.self.view_is
    (subst (λ fleet_mode. IsThere number 1 machine.now (first ∷ others_in fleet_mode first before.others.items)) (sym c.in-Apart.is)
    (inr
    (subst (λ (ms : List MachineState). IsThere number 2 machine.now ms) c.deref.ensures.value
    (subst (λ k. IsThere k 2 machine.now c.deref.result.now) same there)))))
