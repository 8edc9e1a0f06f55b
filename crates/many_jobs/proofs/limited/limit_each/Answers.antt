use Rattle.std.proofs.Common.{◌+◌, ◌<◌, length, set, refl, subst, sym, arith}
use Rattle.device_profile.specs.Printer.{Printer}
use Rattle.many_jobs.proofs.Limiting.{AreLimitedUpTo, limited_more, limited_all}
use Rattle.many_jobs.proofs.limited.limit_each.Goals as goal

pub loop-profile-init : goal.loop-profile-init
loop-profile-init g c = (refl, refl, refl)

pub loop-profile-preserved : goal.loop-profile-preserved
loop-profile-preserved g c =
    let i = c.loop-profile.profile-index in
    let old = c.args.fleet.now in
    let new = c.loop-profile.fleet in
    let inside : i < length c.loop-profile.fleet = omega (arith, c.loop-profile-test.true, c.loop-profile.auto.fleet) in
    subst (λ (p : Printer). AreLimitedUpTo c.args.most (i + 1) old (set new i p)) (sym c.limit_items.ensures)
    (limited_more c.args.most i old new c.profile-item.result c.loop-profile.invariant inside)

pub returns : goal.returns
returns g c =
    limited_all c.args.most c.loop-profile.profile-index c.args.fleet.now c.loop-profile.fleet c.loop-profile.invariant
    (omega (arith, c.loop-profile-test.false, c.loop-profile.auto.fleet))
