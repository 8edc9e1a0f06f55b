use Rattle.std.proofs.Common.{◌≡◌, ◌==◌, true, false, length, ap, sym, subst, ◌∙◌, arith}
use Rattle.std.specs.List.{AllByRecursion}
use Rattle.std.proofs.lemmas.List.{take_all}
use Rattle.device_profile.specs.Likeness.{IsLike}
use Rattle.preflight.proofs.FleetModes.{one_more}
use Rattle.preflight.proofs.lockstep.fleet_mode_of.Goals as goal

pub loop-other-init : goal.loop-other-init
loop-other-init g c = tt

pub loop-other-preserved : goal.loop-other-preserved
loop-other-preserved g c =
    one_more (IsLike c.args.first.now) c.args.others.now c.loop-other.other-index c.other-item.result c.loop-other-test.true c.other-item.is
    (c.is_like.ensures c.if-not-is_like.false) c.loop-other.invariant

pub returns : goal.returns
returns g c = (
  subst (AllByRecursion (IsLike c.args.first.now))
      (take_all c.loop-other.other-index c.args.others.now (omega (arith, c.loop-other-test.false))) c.loop-other.invariant,
  λ e. let both : true ≡ false = sym (ap (λ others. length others == 0) e) ∙ (sym c.is_empty.ensures ∙ c.if-is_empty.false) in absurd cc,
)
