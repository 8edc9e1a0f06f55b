use Rattle.std.proofs.Common.{sym, subst, ap, ◌∙◌}
use Rattle.preflight.specs.declared.fleet_mode.FleetMode.{FleetMode}
use Rattle.preflight.specs.Carriers.FleetMode.{IsFormed, others_in}
use Rattle.preflight.proofs.FleetModes.{all_stand, followers_define_none}
use Rattle.preflight.proofs.lockstep.part.Goals as goal

pub stand_as-requires : goal.stand_as-requires
stand_as-requires g c =
    followers_define_none c.args.first.now c.args.others.now
    (subst (λ (f : FleetMode). IsFormed f c.args.first.now c.args.others.now) c.in-Together.is c.requires).1

pub returns-in-Together : goal.returns-in-Together
returns-in-Together g c =
    all_stand c.args.first.now c.args.others.now c.stand_as.new.machines c.stand_as.ensures
    ∙ ap (λ (f : FleetMode). others_in f c.args.first.now c.args.others.now) (sym c.in-Together.is)
