use Rattle.std.proofs.Common.{sym, ◌∙◌}
use Rattle.preflight.proofs.FleetModes.{command_as_one, none_is, not_true}
use Rattle.preflight.proofs.alike.command_goes_alike.Goals as goal

pub returns : goal.returns
returns g c = λ yes n others.
    command_as_one c.args.first.now c.args.command n others (c.command_asks_device.ensures (not_true c.command_asks_device.result yes))
    (none_is c.args.first.now.page.env.job.overlay (sym c.has_overlay.ensures ∙ c.if-has_overlay.false))
