use Rattle.pclcheck.proofs.Fulfilling.{other_than_pin}
use Rattle.pclcheck.proofs.by_request.fulfil_pin.Goals as goal

pub unreachable-requires : goal.unreachable-requires
unreachable-requires g c = other_than_pin c.args.request.now c.requires.pin c.in_default.not-Pin
