use Rattle.pclcheck.proofs.Fulfilling.{other_than_picture}
use Rattle.pclcheck.proofs.by_request.fulfil_picture.Goals as goal

pub unreachable-requires : goal.unreachable-requires
unreachable-requires g c = other_than_picture c.args.request.now c.requires.picture c.in_default.not-Picture
