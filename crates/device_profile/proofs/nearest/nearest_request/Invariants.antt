use Rattle.std.proofs.Common.{◌≡◌, None, drop}
use Rattle.device_profile.specs.Nearest.{nearest_from}
use Rattle.device_profile.proofs.nearest.nearest_request.Given as goal

abbrev pub invariant-loop-face : goal.invariant-loop-face
invariant-loop-face g l =
    nearest_from l.request l.nearest (drop l.face-index l.faces) ≡ nearest_from l.request None l.faces
