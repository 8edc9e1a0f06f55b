use Rattle.std.proofs.Common.{◌≡◌, ◌<◌, ℕ}
use Rattle.device_profile.specs.Faces.{face_at}
use Rattle.printer_models.specs.Face.{face_numbered}
use Rattle.printer_models.proofs.comparison.has_faces.Given as goal

abbrev pub invariant-loop-id : goal.invariant-loop-id
invariant-loop-id g l = (id : ℕ) → id < l.id → face_at l.profile.faces id ≡ face_numbered l.rows id
