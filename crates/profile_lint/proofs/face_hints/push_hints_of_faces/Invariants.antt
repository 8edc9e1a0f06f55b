use Rattle.std.proofs.Common.{◌≡◌, ◌++◌, flat_map, take}
use Rattle.profile_lint.specs.FaceHints.{face_hints}
use Rattle.profile_lint.proofs.face_hints.push_hints_of_faces.Given as goal

abbrev pub invariant-loop-face : goal.invariant-loop-face
invariant-loop-face g l = l.hints.items ≡ l.initial.hints.items ++ flat_map (face_hints l.rows) (take l.face-index l.faces)
