use Rattle.std.proofs.Common.{◌≡◌, ◌++◌, drop, None}
use Rattle.std.specs.Option.{option_copied}
use Rattle.profile_show.specs.Faces.{lines_behind}
use Rattle.profile_show.proofs.faces.push_each.Given as goal

abbrev pub invariant-loop-face : goal.invariant-loop-face
invariant-loop-face g l =
    l.text.items ++ lines_behind (option_copied l.last_face) (drop l.face-index l.faces) ≡ l.initial.text.items ++ lines_behind None l.faces
