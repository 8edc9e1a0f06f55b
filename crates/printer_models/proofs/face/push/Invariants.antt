use Rattle.std.proofs.Common.{◌≡◌, ◌++◌, take}
use Rattle.printer_models.specs.Face.{in_sets}
use Rattle.printer_models.proofs.face.push.Given as goal

abbrev pub invariant-loop-set : goal.invariant-loop-set
invariant-loop-set g l = l.faces.items ≡ l.initial.faces.items ++ in_sets l.cut l.look l.typeface (take l.set-index l.sets)
