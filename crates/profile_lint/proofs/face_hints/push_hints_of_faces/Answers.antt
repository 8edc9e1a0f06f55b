use Rattle.profile_lint.specs.FaceHints.{face_hints}
use Rattle.profile_lint.proofs.Loops.{further_item, of_all}
use Rattle.profile_lint.proofs.face_hints.push_hints_of_faces.Goals as goal

pub loop-face-preserved : goal.loop-face-preserved
loop-face-preserved g c =
    further_item (face_hints c.args.rows.now) c.args.faces.now c.loop-face.face-index c.face-item.result
    c.args.hints.now.items c.loop-face.hints.items c.push_face_hints.new.hints.items
    c.loop-face-test.true c.face-item.is c.loop-face.invariant c.in_ok-push_face_hints.ensures

pub returns : goal.returns
returns g c =
    of_all (face_hints c.args.rows.now) c.args.faces.now c.loop-face.face-index c.args.hints.now.items c.loop-face.hints.items
    c.loop-face-test.false c.loop-face.invariant
