use Rattle.std.proofs.Common.{IsTrue, IfSome, subst}
use Rattle.device_profile.specs.Faces.{face_at, has_metrics}
use Rattle.device_profile.specs.Fields.{printer_of}
use Rattle.device_profile.specs.Printer.{Printer, HasFaces, CanBeSet}
use Rattle.device_profile.proofs.Valid.{HasFaces-valid, IfSome-face_at, CanBeSet-valid}
use Rattle.device_profile.proofs.profile.Profile.face.Goals as goal

pub returns-clause-metrics : goal.returns-clause-metrics
returns-clause-metrics g c =
    subst (λ (printer : Printer). IfSome (face_at printer.faces c.args.id) (λ face. IsTrue (has_metrics face))) c.self.view_is
    (IfSome-face_at (printer_of c.self.inside) c.args.id c.self.invariant)

pub returns-clause-allowed : goal.returns-clause-allowed
returns-clause-allowed g c = subst HasFaces c.self.view_is (HasFaces-valid (printer_of c.self.inside) c.self.invariant)

pub returns-clause-set : goal.returns-clause-set
returns-clause-set g c = subst CanBeSet c.self.view_is (CanBeSet-valid (printer_of c.self.inside) c.self.invariant)
