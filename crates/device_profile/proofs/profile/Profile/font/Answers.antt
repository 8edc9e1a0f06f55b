use Rattle.std.proofs.Common.{IsTrue, IfSome, subst}
use Rattle.device_profile.specs.Faces.{face_for, has_metrics}
use Rattle.device_profile.specs.Fields.{printer_of}
use Rattle.device_profile.specs.Printer.{Printer}
use Rattle.device_profile.proofs.Valid.{IfSome-face_for}
use Rattle.device_profile.proofs.profile.Profile.font.Goals as goal

pub returns-clause-metrics : goal.returns-clause-metrics
returns-clause-metrics g c =
    subst (λ (printer : Printer). IfSome (face_for printer.faces c.args.request.now) (λ face. IsTrue (has_metrics face))) c.self.view_is
    (IfSome-face_for (printer_of c.self.inside) c.args.request.now c.self.invariant)
