use Rattle.std.proofs.Common.{IsTrue, IfSome, subst}
use Rattle.device_profile.specs.Fields.{printer_of}
use Rattle.device_profile.specs.Printer.{Printer, HasPages, row_at, fits_page}
use Rattle.device_profile.proofs.Valid.{HasPages-valid, IfSome-row_at}
use Rattle.device_profile.proofs.profile.Profile.geometry.Goals as goal

pub returns-clause-fits : goal.returns-clause-fits
returns-clause-fits g c =
    subst (λ (printer : Printer). IfSome (row_at printer.geometries c.args.size c.args.orientation) (λ page. IsTrue (fits_page page)))
    c.self.view_is
    (IfSome-row_at (printer_of c.self.inside) c.args.size c.args.orientation c.self.invariant)

pub returns-clause-allowed : goal.returns-clause-allowed
returns-clause-allowed g c = subst HasPages c.self.view_is (HasPages-valid (printer_of c.self.inside) c.self.invariant)
