use Rattle.std.proofs.Common.{◌≡◌, ◌==◌, ap, subst, ◌∙◌}
use Rattle.std.specs.List.{list_any}
use Rattle.device_profile.specs.Fields.{printer_of}
use Rattle.device_profile.specs.Printer.{Printer, has_tray, HasTrays}
use Rattle.device_profile.proofs.Valid.{HasTrays-valid}
use Rattle.device_profile.proofs.profile.Profile.has_tray.Goals as goal

pub returns-clause-tray : goal.returns-clause-tray
returns-clause-tray g c =
    subst (λ (printer : Printer). c.contains.result ≡ has_tray printer c.args.tray) c.self.view_is
    (c.contains.ensures.value ∙ ap (list_any (λ held. held == c.args.tray)) c.deref.ensures.value)

pub returns-clause-allowed : goal.returns-clause-allowed
returns-clause-allowed g c = subst HasTrays c.self.view_is (HasTrays-valid (printer_of c.self.inside) c.self.invariant)
