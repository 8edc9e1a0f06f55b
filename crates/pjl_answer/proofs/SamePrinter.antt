-- Printers that are the same in each field.
use Rattle.std.proofs.Common.{◌≡◌}
use Rattle.device_profile.specs.Printer.{Printer}
use Rattle.pjl_answer.specs.Same.{HasOtherValues, HasPageValues, IsSameDevice}

pub same_printer : (a b : Printer) → HasPageValues a b → HasOtherValues a b → IsSameDevice a b → a.geometries ≡ b.geometries →
    a.faces ≡ b.faces → a ≡ b
same_printer a b page other device geometries faces =
    λ i. record {
      sizes = page.sizes i;
      orientations = page.orientations i;
      vmis = page.vmis i;
      fonts = page.fonts i;
      copies = other.copies i;
      sides = other.sides i;
      panel_trays = other.panel_trays i;
      line_terminations = other.line_terminations i;
      device_trays = device.device_trays i;
      has_duplex = device.duplex i;
      depth = device.depth i;
      memory = device.memory i;
      most_items = device.most_items i;
      geometries = geometries i;
      faces = faces i;
    }
