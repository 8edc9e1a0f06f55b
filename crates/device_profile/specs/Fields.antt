-- A profile's fields, as a printer.
use Rattle.std.specs.Prelude.{IsTrue}
use Rattle.device_profile.specs.Printer.{Printer, is_valid}
use Rattle.device_profile.specs.declared.profile.Profile.TheInside.{Inside}

abbrev pub printer_of : {A : Type 0} → Inside A → Printer
printer_of p = record {
  sizes = p.choices.sizes;
  orientations = p.choices.orientations;
  vmis = p.choices.vmis;
  fonts = p.choices.fonts;
  copies = p.choices.copies;
  sides = p.choices.sides;
  panel_trays = p.choices.panel_trays;
  line_terminations = p.choices.line_terminations;
  device_trays = p.device_trays.items;
  has_duplex = p.has_duplex;
  depth = p.depth;
  memory = p.memory;
  most_items = p.most_items;
  geometries = p.geometries.items;
  faces = p.faces.items;
}

-- the printer is valid
abbrev pub IsProfile : {A : Type 0} → Inside A → Type 0
IsProfile p = IsTrue (is_valid (printer_of p))
