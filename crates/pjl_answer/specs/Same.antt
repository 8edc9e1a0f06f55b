-- What is the same in two printers.
use Rattle.std.specs.Prelude.{◌≡◌}
use Rattle.device_profile.specs.Printer.{Printer}

-- what the panel may have for its page, its lines and its font
pub record HasPageValues (a b : Printer) : Type 0 where
  pub sizes : a.sizes ≡ b.sizes
  pub orientations : a.orientations ≡ b.orientations
  pub vmis : a.vmis ≡ b.vmis
  pub fonts : a.fonts ≡ b.fonts

-- what it may have for the other fields
pub record HasOtherValues (a b : Printer) : Type 0 where
  pub copies : a.copies ≡ b.copies
  pub sides : a.sides ≡ b.sides
  pub panel_trays : a.panel_trays ≡ b.panel_trays
  pub line_terminations : a.line_terminations ≡ b.line_terminations

-- the trays, the sides, the levels of macros, the memory and the limit of items
pub record IsSameDevice (a b : Printer) : Type 0 where
  pub device_trays : a.device_trays ≡ b.device_trays
  pub duplex : a.has_duplex ≡ b.has_duplex
  pub depth : a.depth ≡ b.depth
  pub memory : a.memory ≡ b.memory
  pub most_items : a.most_items ≡ b.most_items
