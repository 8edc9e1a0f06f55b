-- Printers that are alike but for the device.
use Rattle.std.specs.Prelude.{◌≡◌}
use Rattle.device_profile.specs.Printer.{Printer}

-- a printer with the device of another:
-- its trays, whether it prints on both sides, and the depth and memory of its macros
abbrev pub with_device_of : Printer → Printer → Printer
with_device_of device printer = record printer {
  device_trays = device.device_trays;
  has_duplex = device.has_duplex;
  depth = device.depth;
  memory = device.memory;
}

-- A printer is another one with a device of its own: both have the same panels, pages, faces and limit of items.
abbrev pub IsLike : Printer → Printer → Type 0
IsLike printer other = other ≡ with_device_of other printer
