-- Printers on which macros may carry out so many items of a job.
use Rattle.std.specs.Prelude.{◌≡◌, ℕ, List, Option, None, Some, Ok}
use Rattle.device_profile.specs.Printer.{Printer}
use Rattle.device_profile.specs.Text.{printer_of_text}

-- a printer with this limit, or as it is
abbrev pub limited : Option ℕ → Printer → Printer
limited None printer = printer
limited (Some most) printer = record printer { most_items = Some most }

-- it is the one that a text describes, with this limit
abbrev pub IsPrinterOf : Option ℕ → (text : List ℕ) → Printer → Type 0
IsPrinterOf most text limited_one =
    (printer : Printer) × (printer_of_text text ≡ Ok printer) × (limited_one ≡ limited most printer)
