use Rattle.std.proofs.Common.{◌≡◌, take}
use Rattle.std.specs.List.{All}
use Rattle.device_profile.specs.Printer.{values_of}
use Rattle.printer_models.specs.Panel.{panel_values}
use Rattle.printer_models.proofs.comparison.has_values_in.Given as goal

abbrev pub invariant-loop-field : goal.invariant-loop-field
invariant-loop-field g l =
    All (λ field. values_of l.profile field ≡ panel_values l.model l.papers l.lists field) (take l.field-index l.fields)
