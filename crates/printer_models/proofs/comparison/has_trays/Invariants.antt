use Rattle.std.proofs.Common.{◌≡◌, ◌<◌, ◌==◌, ℕ}
use Rattle.std.specs.List.{list_any}
use Rattle.device_profile.specs.Printer.{has_tray}
use Rattle.printer_models.proofs.comparison.has_trays.Given as goal

abbrev pub invariant-loop-tray : goal.invariant-loop-tray
invariant-loop-tray g l = (tray : ℕ) → tray < l.tray-counter → has_tray l.profile tray ≡ list_any (λ held. held == tray) l.trays
