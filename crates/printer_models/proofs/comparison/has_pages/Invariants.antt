use Rattle.std.proofs.Common.{◌≡◌, ◌<◌, ℕ}
use Rattle.device_profile.specs.Printer.{row_at}
use Rattle.printer_models.specs.Page.{page_at}
use Rattle.printer_models.proofs.comparison.has_pages.Given as goal

abbrev pub invariant-loop-size : goal.invariant-loop-size
invariant-loop-size g l =
    (size : ℕ) → size < l.size → (orientation : ℕ) → orientation < 4 →
    row_at l.profile.geometries size orientation ≡ page_at l.papers size orientation
