use Rattle.std.proofs.Common.{◌≡◌, ◌<◌, ℕ}
use Rattle.device_profile.specs.Printer.{row_at}
use Rattle.printer_models.specs.Page.{page_at}
use Rattle.printer_models.proofs.comparison.has_pages_of_size.Given as goal

abbrev pub invariant-loop-orientation : goal.invariant-loop-orientation
invariant-loop-orientation g l =
    (orientation : ℕ) → orientation < l.orientation → row_at l.profile.geometries l.size orientation ≡ page_at l.papers l.size orientation
