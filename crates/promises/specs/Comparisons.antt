-- What a comparison says of two jobs that a check passes.
use Rattle.std.specs.Prelude.{ℕ, List}
use Rattle.std.specs.List.{Contains}
use Rattle.device_profile.specs.declared.panel.Panel.{Panel}
use Rattle.device_profile.specs.Printer.{Printer, IsAllowed}
use Rattle.judgement.specs.Verdict.{PrintsAlike}
use Rattle.comparison.specs.Laws.{PrintsSame}

-- Of two jobs that a check passes for a fleet, and that are the same on one of its printers from one panel, all that
-- the headline says of one holds of the other: they print the same on every printer from every panel.
abbrev pub SaysSameForAll : List Printer → (old new : List ℕ) → Type 0
SaysSameForAll fleet old new =
    (old_pages old_marks new_pages new_marks : ℕ) →
    PrintsAlike fleet old old_pages old_marks → PrintsAlike fleet new new_pages new_marks →
    (one : Printer) → Contains fleet one → (at : Panel) → IsAllowed one at → PrintsSame one at old new →
    (printer : Printer) → Contains fleet printer → (panel : Panel) → IsAllowed printer panel →
    PrintsSame printer panel old new
