-- The printers of texts of profiles that are kept.
use Rattle.std.specs.Prelude.{◌≡◌, ℕ, Bool, List, [], map, MatchBool}
use Rattle.device_profile.specs.Printer.{Printer}
use Rattle.notes.specs.Notes.{with_most_items}
use Rattle.named_inputs.specs.Fleet.{DescribeBy}

-- where notes are told, the printers of these texts, whose macros may carry out a million items of a job; else none
abbrev pub AreNotePrinters : Bool → List (List ℕ) → List Printer → Type 0
AreNotePrinters tells_notes texts printers =
    MatchBool tells_notes
    ((fleet : List Printer) × DescribeBy [] texts fleet × (printers ≡ map with_most_items fleet)) (printers ≡ [])
