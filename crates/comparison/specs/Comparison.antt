-- What comes of two jobs, OLD and NEW, on a printer from a panel: they print the same, or where they first differ, or
-- why one fails.
use Rattle.std.specs.Prelude.{◌≡◌, ℕ, ◌+◌, List, [], ◌∷◌, map, flat_map, Option, None, Some, if◌then◌else◌}
use Rattle.pcl_lexer.specs.Reading.{Reading, Whole, Stopped, IsReading}
use Rattle.device_profile.specs.declared.panel.Panel.{Panel}
use Rattle.device_profile.specs.Printer.{Printer}
use Rattle.page_env.specs.declared.finding.Finding.{Finding}
use Rattle.page_machine.specs.Event.{Event, Marked, Ended}
use Rattle.page_machine.specs.Job.{ItemRun, plain_run}
use Rattle.sinks.specs.Same.{is_same_event}
use Rattle.sinks.specs.Counts.{capped, counted, no_counts}
use Rattle.verdict.specs.declared.failure.Failure.{Failure}
use Rattle.verdict.specs.Failing.{fault_at, found_at}
use Rattle.comparison.specs.declared.difference.Change.{Change}
use Rattle.comparison.specs.declared.difference.Comparison.{Comparison}
use Rattle.comparison.specs.declared.difference.Comparison.TheVariants.{Same, Differs, OldFails, NewFails}
use Rattle.comparison.specs.declared.difference.Difference.{Difference}
use Rattle.comparison.specs.declared.difference.Spot.{Spot}
use Rattle.comparison.specs.Changes.{change_of, only_in_new, only_in_old}

-- ---- what a job comes to

-- an event, and where the item stands that made it; what the end of the bytes makes stands there
pub record Made : Type 0 where
  pub place : ℕ
  pub event : Event

abbrev pub made_at : ℕ → List Event → List Made
made_at place events = map (λ event. record { place = place; event = event }) events

-- the marks and the ends of pages of a run, in order
abbrev pub all_made : List ItemRun → List Made
all_made items = flat_map (λ item. made_at item.place item.events) items

-- where the bytes end, or stop by a fault
abbrev pub end_of : Reading → ℕ
end_of (Whole items place) = place
end_of (Stopped items place cause) = place

abbrev pub fault_of : Reading → Option Failure
fault_of (Whole items place) = None
fault_of (Stopped items place cause) = Some (fault_at place cause)

abbrev pub found_or : ℕ → ℕ → Option Finding → Option Failure → Option Failure
found_or number place (Some finding) later = Some (found_at place number finding)
found_or number place None later = later

-- why a run fails on the printer of this number: by its finding, or else by what comes behind its items
abbrev pub failure_or : ℕ → List ItemRun → Option Failure → Option Failure
failure_or number [] later = later
failure_or number (item ∷ items) later = found_or number item.place item.finding (failure_or number items later)

abbrev pub failure_on : ℕ → List ItemRun → Reading → Option Failure
failure_on number items reading = failure_or number items (fault_of reading)

-- ---- where two jobs first differ

abbrev pub at_start : Spot
at_start = record { counts = no_counts; on_page = 0 }

-- behind an event that both jobs made
abbrev pub behind_event : Event → Spot → Spot
behind_event (Marked mark) spot =
    record { counts = counted (Marked mark) spot.counts; on_page = capped (spot.on_page + 1) }
behind_event (Ended page) spot = record { counts = counted (Ended page) spot.counts; on_page = 0 }

-- the page is the one that is open there, and the mark the next one on it, both counted from 1
abbrev pub difference_at : Spot → (old_place new_place : ℕ) → Change → Difference
difference_at spot old_place new_place change = record {
  page = capped (spot.counts.pages + 1);
  mark = capped (spot.on_page + 1);
  old_place = old_place;
  new_place = new_place;
  change = change;
}

-- Event by event from this spot on, of jobs that end at these places.
-- They are the same by the relation by which two printers print alike.
abbrev pub compared : Spot → (old_end new_end : ℕ) → List Made → List Made → Comparison
compared spot old_end new_end [] [] = Same spot.counts
compared spot old_end new_end (a ∷ old) [] =
    Differs (difference_at spot a.place new_end (only_in_old a.event))
compared spot old_end new_end [] (b ∷ new) =
    Differs (difference_at spot old_end b.place (only_in_new b.event))
compared spot old_end new_end (a ∷ old) (b ∷ new) =
    if is_same_event a.event b.event then compared (behind_event a.event spot) old_end new_end old new
    else Differs (difference_at spot a.place b.place (change_of a.event b.event))

-- ---- all of it

abbrev pub failing_or : (Failure → Comparison) → Option Failure → Comparison → Comparison
failing_or fails None otherwise = otherwise
failing_or fails (Some failure) otherwise = fails failure

-- a failure of OLD comes first, and then one of NEW
abbrev pub comparison_of : ℕ → (old new : Reading) → (old_items new_items : List ItemRun) → Comparison
comparison_of number old new old_items new_items =
    failing_or OldFails (failure_on number old_items old)
    (failing_or NewFails (failure_on number new_items new)
    (compared at_start (end_of old) (end_of new) (all_made old_items) (all_made new_items)))

-- of the plain runs on the printer of this number, from this panel
abbrev pub comparison_from : ℕ → Printer → Panel → (old new : Reading) → Comparison
comparison_from number printer panel old new =
    comparison_of number old new (plain_run printer panel old).items (plain_run printer panel new).items

-- it is what the definitions say of the one reading of each job
abbrev pub IsComparison : ℕ → Printer → Panel → (old new : List ℕ) → Comparison → Type 0
IsComparison number printer panel old new comparison =
    (old_reading : Reading) × IsReading old old_reading × (new_reading : Reading) × IsReading new new_reading
    × (comparison ≡ comparison_from number printer panel old_reading new_reading)
