-- How many pages and marks a run hands over.
use Rattle.std.specs.Prelude.{ℕ, ◌+◌, ◌-◌, ◌^◌, min, List, [], ◌∷◌}
use Rattle.page_machine.specs.Event.{Event, Marked, Ended}
use Rattle.sinks.specs.declared.counts.Counts.{Counts}

-- a count, or where it stands still
abbrev pub capped : ℕ → ℕ
capped n = min n (2 ^ 64 - 1)

-- the counts after one more event
abbrev pub counted : Event → Counts → Counts
counted (Marked mark) counts = record counts { marks = capped (counts.marks + 1) }
counted (Ended page) counts = record counts { pages = capped (counts.pages + 1) }

-- the counts of events, from these on
abbrev pub counts_after : List Event → Counts → Counts
counts_after [] counts = counts
counts_after (e ∷ es) counts = counts_after es (counted e counts)

-- how many pages have ended behind one more event, from so many on
abbrev pub paged : Event → ℕ → ℕ
paged (Marked mark) pages = pages
paged (Ended page) pages = capped (pages + 1)

-- and behind these events
abbrev pub pages_after : List Event → ℕ → ℕ
pages_after [] pages = pages
pages_after (e ∷ es) pages = pages_after es (paged e pages)

abbrev pub no_counts : Counts
no_counts = record { pages = 0; marks = 0 }
