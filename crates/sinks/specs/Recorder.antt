-- What a recorder keeps.
use Rattle.std.specs.Prelude.{List, [], ◌∷◌, ◌++◌}
use Rattle.page_machine.specs.Event.{Event}
use Rattle.sinks.specs.declared.counts.Counts.{Counts}
use Rattle.sinks.specs.Counts.{counted, counts_after, no_counts}

-- the events since it was cleared, and the counts of all events
pub record Recorded : Type 0 where
  pub events : List Event
  pub counts : Counts

abbrev pub nothing_recorded : Recorded
nothing_recorded = record { events = []; counts = no_counts }

-- after one more event
abbrev pub recorded : Event → Recorded → Recorded
recorded event r = record { events = r.events ++ event ∷ []; counts = counted event r.counts }

-- after more events
abbrev pub recorded_all : List Event → Recorded → Recorded
recorded_all events r = record { events = r.events ++ events; counts = counts_after events r.counts }
