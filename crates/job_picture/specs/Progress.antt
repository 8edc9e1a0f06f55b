-- Which page is open, and whether it has a mark.
use Rattle.std.specs.Prelude.{◌+◌, true, false, List, [], ◌∷◌}
use Rattle.page_machine.specs.Event.{Event, Marked, Ended}
use Rattle.sinks.specs.Counts.{capped}
use Rattle.job_picture.specs.declared.progress.Progress.{Progress}

abbrev pub first_page : Progress
first_page = record { page = 1; is_marked = false }

-- behind an event; the number stands still at 2^64 - 1
abbrev pub progress_behind : Progress → Event → Progress
progress_behind p (Marked mark) = record { page = p.page; is_marked = true }
progress_behind p (Ended end) = record { page = capped (p.page + 1); is_marked = false }

-- behind events
abbrev pub progress_behind_all : Progress → List Event → Progress
progress_behind_all p [] = p
progress_behind_all p (e ∷ es) = progress_behind_all (progress_behind p e) es
