-- The text of the pages of a job: a line for each mark, in the order of the job, and one for the end of each page.
use Rattle.std.specs.Prelude.{ℕ, ◌+◌, List, [], ◌∷◌, ◌++◌, Option, None, Some}
use Rattle.pcl_lexer.specs.Reading.{Reading}
use Rattle.device_profile.specs.declared.panel.Panel.{Panel}
use Rattle.device_profile.specs.Printer.{Printer}
use Rattle.page_env.specs.declared.finding.Finding.{Finding}
use Rattle.page_machine.specs.Event.{Event, Marked, Ended}
use Rattle.page_machine.specs.Job.{ItemRun, events_of, plain_run}
use Rattle.sinks.specs.Counts.{capped}
use Rattle.renderings.specs.declared.outcome.Outcome.{Outcome}
use Rattle.renderings.specs.Outcomes.{fails_with}
use Rattle.verdict.specs.Failing.{found_at}
use Rattle.line_words.specs.MarkLines.{mark_line, page_line}
use Rattle.renderings.specs.Texts.{reading_outcome}

-- ---- lines

-- an event on the page of this number
abbrev pub event_line : ℕ → Event → List ℕ
event_line n (Marked mark) = mark_line mark
event_line n (Ended end) = page_line n end

-- the number of the page behind an event; it stands still at 2^64 - 1
abbrev pub page_after : ℕ → Event → ℕ
page_after n (Marked mark) = n
page_after n (Ended end) = capped (n + 1)

-- events from the page of this number on
abbrev pub events_text : ℕ → List Event → List ℕ
events_text n [] = []
events_text n (e ∷ es) = event_line n e ++ events_text (page_after n e) es

-- ---- the job

abbrev pub found_or : ℕ → Option Finding → Outcome → Outcome
found_or place (Some finding) later = fails_with (found_at place 1 finding)
found_or place None later = later

-- the finding of a run, where it has one, or what comes behind its items
abbrev pub run_outcome : List ItemRun → Outcome → Outcome
run_outcome [] later = later
run_outcome (item ∷ items) later = found_or item.place item.finding (run_outcome items later)

-- of the plain run of a job from a panel: its events, and its finding or else the fault of the bytes
abbrev pub pages_text : Printer → Panel → Reading → List ℕ
pages_text printer panel reading = events_text 1 (events_of (plain_run printer panel reading).items)

abbrev pub pages_outcome : Printer → Panel → Reading → Outcome
pages_outcome printer panel reading = run_outcome (plain_run printer panel reading).items (reading_outcome reading)
