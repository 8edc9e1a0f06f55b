-- The page on which a job fails.
use Rattle.std.specs.Prelude.{◌≡◌, ◌+◌, ℕ, List, length, take, Option, None, Some}
use Rattle.std.specs.List.{Contains}
use Rattle.pcl_lexer.specs.Reading.{Reading, IsReading}
use Rattle.device_profile.specs.declared.panel.Panel.{Panel}
use Rattle.device_profile.specs.Printer.{Printer, IsAllowed}
use Rattle.page_machine.specs.Event.{Event}
use Rattle.page_machine.specs.Job.{ItemRun, events_of, watched_run}
use Rattle.page_machine.specs.Pages.{pages}
use Rattle.sinks.specs.declared.counts.Counts.{Counts}
use Rattle.sinks.specs.Counts.{capped}
use Rattle.verdict.specs.declared.reason.Reason.{Reason}
use Rattle.verdict.specs.declared.reason.Reason.TheVariants.{Fault, Finding, Differs, Unpinnable}
use Rattle.verdict.specs.declared.verdict.Verdict.{Verdict}
use Rattle.verdict.specs.declared.verdict.Verdict.TheVariants.{Pass, Fail}
use Rattle.judgement.specs.Failing.{IsNumbered}
use Rattle.judgement.specs.Verdict.{runs_of}
use Rattle.judgement.specs.Wrong.{Wrong, first_wrong}

-- the page that is open behind these events: 1, and one for each page that ended
abbrev pub page_behind : List Event → ℕ
page_behind events = capped (length (pages events) + 1)

-- behind what a run gave
abbrev pub page_of_run : List ItemRun → ℕ
page_of_run items = page_behind (events_of items)

-- of a finding: the page that is open on its printer as that is found, with which the printer's watched run ends,
-- whatever panel of the profile it begins from
abbrev pub FindsOnPage : List Printer → Reading → (number page : ℕ) → Type 0
FindsOnPage fleet reading number page =
    (printer : Printer) × IsNumbered fleet number printer
    × ((panel : Panel) → IsAllowed printer panel → page ≡ page_of_run (watched_run printer panel reading).items)

-- of a difference, which is what is wrong first: the page that is open on each printer as its item begins
abbrev pub DiffersOnPage : List Printer → Reading → (page : ℕ) → Type 0
DiffersOnPage fleet reading page =
    (w : Wrong) × (first_wrong (runs_of fleet reading) ≡ Some w)
    × ((printer : Printer) → Contains fleet printer → (panel : Panel) → IsAllowed printer panel →
    page ≡ page_of_run (take w.count_before (watched_run printer panel reading).items))

-- of a fault of the bytes: the page that the items before it leave open on each printer
abbrev pub StopsOnPage : List Printer → Reading → (page : ℕ) → Type 0
StopsOnPage fleet reading page =
    (printer : Printer) → Contains fleet printer → (panel : Panel) → IsAllowed printer panel →
    page ≡ page_of_run (watched_run printer panel reading).items

-- No check answers Unpinnable.
abbrev pub FailsOnPage : List Printer → Reading → (number : ℕ) → Reason → (page : ℕ) → Type 0
FailsOnPage fleet reading number (Finding finding) page = FindsOnPage fleet reading number page
FailsOnPage fleet reading number Differs page = DiffersOnPage fleet reading page
FailsOnPage fleet reading number (Fault cause) page = StopsOnPage fleet reading page
FailsOnPage fleet reading number Unpinnable page = ⊥

-- what is told with a verdict on a job: the page on which it fails, and none where it passes
abbrev pub IsOnPage : List Printer → List ℕ → Verdict → Option ℕ → Type 0
IsOnPage fleet job (Pass page_total mark_total) page = page ≡ None
IsOnPage fleet job (Fail place number reason) None = ⊥
IsOnPage fleet job (Fail place number reason) (Some page) =
    (reading : Reading) × IsReading job reading × FailsOnPage fleet reading number reason page

-- ---- what was counted

-- the page that is open where so much was counted
abbrev pub open_page : Counts → ℕ
open_page counts = capped (counts.pages + 1)

-- what is told with a verdict, where so much was counted
abbrev pub page_with : Verdict → Counts → Option ℕ
page_with (Pass page_total mark_total) counts = None
page_with (Fail place number reason) counts = Some (open_page counts)
