-- A pinned job: the items of a job, with commands that set all that a panel chooses.
use Rattle.std.specs.List.{AllByRecursion}
use Rattle.std.specs.Prelude.{◌≡◌, ℕ, ℤ, pos, int_lt, unsigned_abs, ◌+◌, ◌*◌, length, Bool, true, false, cond, not}
use Rattle.std.specs.Prelude.{◌&&◌, ◌||◌, List, [], ◌∷◌, ◌++◌, Option, Some, None, if◌then◌else◌}
use Rattle.device_profile.specs.declared.font.FontRequest.{FontRequest}
use Rattle.device_profile.specs.declared.panel.Panel.{Panel}
use Rattle.device_profile.specs.Printer.{Printer}
use Rattle.pcl_items.specs.declared.pcl.command.Command.TheVariants as commands
use Rattle.pcl_items.specs.declared.number.Sign.TheVariants.{Absent, Minus}
use Rattle.pcl_items.specs.Spellings.Canon.{canon}
use Rattle.pcl_items.specs.Items.{Entry, Placed, Parameterized, SymbolSet, Reset, ExitLanguage, PjlLine}
use Rattle.pcl_lexer.specs.Reading.{Reading, Whole}
use Rattle.pcl_items.specs.Escapes.Value.{Amount}
use Rattle.page_env.specs.declared.finding.Finding.{Finding}
use Rattle.page_env.specs.declared.finding.Finding.TheVariants.{MacroMemory}
use Rattle.page_env.specs.JobControl.{is_reset}
use Rattle.page_env.specs.FontInForce.{request_at}
use Rattle.page_env.specs.Pinned.{is_orientation, is_unpinnable}
use Rattle.page_env.specs.Settings.{Flags}
use Rattle.page_machine.specs.Job.{ItemRun, JobRun, events_of, run_from, plain_run}
use Rattle.page_machine.specs.Laws.{IsSet}
use Rattle.page_machine.specs.Run.{Ending, Done, Halts}

-- ---- what sets what a panel chooses

-- so many ten-thousandths, without a sign
abbrev pub unsigned : ℕ → Amount
unsigned n = record { sign = Absent; ten_thousandths = n }

-- a whole number, without a sign
abbrev pub whole : ℕ → Amount
whole n = unsigned (n * 10_000)

-- a stroke weight may be negative
abbrev pub weight_amount : ℤ → Amount
weight_amount weight =
    record { sign = if int_lt weight (pos 0) then Minus else Absent; ten_thousandths = unsigned_abs weight }

-- the command that sets the VMI, in ten-thousandths of 1/48 inch
abbrev pub spacing : ℕ → Entry
spacing vmi = Parameterized commands.VerticalMotionIndex (unsigned vmi)

-- the prologue: commands that set all that a panel chooses, whose font has this request
abbrev pub prologue : Panel → FontRequest → List Entry
prologue panel request =
    Parameterized commands.PageSize (whole panel.size)
    ∷ Parameterized commands.Orientation (whole panel.orientation)
    ∷ Parameterized commands.Copies (whole panel.copies)
    ∷ Parameterized commands.Sides (whole panel.sides)
    ∷ Parameterized commands.Source (whole panel.tray)
    ∷ spacing panel.vmi
    ∷ SymbolSet (unsigned request.symbol_set.number) request.symbol_set.letter
    ∷ Parameterized commands.FontSpacing (unsigned request.spacing)
    ∷ Parameterized commands.FontPitch (unsigned request.pitch)
    ∷ Parameterized commands.FontHeight (unsigned request.height)
    ∷ Parameterized commands.FontStyle (unsigned request.style)
    ∷ Parameterized commands.FontWeight (weight_amount request.weight)
    ∷ Parameterized commands.FontTypeface (unsigned request.typeface)
    ∷ Parameterized commands.LineTermination (whole panel.line_termination)
    ∷ []

-- ---- where it stands

-- before these none is written: they read nothing that it sets
abbrev pub needs_no_prologue : Entry → Bool
needs_no_prologue Reset = true
needs_no_prologue ExitLanguage = true
needs_no_prologue (PjlLine line) = true
needs_no_prologue _ = false

-- what is written before an item: the prologue, where one is due and the item needs it
abbrev pub written_before : Panel → FontRequest → Bool → Entry → List Entry
written_before panel request due item = cond (due && not (needs_no_prologue item)) (prologue panel request) []

-- what is written behind it: the panel's VMI behind an orientation
abbrev pub written_behind : Panel → Entry → List Entry
written_behind panel item = cond (is_orientation item) (spacing panel.vmi ∷ []) []

-- whether a prologue is due behind an item, where one was due before it or not: a reset returns to user defaults
abbrev pub is_due_behind : Bool → Entry → Bool
is_due_behind due item = is_reset item || (due && needs_no_prologue item)

-- the items of a pinned job, where a prologue is due or not
abbrev pub pinned_items : Panel → FontRequest → Bool → List Entry → List Entry
pinned_items panel request due [] = []
pinned_items panel request due (item ∷ items) =
    written_before panel request due item ++ item ∷ written_behind panel item
    ++ pinned_items panel request (is_due_behind due item) items

-- ---- the places in it

-- the place behind items in their one spelling, which stand from a place on
abbrev pub place_behind : ℕ → List Entry → ℕ
place_behind place [] = place
place_behind place (item ∷ items) = place_behind (place + length (canon item)) items

-- items in their one spelling, one behind another, from a place on
abbrev pub placed_from : ℕ → List Entry → List Placed
placed_from place [] = []
placed_from place (item ∷ items) =
    record { place = place; item = item } ∷ placed_from (place + length (canon item)) items

-- the items of a job, each where it stands in the pinned job, from a place on
abbrev pub moved_from : Panel → FontRequest → ℕ → Bool → List Entry → List Placed
moved_from panel request place due [] = []
moved_from panel request place due (item ∷ items) =
    let here = place_behind place (written_before panel request due item) in
    record { place = here; item = item }
    ∷ moved_from panel request (place_behind (here + length (canon item)) (written_behind panel item))
    (is_due_behind due item) items

-- ---- jobs

-- the items of a job that is pinned to a panel of a printer
abbrev pub pinned_entries : Printer → Panel → List Entry → List Entry
pinned_entries printer panel items = pinned_items panel (request_at printer.faces panel.font) true items

-- the reading of the pinned job
abbrev pub pinned_reading : Printer → Panel → List Entry → Reading
pinned_reading printer panel items =
    let entries = pinned_entries printer panel items in Whole (placed_from 0 entries) (place_behind 0 entries)

-- the reading of the job, each item where it stands in the pinned job
abbrev pub moved_reading : Printer → Panel → List Entry → Reading
moved_reading printer panel items =
    Whole (moved_from panel (request_at printer.faces panel.font) 0 true items)
    (place_behind 0 (pinned_entries printer panel items))

-- ---- the same outcome

-- the run did not end for want of macro memory: bodies of a pinned job may be longer
abbrev pub IsNoMemory : Finding → Type 0
IsNoMemory MacroMemory = ⊥
IsNoMemory _ = Unit {0}

abbrev pub FindsRoom : Ending → Type 0
FindsRoom (Done s) = Unit {0}
FindsRoom (Halts finding) = IsNoMemory finding

abbrev pub found_at : ℕ → Option Finding → Option (ℕ × Finding) → Option (ℕ × Finding)
found_at place (Some finding) later = Some (place, finding)
found_at place None later = later

-- the finding among items, with its place
abbrev pub finding_of : List ItemRun → Option (ℕ × Finding)
finding_of [] = None
finding_of (x ∷ xs) = found_at x.place x.finding (finding_of xs)

-- the second gives the same events, and the same finding at the same place, if there is one, which is none
-- of a field that is unset
pub record IsSameOutcome (r r' : JobRun) : Type 0 where
  pub events : events_of r'.items ≡ events_of r.items
  pub finding : finding_of r'.items ≡ finding_of r.items
  pub set : IsSet r'.ending

-- What a job prints that is pinned to this panel: from every panel, whether it is watched or not, it gives the events
-- of the job from this panel, and ends with the same finding, if there is one, at the same item; unless its bodies,
-- which may be longer than those of the job, find no room. So it is where the items of bodies are not limited.
abbrev pub PrintsPinned : Printer → Panel → Type 0
PrintsPinned printer panel =
    printer.most_items ≡ None → (flags : Flags) (from : Panel) (items : List Entry) →
    AllByRecursion (λ item. is_unpinnable item ≡ false) items →
    let run = run_from printer flags from (pinned_reading printer panel items) in
    FindsRoom run.ending → IsSameOutcome (plain_run printer panel (moved_reading printer panel items)) run
