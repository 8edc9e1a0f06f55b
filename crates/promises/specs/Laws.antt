-- Laws of verdicts and of texts.
use Rattle.std.specs.Prelude.{◌≡◌, ℕ, ◌<◌, List, [], ◌∷◌, length, map, None}
use Rattle.std.specs.List.{All, Contains}
use Rattle.pcl_items.specs.Items.{Placed, entries}
use Rattle.pcl_lexer.specs.Reading.{Reading, Whole, IsReading, items_of, reading_of}
use Rattle.device_profile.specs.declared.panel.Panel.{Panel}
use Rattle.device_profile.specs.Printer.{Printer, first_panel}
use Rattle.page_env.specs.Settings.{Flags}
use Rattle.page_machine.specs.Job.{ItemRun, JobRun, events_of, run_from, plain_run, watched_run}
use Rattle.page_machine.specs.Laws.{IsSet}
use Rattle.page_machine.specs.Pinning.{pinned_reading, moved_reading, placed_from, place_behind, FindsRoom}
use Rattle.page_machine.specs.Pinning.{IsSameOutcome}
use Rattle.verdict.specs.declared.verdict.Verdict.TheVariants.{Pass}
use Rattle.renderings.specs.Texts.{plain_text}
use Rattle.judgement.specs.Verdict.{verdict_by, verdict_of}
use Rattle.judgement.specs.Wrong.{first_wrong}

-- What a fleet passes, each part of it passes alike: printers of the fleet, at least one, in any order.
abbrev pub PartPasses : List Printer → List Printer → Reading → Type 0
PartPasses fleet part reading =
    (page_total mark_total : ℕ) → verdict_of fleet reading ≡ Pass page_total mark_total →
    All (Contains fleet) part → 0 < length part → verdict_of part reading ≡ Pass page_total mark_total

-- The items of a job in their canonical spelling are read as the same items, to the end where those of the job are all
-- of its bytes, and their text is itself.
pub record IsReadAgain (reading : Reading) : Type 0 where
  pub same : entries (items_of (reading_of (plain_text reading))) ≡ entries (items_of reading)
  pub whole : (items : List Placed) (place : ℕ) → reading ≡ Whole items place →
      IsReading (plain_text reading) (Whole (placed_from 0 (entries items)) (place_behind 0 (entries items)))
  pub again : plain_text (reading_of (plain_text reading)) ≡ plain_text reading

-- A job has at most one run from a panel of a printer, however its bytes are read: one list of events, and one outcome.
abbrev pub HasOneRun : List ℕ → Type 0
HasOneRun job =
    (reading other : Reading) → IsReading job reading → IsReading job other → (printer : Printer) (panel : Panel) →
    plain_run printer panel other ≡ plain_run printer panel reading

-- an item's run, wherever it stands
abbrev pub unplaced : ItemRun → ItemRun
unplaced item = record item { place = 0 }

abbrev pub unplaced_run : JobRun → JobRun
unplaced_run run = record run { items = map unplaced run.items }

-- Jobs whose bytes are all items run alike where these are the same, wherever they stand:
-- with the same events and the same finding item by item, the same peaks, and to the same end.
abbrev pub RunAlike : (items others : List Placed) → Type 0
RunAlike items others =
    entries others ≡ entries items → (printer : Printer) (flags : Flags) (panel : Panel) (place place' : ℕ) →
    unplaced_run (run_from printer flags panel (Whole others place'))
    ≡ unplaced_run (run_from printer flags panel (Whole items place))

-- readings of the same items, wherever these stand and whatever ends them, have one plain text
abbrev pub HaveOnePlainText : Reading → Reading → Type 0
HaveOnePlainText a b = entries (items_of a) ≡ entries (items_of b) → plain_text a ≡ plain_text b

-- What a job whose bytes are all items comes to when it is pinned to a panel of a printer, if each of its items can be,
-- which is the premise of its law: what is written is read as the pinned items, among which the job's own stand at
-- other places. From every panel these give the events of the job from this one, and the same finding, if there is one,
-- at the same item. And the verdict on them for this printer alone is that of the job's run from this panel: no field
-- is unset in them. Each time this is so unless bodies of macros, which may be longer, find no room, and where the
-- items of bodies are not limited.
pub record IsPinned (printer : Printer) (panel : Panel) (items : List Placed) (text : List ℕ) : Type 0 where
  pub read : IsReading text (pinned_reading printer panel (entries items))
  pub moved : entries (items_of (moved_reading printer panel (entries items))) ≡ entries items
  pub prints : printer.most_items ≡ None → (from : Panel) →
      let run = plain_run printer from (pinned_reading printer panel (entries items)) in
      FindsRoom run.ending → IsSameOutcome (plain_run printer panel (moved_reading printer panel (entries items))) run
  pub verdict : printer.most_items ≡ None →
      let reading = pinned_reading printer panel (entries items) in
      let moved = (plain_run printer panel (moved_reading printer panel (entries items))).items in
      let run = watched_run printer (first_panel printer) reading in
      FindsRoom run.ending →
      IsSet run.ending
      × (verdict_of (printer ∷ []) reading ≡ verdict_by (first_wrong (moved ∷ [])) reading (events_of moved))
