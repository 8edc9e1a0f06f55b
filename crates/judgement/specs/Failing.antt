-- What a Fail says of the printers of a fleet.
use Rattle.std.specs.Prelude.{IsTrue, ◌≡◌, ◌≢◌, ◌<◌, ℕ, zero, suc, ◌+◌, List, [], ◌∷◌, ◌++◌, length, None, map}
use Rattle.std.specs.List.{Contains}
use Rattle.pcl_items.specs.Items.{Placed}
use Rattle.pcl_lexer.specs.Reading.{Reading, Stopped}
use Rattle.device_profile.specs.declared.field.Field.{Field}
use Rattle.device_profile.specs.declared.field.Field.TheVariants.{Size, Orientation, Vmi, Font, Copies, Sides, Tray}
use Rattle.device_profile.specs.declared.field.Field.TheVariants.{LineTerm}
use Rattle.device_profile.specs.declared.panel.Panel.{Panel}
use Rattle.device_profile.specs.Printer.{Printer, IsAllowed, is_valid}
use Rattle.page_env.specs.declared.finding.Finding.{Finding}
use Rattle.page_env.specs.declared.finding.Finding.TheVariants.{Unset}
use Rattle.page_machine.specs.Event.{Event}
use Rattle.page_machine.specs.Job.{ItemRun, plain_run, watched_run}
use Rattle.page_machine.specs.Laws.{IsNotUnset}
use Rattle.page_machine.specs.Pinning.{finding_of}
use Rattle.page_machine.specs.Reached.{FindsBehind, ComesToRead}
use Rattle.verdict.specs.declared.reason.Reason.{Reason}
use Rattle.verdict.specs.declared.reason.Reason.TheVariants.{Fault, Finding as FindingOfRun, Differs, Unpinnable}

-- the printer of this number in a fleet, counted from 1
pub record IsNumbered (fleet : List Printer) (number : ℕ) (printer : Printer) : Type 0 where
  pub printers_before : List Printer
  pub after : List Printer
  pub fleet_is : fleet ≡ printers_before ++ printer ∷ after
  pub number_is : number ≡ length printers_before + 1

-- so many items of a run find nothing
abbrev pub GoesOn : ℕ → List ItemRun → Type 0
GoesOn zero items = Unit {0}
GoesOn (suc count) [] = ⊥
GoesOn (suc count) (item ∷ items) = (item.finding ≡ None) × GoesOn count items

-- the events of a run, item by item
abbrev pub events_by_item : List ItemRun → List (List Event)
events_by_item items = map (λ item. item.events) items

-- the run goes through so many items and the next one, which stands at this place, and finds nothing
abbrev pub GoesThrough : ℕ → ℕ → List ItemRun → Type 0
GoesThrough count_before place [] = ⊥
GoesThrough zero place (item ∷ items) = (item.finding ≡ None) × (item.place ≡ place)
GoesThrough (suc count_before) place (item ∷ items) = (item.finding ≡ None) × GoesThrough count_before place items

-- both runs of a printer from a panel, the plain one and the watched one, find nothing in so many items
abbrev pub BothGoOn : ℕ → Printer → Panel → Reading → Type 0
BothGoOn count_before printer panel reading =
    GoesOn count_before (plain_run printer panel reading).items ×
    GoesOn count_before (watched_run printer panel reading).items

-- nor in the next one, which stands at this place
abbrev pub BothGoThrough : ℕ → ℕ → Printer → Panel → Reading → Type 0
BothGoThrough count_before place printer panel reading =
    GoesThrough count_before place (plain_run printer panel reading).items
    × GoesThrough count_before place (watched_run printer panel reading).items

-- the events of the item that stands behind so many others
abbrev pub events_behind : ℕ → List ItemRun → List Event
events_behind count_before [] = []
events_behind zero (item ∷ items) = item.events
events_behind (suc count_before) (item ∷ items) = events_behind count_before items

-- the events of so many items, item by item
abbrev pub events_before : ℕ → List ItemRun → List (List Event)
events_before zero items = []
events_before (suc count) [] = []
events_before (suc count) (item ∷ items) = item.events ∷ events_before count items

-- ---- an unset field

-- the panel with this value in a field
abbrev pub with_value : Field → ℕ → Panel → Panel
with_value Size value panel = record panel { size = value }
with_value Orientation value panel = record panel { orientation = value }
with_value Vmi value panel = record panel { vmi = value }
with_value Font value panel = record panel { font = value }
with_value Copies value panel = record panel { copies = value }
with_value Sides value panel = record panel { sides = value }
with_value Tray value panel = record panel { tray = value }
with_value LineTerm value panel = record panel { line_termination = value }

-- two panels that the profile allows differ in this field alone
pub record IsChosen (printer : Printer) (field : Field) : Type 0 where
  pub panel : Panel
  pub value : ℕ
  pub one_allowed : IsAllowed printer panel
  pub other_allowed : IsAllowed printer (with_value field value panel)
  pub differ : with_value field value panel ≢ panel

-- From every panel that the profile allows, the plain run comes without a finding to a step of this item that reads the
-- field, which no item has set since it was last at its user default; and the panel of a valid profile chooses it.
pub record SaysUnset (printer : Printer) (reading : Reading) (count_before place : ℕ) (field : Field) : Type 0 where
  pub reads : (panel : Panel) → IsAllowed printer panel → ComesToRead printer panel reading count_before place field
  pub chosen : IsTrue (is_valid printer) → IsChosen printer field

-- ---- a finding

-- On every printer of the fleet, from every panel that its profile allows, both runs go through so many items, with the
-- same events, and on those of lower numbers through the next one, too. There, at this place, the watched run of the
-- printer of this number finds this; and so does the plain run, unless it is Unset.
pub record SaysFound (fleet : List Printer) (reading : Reading) (place number : ℕ) (finding : Finding) : Type 0 where
  pub printer : Printer
  pub is_numbered : IsNumbered fleet number printer
  pub count_before : ℕ
  pub comes : (each : Printer) → Contains fleet each → (panel : Panel) → IsAllowed each panel →
      BothGoOn count_before each panel reading
  pub shared : List (List Event)
  pub alike : (each : Printer) → Contains fleet each → (panel : Panel) → IsAllowed each panel →
      events_before count_before (plain_run each panel reading).items ≡ shared
  pub lower : (each : Printer) (lower : ℕ) → IsNumbered fleet lower each → lower < number → (panel : Panel) →
      IsAllowed each panel →
      BothGoThrough count_before place each panel reading
  pub watched : (panel : Panel) → IsAllowed printer panel →
      FindsBehind count_before place finding (watched_run printer panel reading).items
  pub plain : IsNotUnset finding → (panel : Panel) → IsAllowed printer panel →
      FindsBehind count_before place finding (plain_run printer panel reading).items
  pub unset : (field : Field) → finding ≡ Unset field → SaysUnset printer reading count_before place field

-- ---- a difference

-- A printer differs at an item: on every printer of the fleet, from every panel that its profile allows, both runs go
-- through it, and give the same events at each item before; there those of lower numbers, the first among them, give
-- the same events, and the printer of this number gives others.
pub record SaysDiffers (fleet : List Printer) (reading : Reading) (place number : ℕ) : Type 0 where
  pub count_before : ℕ
  pub printer : Printer
  pub is_numbered : IsNumbered fleet number printer
  pub is_not_first : 1 < number
  pub through : (each : Printer) → Contains fleet each → (panel : Panel) → IsAllowed each panel →
      BothGoThrough count_before place each panel reading
  pub shared : List (List Event)
  pub alike : (each : Printer) → Contains fleet each → (panel : Panel) → IsAllowed each panel →
      events_before count_before (plain_run each panel reading).items ≡ shared
  pub events : List Event
  pub lower : (each : Printer) (lower : ℕ) → IsNumbered fleet lower each → lower < number → (panel : Panel) →
      IsAllowed each panel →
      events_behind count_before (plain_run each panel reading).items ≡ events
  pub other : (panel : Panel) → IsAllowed printer panel →
      events_behind count_before (plain_run printer panel reading).items ≢ events

-- ---- a fault of the bytes

-- on every printer of the fleet, from every panel that its profile allows, both runs find nothing, and the plain one
-- gives these events item by item
abbrev pub FindsNothing : List Printer → Reading → List (List Event) → Type 0
FindsNothing fleet reading events =
    (printer : Printer) → Contains fleet printer → (panel : Panel) → IsAllowed printer panel →
    (finding_of (plain_run printer panel reading).items ≡ None)
    × (finding_of (watched_run printer panel reading).items ≡ None)
    × (events_by_item (plain_run printer panel reading).items ≡ events)

-- What a Fail says: of a finding; of a fault of the bytes, which comes behind items in which no run of the fleet finds
-- anything and which print alike; and of a difference. No check answers Unpinnable.
abbrev pub FailSays : List Printer → Reading → (place number : ℕ) → Reason → Type 0
FailSays fleet reading place number (FindingOfRun finding) = SaysFound fleet reading place number finding
FailSays fleet reading place number (Fault cause) =
    (number ≡ 0) × ((items : List Placed) × (reading ≡ Stopped items place cause))
    × ((events : List (List Event)) × FindsNothing fleet reading events)
FailSays fleet reading place number Differs = SaysDiffers fleet reading place number
FailSays fleet reading place number Unpinnable = ⊥
