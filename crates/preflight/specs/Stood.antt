-- Where a printer stood, and which face it was asked for, as it came to the item that a job fails at.
use Rattle.std.specs.Prelude.{◌≡◌, ◌+◌, ◌⊎◌, ℕ, true, List, [], ◌∷◌, ◌++◌, Option, None, Some}
use Rattle.pcl_items.specs.Items.{Entry, Placed, at}
use Rattle.pcl_lexer.specs.Reading.{Reading, IsReading, items_of}
use Rattle.device_profile.specs.declared.panel.Panel.{Panel}
use Rattle.device_profile.specs.Nearest.{nearest_request}
use Rattle.device_profile.specs.Printer.{Printer, IsAllowed}
use Rattle.macro_store.specs.Store.{no_macros}
use Rattle.page_env.specs.FontInForce.{request_of}
use Rattle.page_env.specs.Places.{x_on_sheet, y_on_sheet}
use Rattle.page_env.specs.Settings.{State, settings_at, start_state, state_at, user_defaults, watched}
use Rattle.page_machine.specs.Job.{JobRun, items_run, no_end}
use Rattle.page_machine.specs.MachineState.{MachineState}
use Rattle.page_machine.specs.Run.{Done}
use Rattle.page_machine.specs.Still.{is_one_step}
use Rattle.verdict.specs.declared.reason.Reason.TheVariants.{Fault, Finding, Differs, Unpinnable}
use Rattle.verdict.specs.declared.verdict.Verdict.{Verdict}
use Rattle.verdict.specs.declared.verdict.Verdict.TheVariants.{Pass, Fail}
use Rattle.judgement.specs.declared.failing_item.FailingItem.{FailingItem}
use Rattle.judgement.specs.declared.failing_item.MissingFont.{MissingFont}
use Rattle.judgement.specs.declared.failing_item.SheetSpot.{SheetSpot}
use Rattle.preflight.specs.declared.check_state.CheckState.{CheckState}
use Rattle.preflight.specs.declared.check_state.CheckState.TheVariants.{Open, Judged, Stopped}
use Rattle.judgement.specs.FailingItem.{IsFailingItem}
use Rattle.judgement.specs.Failing.{IsNumbered}

-- ---- what is told

-- the watched run of the first items of a job
abbrev pub run_of_items : Printer → Panel → List Placed → JobRun
run_of_items printer panel items =
    let defaults = user_defaults (watched printer) panel in
    items_run printer defaults no_end items (no_macros printer.memory) (start_state printer.most_items defaults)

-- At this place of the job's one reading stands an item. On the printer of this number, from each panel that its
-- profile allows, the items before it lead to a state of which this holds.
pub record StoodBefore (fleet : List Printer) (job : List ℕ) (place number : ℕ)
    (Holds : Entry → Printer → Panel → State → Type 0) : Type 0 where
  pub reading : Reading
  pub is_reading : IsReading job reading
  pub items_before : List Placed
  pub item : Entry
  pub after : List Placed
  pub items_are : items_of reading ≡ (items_before ++ at place item ∷ []) ++ after
  pub printer : Printer
  pub is_numbered : IsNumbered fleet number printer
  pub led : (panel : Panel) → IsAllowed printer panel →
      (s : State) × ((run_of_items printer panel items_before).ending ≡ Done s) × Holds item printer panel s

-- the cursor stands there on the sheet
abbrev pub IsAt : SheetSpot → Printer → State → Type 0
IsAt spot printer s = (spot.x ≡ x_on_sheet printer s) × (spot.y ≡ y_on_sheet printer s)

-- what is told with a verdict on a job: where the cursor stood, of a finding alone
abbrev pub IsCursorOf : List Printer → List ℕ → Verdict → Option SheetSpot → Type 0
IsCursorOf fleet job verdict None = Unit {0}
IsCursorOf fleet job (Fail place number (Finding finding)) (Some spot) =
    StoodBefore fleet job place number (λ item printer panel s. IsAt spot printer s)
IsCursorOf fleet job _ (Some spot) = ⊥

-- this font is asked for, and the nearest face of the printer is this
abbrev pub IsAskedOf : MissingFont → Printer → State → Type 0
IsAskedOf font printer s =
    (font.asked ≡ request_of printer s) × (font.nearest ≡ nearest_request printer.faces font.asked)

-- and which font was asked for
abbrev pub IsFontOf : List Printer → List ℕ → Verdict → Option MissingFont → Type 0
IsFontOf fleet job verdict None = Unit {0}
IsFontOf fleet job (Fail place number (Finding finding)) (Some font) =
    StoodBefore fleet job place number (λ item printer panel s. IsAskedOf font printer s)
IsFontOf fleet job _ (Some font) = ⊥

-- ---- the machines that were stopped

-- of machines with numbers from n on, the one of this number is this
abbrev pub IsThere : (number n : ℕ) → MachineState → List MachineState → Type 0
IsThere number n machine [] = ⊥
IsThere number n machine (m ∷ ms) = ((number ≡ n) × (machine ≡ m)) ⊎ IsThere number (n + 1) machine ms

-- a machine is that of its printer, and where the item is one step, has the settings and the cursor from before it
pub record HoldsStill (failing_item : FailingItem) (machine : MachineState) (item : Entry) (printer : Printer)
    (panel : Panel)
    (s : State) : Type 0 where
  pub names : IsFailingItem failing_item item
  pub printer_is : machine.printer ≡ printer
  pub stays : is_one_step item ≡ true →
      (settings_at panel machine.page.env ≡ s.settings) × (machine.page.cursor ≡ s.cursor)

-- of a finding at an item, so is the machine of its number
abbrev pub MachineStood : List Printer → List ℕ → Verdict → Option FailingItem → List MachineState → Type 0
MachineStood fleet job (Fail place number (Finding finding)) (Some failing_item) machines =
    (machine : MachineState) → IsThere number 1 machine machines →
    StoodBefore fleet job place number (HoldsStill failing_item machine)
MachineStood fleet job _ _ machines = Unit {0}

-- the printer of this number has the finding
abbrev pub IsFinder : (number : ℕ) → Verdict → Type 0
IsFinder number (Pass pages marks) = ⊥
IsFinder number (Fail place profile (Finding finding)) = number ≡ profile
IsFinder number (Fail place profile (Fault cause)) = ⊥
IsFinder number (Fail place profile Differs) = ⊥
IsFinder number (Fail place profile Unpinnable) = ⊥

-- the machine of a finding at an item that is one step
abbrev pub StoppedAt : Verdict → Option FailingItem → List MachineState → MachineState → Type 0
StoppedAt (Fail place number (Finding finding)) (Some failing_item) machines machine =
    IsThere number 1 machine machines × ((item : Entry) → IsFailingItem failing_item item → is_one_step item ≡ true)
StoppedAt _ _ machines machine = ⊥

-- under each panel its cursor stands there
abbrev pub IsSpotOf : MachineState → SheetSpot → Type 0
IsSpotOf machine spot = (panel : Panel) → IsAt spot machine.printer (state_at panel machine.page)

-- and under each panel this font is asked for
abbrev pub LacksFont : MachineState → MissingFont → Type 0
LacksFont machine font = (panel : Panel) → IsAskedOf font machine.printer (state_at panel machine.page)

-- a part of what is told is that of such a machine
abbrev pub IsOfStopped : {T : Type 0} → (MachineState → T → Type 0) → Verdict → Option FailingItem → List MachineState →
    Option T → Type 0
IsOfStopped Is verdict failing_item machines None = Unit {0}
IsOfStopped Is verdict failing_item machines (Some told) =
    (machine : MachineState) × StoppedAt verdict failing_item machines machine × Is machine told

-- what a session tells of it
abbrev pub IsOfSession : {T : Type 0} → (MachineState → T → Type 0) → CheckState → Option FailingItem →
    List MachineState →
    Option T → Type 0
IsOfSession Is Open failing_item machines told = told ≡ None
IsOfSession Is (Judged verdict) failing_item machines told = IsOfStopped Is verdict failing_item machines told
IsOfSession Is (Stopped error) failing_item machines told = told ≡ None
