-- Jobs that run clean: what a Pass says of printers that leave nothing to their panels.
use Rattle.std.specs.Prelude.{◌≡◌, ◌↔◌, ◌≤◌, ℕ, List, length}
use Rattle.std.specs.List.{Contains}
use Rattle.pcl_items.specs.Items.{Placed}
use Rattle.pcl_lexer.specs.Reading.{Whole}
use Rattle.device_profile.specs.declared.panel.Panel.{Panel}
use Rattle.device_profile.specs.declared.field.Field.{Field}
use Rattle.device_profile.specs.Printer.{Printer, first_panel, values_of}
use Rattle.page_env.specs.Settings.{State}
use Rattle.page_machine.specs.Event.{Event}
use Rattle.page_machine.specs.Run.{Done}
use Rattle.page_machine.specs.Job.{events_of, plain_run}
use Rattle.page_machine.specs.Pages.{PrintedPage, pages}
use Rattle.verdict.specs.Failing.{IsPass}
use Rattle.judgement.specs.Failing.{events_by_item}
use Rattle.judgement.specs.Verdict.{verdict_of}

-- from this panel a job of these items runs clean on a printer: the plain run comes to its end, and prints these pages
pub record IsClean (printer : Printer) (panel : Panel) (items : List Placed) (place : ℕ)
    (printed : List PrintedPage) : Type 0 where
  pub end : State
  pub is_done : (plain_run printer panel (Whole items place)).ending ≡ Done end
  pub prints : pages (events_of (plain_run printer panel (Whole items place)).items) ≡ printed

-- a profile leaves nothing to the panel: in no field does it allow two values
abbrev pub LeavesNothing : Printer → Type 0
LeavesNothing printer = (field : Field) → length (values_of printer field) ≤ 1

-- from the panels that the profiles list first a job runs clean on each printer of a fleet, with the same pages, and
-- gives the same events item by item
pub record AreClean (fleet : List Printer) (items : List Placed) (place : ℕ) : Type 0 where
  pub printed : List PrintedPage
  pub clean : (printer : Printer) → Contains fleet printer → IsClean printer (first_panel printer) items place printed
  pub events : List (List Event)
  pub alike : (printer : Printer) → Contains fleet printer →
      events_by_item (plain_run printer (first_panel printer) (Whole items place)).items ≡ events

-- printers that leave nothing to their panels pass a job, all bytes of which are items, exactly where it
-- runs clean on them
abbrev pub PassesWhereClean : List Printer → List Placed → ℕ → Type 0
PassesWhereClean fleet items place =
    ((printer : Printer) → Contains fleet printer → LeavesNothing printer) →
    IsPass (verdict_of fleet (Whole items place)) ↔ AreClean fleet items place
