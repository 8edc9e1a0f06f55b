-- A printer that may have some panel may have the first one; and from each that it may have it runs alike.
use Rattle.std.proofs.Common.{◌≡◌, ℕ, List, [], ◌∷◌, refl, ap, ◌∙◌, arith}
use Rattle.std.specs.Prelude.{slice_index}
use Rattle.std.specs.List.{Contains}
use Rattle.device_profile.specs.declared.panel.Panel.{Panel}
use Rattle.device_profile.specs.Printer.{Printer, IsAllowed, first_panel}
use Rattle.pcl_lexer.specs.Reading.{Reading}
use Rattle.page_env.specs.Settings.{watched}
use Rattle.page_machine.specs.Job.{JobRun, plain_run, watched_run}
use Rattle.page_machine.specs.Laws.{IsSet, IsWatchedAlike, RunsPlainly}
use Rattle.judgement.specs.Verdict.{watched_items}

-- a list with an element has its first one
first_contained : (values : List ℕ) (x : ℕ) → Contains values x → Contains values (slice_index values 0)
first_contained [] x has = absurd (omega (arith, has.1))
first_contained (v ∷ values) x has = (0, omega arith, refl)

-- where some panel is allowed, the first one is
pub first_allowed : (printer : Printer) (panel : Panel) → IsAllowed printer panel → IsAllowed printer (first_panel printer)
first_allowed printer panel allowed = record {
  size = first_contained printer.sizes panel.size allowed.size;
  orientation = first_contained printer.orientations panel.orientation allowed.orientation;
  vmi = first_contained printer.vmis panel.vmi allowed.vmi;
  font = first_contained printer.fonts panel.font allowed.font;
  copies = first_contained printer.copies panel.copies allowed.copies;
  sides = first_contained printer.sides panel.sides allowed.sides;
  tray = first_contained printer.panel_trays panel.tray allowed.tray;
  line_termination = first_contained printer.line_terminations panel.line_termination allowed.line_termination;
}

module _ (anywhere : (printer : Printer) (reading : Reading) → IsWatchedAlike printer reading)
    (plainly : (printer : Printer) (panel : Panel) (reading : Reading) → RunsPlainly printer (watched printer) panel reading) where
  -- the items of the watched run from a panel
  pub same_items : (printer : Printer) (panel : Panel) (reading : Reading) → IsAllowed printer panel →
      (watched_run printer panel reading).items ≡ watched_items printer reading
  same_items printer panel reading allowed =
      ap (λ (r : JobRun). r.items) (anywhere printer reading (first_panel printer) panel (first_allowed printer panel allowed) allowed)

  -- and those of the plain one, where nothing is unset
  pub plain_items : (printer : Printer) (panel : Panel) (reading : Reading) → IsAllowed printer panel →
      IsSet (watched_run printer panel reading).ending → (plain_run printer panel reading).items ≡ watched_items printer reading
  plain_items printer panel reading allowed set =
      ap (λ (r : JobRun). r.items) (plainly printer panel reading set) ∙ same_items printer panel reading allowed
