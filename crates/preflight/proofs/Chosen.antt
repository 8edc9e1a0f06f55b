-- A field of which a valid profile allows two values is one in which two panels that it allows differ.
use Rattle.std.proofs.Common.{◌≡◌, ◌≢◌, ◌==◌, ◌||◌, not, ℕ, Bool, true, false, IsTrue, List, [], ◌∷◌, refl, ap, sym, arith}
use Rattle.std.specs.Prelude.{slice_index}
use Rattle.std.specs.List.{Contains}
use Rattle.std.proofs.lemmas.Bool.{false≢true, and_parts, not-true}
use Rattle.std.proofs.lemmas.Bool.Decides.{nat_tests}
use Rattle.device_profile.specs.declared.field.Field.{Field}
use Rattle.device_profile.specs.declared.field.Field.TheVariants.{Size, Orientation, Vmi, Font, Copies, Sides, Tray, LineTerm}
use Rattle.device_profile.specs.declared.panel.Panel.{Panel}
use Rattle.device_profile.specs.Printer.{Printer, IsAllowed, first_panel, is_valid}
use Rattle.device_profile.specs.Values.{are_choices, has_repeat}
use Rattle.page_env.specs.Settings.{has_choice, watched}
use Rattle.page_env.specs.Untouched.{is_flagged}
use Rattle.judgement.specs.Failing.{with_value, IsChosen}

neither : (a b : Bool) → (a || b) ≡ false → a ≡ false
neither true b h = absurd (false≢true (sym h))
neither false b h = refl

other_number : (m n : ℕ) → (m == n) ≡ false → m ≢ n
other_number m n h is = grind (arith, nat_tests)

-- a list of two values and more, and another value than the first
record HasOther (values : List ℕ) : Type 0 where
  value : ℕ
  has : Contains values value
  differ : value ≢ slice_index values 0

other_value : (field : Field) (values : List ℕ) → IsTrue (are_choices field values) → has_choice values ≡ true → HasOther values
other_value field [] are chosen = absurd (false≢true chosen)
other_value field (x ∷ []) are chosen = absurd (false≢true chosen)
other_value field (x ∷ y ∷ values) are chosen =
    let once : has_repeat (x ∷ y ∷ values) ≡ false =
    not-true (has_repeat (x ∷ y ∷ values)) (and_parts _ (not (has_repeat (x ∷ y ∷ values))) are).1 in
    let other : (y == x) ≡ false = neither (y == x) _ (neither _ _ once) in
    record { value = y; has = (1, omega arith, refl); differ = other_number y x other }

first_of : (field : Field) (values : List ℕ) → IsTrue (are_choices field values) → Contains values (slice_index values 0)
first_of field [] are = absurd (false≢true are)
first_of field (x ∷ values) are = (0, omega arith, refl)

-- the lists of a valid profile
record HasChoices (printer : Printer) : Type 0 where
  sizes : IsTrue (are_choices Size printer.sizes)
  orientations : IsTrue (are_choices Orientation printer.orientations)
  vmis : IsTrue (are_choices Vmi printer.vmis)
  fonts : IsTrue (are_choices Font printer.fonts)
  copies : IsTrue (are_choices Copies printer.copies)
  sides : IsTrue (are_choices Sides printer.sides)
  panel_trays : IsTrue (are_choices Tray printer.panel_trays)
  line_terminations : IsTrue (are_choices LineTerm printer.line_terminations)

choices_of : (printer : Printer) → IsTrue (is_valid printer) → HasChoices printer
choices_of printer valid =
    let faces = and_parts _ _ valid in
    let pages = and_parts _ _ faces.0 in
    let memory = and_parts _ _ pages.0 in
    let depth = and_parts _ _ memory.0 in
    let sides = and_parts _ _ depth.0 in
    let choices = and_parts _ _ sides.0 in
    let c8 = and_parts _ _ choices.0 in
    let c7 = and_parts _ _ c8.0 in
    let c6 = and_parts _ _ c7.0 in
    let c5 = and_parts _ _ c6.0 in
    let c4 = and_parts _ _ c5.0 in
    let c3 = and_parts _ _ c4.0 in
    let c2 = and_parts _ _ c3.0 in
    let c1 = and_parts _ _ c2.0 in
    record {
      sizes = c1.0;
      orientations = c1.1;
      vmis = c2.1;
      fonts = c3.1;
      copies = c4.1;
      sides = c5.1;
      panel_trays = c6.1;
      line_terminations = c7.1;
    }

allowed_first : (printer : Printer) → HasChoices printer → IsAllowed printer (first_panel printer)
allowed_first printer has = record {
  size = first_of Size printer.sizes has.sizes;
  orientation = first_of Orientation printer.orientations has.orientations;
  vmi = first_of Vmi printer.vmis has.vmis;
  font = first_of Font printer.fonts has.fonts;
  copies = first_of Copies printer.copies has.copies;
  sides = first_of Sides printer.sides has.sides;
  tray = first_of Tray printer.panel_trays has.panel_trays;
  line_termination = first_of LineTerm printer.line_terminations has.line_terminations;
}

-- the eight parts of a panel that may be
allow : (printer : Printer) (panel : Panel) → Contains printer.sizes panel.size → Contains printer.orientations panel.orientation →
    Contains printer.vmis panel.vmi → Contains printer.fonts panel.font → Contains printer.copies panel.copies →
    Contains printer.sides panel.sides → Contains printer.panel_trays panel.tray →
    Contains printer.line_terminations panel.line_termination →
    IsAllowed printer panel
allow printer panel a b c d e f g h =
    record { size = a; orientation = b; vmi = c; font = d; copies = e; sides = f; tray = g; line_termination = h }

pub choose : (printer : Printer) (field : Field) → IsTrue (is_valid printer) → is_flagged (watched printer) field ≡ true →
    IsChosen printer field
choose printer field valid flagged = by field flagged
  where
    has : HasChoices printer
    has = choices_of printer valid

    one : IsAllowed printer (first_panel printer)
    one = allowed_first printer has

    by : (field : Field) → is_flagged (watched printer) field ≡ true → IsChosen printer field
    by Size chosen = let v = other_value Size printer.sizes has.sizes chosen in
        record {
          panel = first_panel printer;
          value = v.value;
          one_allowed = one;
          other_allowed =
              allow printer (with_value Size v.value (first_panel printer)) v.has one.orientation one.vmi one.font one.copies one.sides
              one.tray one.line_termination;
          differ = λ e. v.differ (ap (λ (p : Panel). p.size) e);
        }
    by Orientation chosen = let v = other_value Orientation printer.orientations has.orientations chosen in
        record {
          panel = first_panel printer;
          value = v.value;
          one_allowed = one;
          other_allowed =
              allow printer (with_value Orientation v.value (first_panel printer)) one.size v.has one.vmi one.font one.copies one.sides
              one.tray one.line_termination;
          differ = λ e. v.differ (ap (λ (p : Panel). p.orientation) e);
        }
    by Vmi chosen = let v = other_value Vmi printer.vmis has.vmis chosen in
        record {
          panel = first_panel printer;
          value = v.value;
          one_allowed = one;
          other_allowed =
              allow printer (with_value Vmi v.value (first_panel printer)) one.size one.orientation v.has one.font one.copies one.sides
              one.tray one.line_termination;
          differ = λ e. v.differ (ap (λ (p : Panel). p.vmi) e);
        }
    by Font chosen = let v = other_value Font printer.fonts has.fonts chosen in
        record {
          panel = first_panel printer;
          value = v.value;
          one_allowed = one;
          other_allowed =
              allow printer (with_value Font v.value (first_panel printer)) one.size one.orientation one.vmi v.has one.copies one.sides
              one.tray one.line_termination;
          differ = λ e. v.differ (ap (λ (p : Panel). p.font) e);
        }
    by Copies chosen = let v = other_value Copies printer.copies has.copies chosen in
        record {
          panel = first_panel printer;
          value = v.value;
          one_allowed = one;
          other_allowed =
              allow printer (with_value Copies v.value (first_panel printer)) one.size one.orientation one.vmi one.font v.has one.sides
              one.tray one.line_termination;
          differ = λ e. v.differ (ap (λ (p : Panel). p.copies) e);
        }
    by Sides chosen = let v = other_value Sides printer.sides has.sides chosen in
        record {
          panel = first_panel printer;
          value = v.value;
          one_allowed = one;
          other_allowed =
              allow printer (with_value Sides v.value (first_panel printer)) one.size one.orientation one.vmi one.font one.copies v.has
              one.tray one.line_termination;
          differ = λ e. v.differ (ap (λ (p : Panel). p.sides) e);
        }
    by Tray chosen = let v = other_value Tray printer.panel_trays has.panel_trays chosen in
        record {
          panel = first_panel printer;
          value = v.value;
          one_allowed = one;
          other_allowed =
              allow printer (with_value Tray v.value (first_panel printer)) one.size one.orientation one.vmi one.font one.copies one.sides
              v.has one.line_termination;
          differ = λ e. v.differ (ap (λ (p : Panel). p.tray) e);
        }
    by LineTerm chosen = let v = other_value LineTerm printer.line_terminations has.line_terminations chosen in
        record {
          panel = first_panel printer;
          value = v.value;
          one_allowed = one;
          other_allowed =
              allow printer (with_value LineTerm v.value (first_panel printer)) one.size one.orientation one.vmi one.font one.copies
              one.sides one.tray v.has;
          differ = λ e. v.differ (ap (λ (p : Panel). p.line_termination) e);
        }
