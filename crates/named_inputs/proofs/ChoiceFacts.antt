-- Lemmas on what is chosen at a panel.
use Rattle.std.proofs.Common.{◌≡◌, ◌+◌, ◌<◌, ◌==◌, ℕ, true, List, ◌∷◌, Result, length, get_or, drop, refl, sym, ◌∙◌, ap, subst, add-one}
use Rattle.std.proofs.Math.Seq.{drop-cons}
use Rattle.std.specs.List.{list_any, Contains}
use Rattle.std.proofs.Common.{eqb-true}
use Rattle.std.proofs.lemmas.Map.Views.{Contains-from_any}
use Rattle.device_profile.specs.declared.field.Field.{Field}
use Rattle.device_profile.specs.declared.field.Field.TheVariants.{Size, Orientation, Vmi, Font, Copies, Sides, Tray, LineTerm}
use Rattle.device_profile.specs.declared.panel.Panel.{Panel}
use Rattle.device_profile.specs.Printer.{Printer, IsAllowed, values_of}
use Rattle.requests.specs.declared.choices.Choice.{Choice}
use Rattle.named_inputs.specs.Choices.{chosen_from, is_choice, with_choice, with_value}

-- one more choice that the panel may have
chosen_with : (printer : Printer) (panel : Panel) (choice : Choice) (choices : List Choice) → is_choice printer choice ≡ true →
    chosen_from printer panel (choice ∷ choices) ≡ chosen_from printer (with_choice panel choice) choices
chosen_with printer panel choice choices is = rw is refl

pub chosen_next : (printer : Printer) (panel next : Panel) (choices : List Choice) (i : ℕ) (d : Choice) (all : Result Panel Choice) →
    i < length choices → is_choice printer (get_or choices i d) ≡ true → next ≡ with_choice panel (get_or choices i d) →
    chosen_from printer panel (drop i choices) ≡ all → chosen_from printer next (drop (i + 1) choices) ≡ all
chosen_next printer panel next choices i d all h is next_is rest =
    let split : drop i choices ≡ get_or choices i d ∷ drop (i + 1) choices = rw (add-one, drop-cons choices i d) refl in
    ap (λ p. chosen_from printer p (drop (i + 1) choices)) next_is
    ∙ sym (chosen_with printer panel (get_or choices i d) (drop (i + 1) choices) is)
    ∙ ap (λ cs. chosen_from printer panel cs) (sym split)
    ∙ rest

contains_value : (value : ℕ) (values : List ℕ) → list_any (λ x. x == value) values ≡ true → Contains values value
contains_value value values h = Contains-from_any {K = ℕ} {eq = λ q x. x == q} (λ q x e. sym (eqb-true x q e)) value values h

-- a panel with an allowed value in a field is allowed
with_value_allowed : (printer : Printer) (panel : Panel) (value : ℕ) (field : Field) → Contains (values_of printer field) value →
    IsAllowed printer panel → IsAllowed printer (with_value panel value field)
with_value_allowed printer panel value Size has allowed =
    record {
      size = has;
      orientation = allowed.orientation;
      vmi = allowed.vmi;
      font = allowed.font;
      copies = allowed.copies;
      sides = allowed.sides;
      tray = allowed.tray;
      line_termination = allowed.line_termination;
    }
with_value_allowed printer panel value Orientation has allowed =
    record {
      size = allowed.size;
      orientation = has;
      vmi = allowed.vmi;
      font = allowed.font;
      copies = allowed.copies;
      sides = allowed.sides;
      tray = allowed.tray;
      line_termination = allowed.line_termination;
    }
with_value_allowed printer panel value Vmi has allowed =
    record {
      size = allowed.size;
      orientation = allowed.orientation;
      vmi = has;
      font = allowed.font;
      copies = allowed.copies;
      sides = allowed.sides;
      tray = allowed.tray;
      line_termination = allowed.line_termination;
    }
with_value_allowed printer panel value Font has allowed =
    record {
      size = allowed.size;
      orientation = allowed.orientation;
      vmi = allowed.vmi;
      font = has;
      copies = allowed.copies;
      sides = allowed.sides;
      tray = allowed.tray;
      line_termination = allowed.line_termination;
    }
with_value_allowed printer panel value Copies has allowed =
    record {
      size = allowed.size;
      orientation = allowed.orientation;
      vmi = allowed.vmi;
      font = allowed.font;
      copies = has;
      sides = allowed.sides;
      tray = allowed.tray;
      line_termination = allowed.line_termination;
    }
with_value_allowed printer panel value Sides has allowed =
    record {
      size = allowed.size;
      orientation = allowed.orientation;
      vmi = allowed.vmi;
      font = allowed.font;
      copies = allowed.copies;
      sides = has;
      tray = allowed.tray;
      line_termination = allowed.line_termination;
    }
with_value_allowed printer panel value Tray has allowed =
    record {
      size = allowed.size;
      orientation = allowed.orientation;
      vmi = allowed.vmi;
      font = allowed.font;
      copies = allowed.copies;
      sides = allowed.sides;
      tray = has;
      line_termination = allowed.line_termination;
    }
with_value_allowed printer panel value LineTerm has allowed =
    record {
      size = allowed.size;
      orientation = allowed.orientation;
      vmi = allowed.vmi;
      font = allowed.font;
      copies = allowed.copies;
      sides = allowed.sides;
      tray = allowed.tray;
      line_termination = has;
    }

pub choice_allowed : (printer : Printer) (panel next : Panel) (choice : Choice) → is_choice printer choice ≡ true →
    next ≡ with_choice panel choice → IsAllowed printer panel → IsAllowed printer next
choice_allowed printer panel next choice is next_is allowed =
    subst (λ p. IsAllowed printer p) (sym next_is)
    (with_value_allowed printer panel choice.value choice.field (contains_value choice.value (values_of printer choice.field) is) allowed)
