-- The values that the panel may have in each field.
use Rattle.std.specs.Prelude.{ℕ, List, []}
use Rattle.device_profile.specs.declared.field.Field.{Field}
use Rattle.device_profile.specs.declared.field.Field.TheVariants.{Size, Orientation, Vmi, Font, Copies, Sides, Tray}
use Rattle.device_profile.specs.declared.field.Field.TheVariants.{LineTerm}

-- a list of values for each field
pub record Choices : Type 0 where
  pub sizes : List ℕ
  pub orientations : List ℕ
  pub vmis : List ℕ
  pub fonts : List ℕ
  pub copies : List ℕ
  pub sides : List ℕ
  pub panel_trays : List ℕ
  pub line_terminations : List ℕ

-- no field has values
abbrev pub no_choices : Choices
no_choices = record {
  sizes = [];
  orientations = [];
  vmis = [];
  fonts = [];
  copies = [];
  sides = [];
  panel_trays = [];
  line_terminations = [];
}

-- the values of a field
abbrev pub values_in : Choices → Field → List ℕ
values_in choices Size = choices.sizes
values_in choices Orientation = choices.orientations
values_in choices Vmi = choices.vmis
values_in choices Font = choices.fonts
values_in choices Copies = choices.copies
values_in choices Sides = choices.sides
values_in choices Tray = choices.panel_trays
values_in choices LineTerm = choices.line_terminations

-- these values for a field, and the others as they are
abbrev pub with_values : Choices → Field → List ℕ → Choices
with_values choices Size values = record choices { sizes = values }
with_values choices Orientation values = record choices { orientations = values }
with_values choices Vmi values = record choices { vmis = values }
with_values choices Font values = record choices { fonts = values }
with_values choices Copies values = record choices { copies = values }
with_values choices Sides values = record choices { sides = values }
with_values choices Tray values = record choices { panel_trays = values }
with_values choices LineTerm values = record choices { line_terminations = values }
