-- The values that the panel of a printer may have.
use Rattle.std.specs.Prelude.{ℕ, Bool, true, false, List, [], ◌∷◌, map, take, if◌then◌else◌}
use Rattle.device_profile.specs.declared.field.Field.{Field}
use Rattle.device_profile.specs.declared.field.Field.TheVariants.{Size, Orientation, Vmi, Font, Copies, Sides, Tray}
use Rattle.device_profile.specs.declared.field.Field.TheVariants.{LineTerm}
use Rattle.printer_models.specs.declared.model.Model.{Model}
use Rattle.printer_models.specs.declared.panel_lists.FixedFields.{FixedFields}
use Rattle.printer_models.specs.declared.panel_lists.PanelLists.{PanelLists}
use Rattle.printer_models.specs.declared.panel_lists.PanelLists.TheVariants.{Fixed, Free, FreeBut}
use Rattle.printer_models.specs.declared.paper.Paper.{Paper}
use Rattle.printer_models.specs.Model.{Facts, facts_of}
use Rattle.printer_models.specs.Paper.{code_of}

-- What people may choose at the panel, the usual value first: one of the papers, portrait or landscape, lines of 8/48
-- or 6/48 inch, one of the first two faces, one copy, and one side, or both where the printer has duplex.
abbrev pub free_values : Facts → List Paper → Field → List ℕ
free_values known papers Size = map code_of papers
free_values known papers Orientation = 0 ∷ 1 ∷ []
free_values known papers Vmi = 80_000 ∷ 60_000 ∷ []
free_values known papers Font = 1 ∷ 2 ∷ []
free_values known papers Copies = 1 ∷ []
free_values known papers Sides = if known.has_duplex then 0 ∷ 1 ∷ 2 ∷ [] else 0 ∷ []
free_values known papers Tray = known.panel_trays
free_values known papers LineTerm = 0 ∷ []

-- whether a field is one of those that nobody changes; line termination has one value anyway
abbrev pub is_fixed_field : FixedFields → Field → Bool
is_fixed_field fixed Size = fixed.size
is_fixed_field fixed Orientation = fixed.orientation
is_fixed_field fixed Vmi = fixed.vmi
is_fixed_field fixed Font = fixed.font
is_fixed_field fixed Copies = fixed.copies
is_fixed_field fixed Sides = fixed.sides
is_fixed_field fixed Tray = fixed.tray
is_fixed_field fixed LineTerm = false

-- whether nobody changes a field
abbrev pub is_fixed : PanelLists → Field → Bool
is_fixed Fixed field = true
is_fixed Free field = false
is_fixed (FreeBut fixed) field = is_fixed_field fixed field

-- in a field that nobody changes, the usual value alone
abbrev pub allowed_in : Bool → List ℕ → List ℕ
allowed_in fixed values = if fixed then take 1 values else values

abbrev pub panel_values : Model → List Paper → PanelLists → Field → List ℕ
panel_values model papers lists field = allowed_in (is_fixed lists field) (free_values (facts_of model) papers field)
