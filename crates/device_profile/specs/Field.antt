-- The fields of a printer's control panel.
use Rattle.std.specs.Prelude.{ℕ, List, [], ◌∷◌, codes, Bool, true, false}
use Rattle.device_profile.specs.declared.field.Field.{Field}
use Rattle.device_profile.specs.declared.field.Field.TheVariants.{Size, Orientation, Vmi, Font, Copies, Sides, Tray}
use Rattle.device_profile.specs.declared.field.Field.TheVariants.{LineTerm}

-- all fields, in the order of their keys
abbrev pub every_field : List Field
every_field = Size ∷ Orientation ∷ Vmi ∷ Font ∷ Copies ∷ Sides ∷ Tray ∷ LineTerm ∷ []

-- the key of a field in a profile's text
abbrev pub field_key : Field → List ℕ
field_key Size = codes "size"
field_key Orientation = codes "orientation"
field_key Vmi = codes "vmi"
field_key Font = codes "font"
field_key Copies = codes "copies"
field_key Sides = codes "sides"
field_key Tray = codes "tray"
field_key LineTerm = codes "lineterm"

-- whether a value of a field may have decimals, and counts ten-thousandths; others are whole
abbrev pub has_decimals : Field → Bool
has_decimals Vmi = true
has_decimals _ = false

-- the name of a field in a verdict
abbrev pub field_name : Field → List ℕ
field_name Size = codes "Size"
field_name Orientation = codes "Orientation"
field_name Vmi = codes "Vmi"
field_name Font = codes "Font"
field_name Copies = codes "Copies"
field_name Sides = codes "Sides"
field_name Tray = codes "Tray"
field_name LineTerm = codes "LineTerm"
