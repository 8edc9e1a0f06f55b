-- Values that are chosen at a panel, by the numbers of its fields.
use Rattle.std.specs.Prelude.{ℕ, ◌==◌, nat_le, nat_lt, Bool, ◌&&◌, List, map, if◌then◌else◌}
use Rattle.std.specs.List.{list_all}
use Rattle.device_profile.specs.declared.field.Field.{Field}
use Rattle.device_profile.specs.declared.field.Field.TheVariants.{Size, Orientation, Vmi, Font, Copies, Sides, Tray}
use Rattle.device_profile.specs.declared.field.Field.TheVariants.{LineTerm}
use Rattle.requests.specs.declared.choices.Choice.{Choice}
use Rattle.foreign_calls.specs.declared.rows.PanelValue.{PanelValue}

-- the number of a field: they count from 1 in the order in which texts of profiles have the fields
abbrev pub is_field : PanelValue → Bool
is_field value = nat_lt 0 value.field && nat_le value.field 8

-- the field of a number; of one that is none the last
abbrev pub field_of : ℕ → Field
field_of number =
    if number == 1 then Size
    else (if number == 2 then Orientation
    else (if number == 3 then Vmi
    else (if number == 4 then Font
    else (if number == 5 then Copies
    else (if number == 6 then Sides
    else (if number == 7 then Tray else LineTerm))))))

abbrev pub choice_of : PanelValue → Choice
choice_of value = record { field = field_of value.field; value = value.value }

abbrev pub choices_of : List PanelValue → List Choice
choices_of values = map choice_of values

-- each value is of a field
abbrev pub are_fields : List PanelValue → Bool
are_fields values = list_all is_field values
