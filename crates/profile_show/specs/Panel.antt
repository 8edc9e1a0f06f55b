-- What is shown of the panel.
use Rattle.std.specs.Prelude.{ℕ, nat_lt, length, if◌then◌else◌, List, [], ◌∷◌, ◌++◌, flat_map, decimal, codes}
use Rattle.std.specs.Option.{option_map_or}
use Rattle.device_profile.specs.declared.field.Field.{Field}
use Rattle.device_profile.specs.declared.field.Field.TheVariants.{Size, Orientation, Vmi, Font, Copies, Sides, Tray}
use Rattle.device_profile.specs.declared.field.Field.TheVariants.{LineTerm}
use Rattle.device_profile.specs.declared.font.FontRequest.{FontRequest}
use Rattle.device_profile.specs.Field.{every_field, field_key, field_name}
use Rattle.device_profile.specs.Faces.{Face, face_at}
use Rattle.device_profile.specs.Printer.{Printer, values_of}
use Rattle.profile_show.specs.declared.label.Label.TheVariants.{Unset}
use Rattle.profile_show.specs.Label.{label}
use Rattle.profile_show.specs.Words.{numbered, size_words, orientation_words, vmi_words, sides_name, termination_name}
use Rattle.profile_show.specs.Words.{set_words, cut_words}

-- what selects a font
unfoldable pub request_words : FontRequest → List ℕ
request_words request = set_words request.symbol_set ++ codes ", " ++ cut_words request

-- a face by its id, and what selects it
unfoldable pub font_words : List Face → ℕ → List ℕ
font_words faces id =
    codes "face " ++ decimal id
    ++ option_map_or (λ face. codes ", " ++ request_words face.request) (face_at faces id) []

-- a value of a field
unfoldable pub value_words : List Face → Field → ℕ → List ℕ
value_words faces Size value = size_words value
value_words faces Orientation value = orientation_words value
value_words faces Vmi value = vmi_words value
value_words faces Font value = font_words faces value
value_words faces Copies value = decimal value
value_words faces Sides value = numbered (sides_name value) value
value_words faces Tray value = decimal value
value_words faces LineTerm value = numbered (termination_name value) value

-- another value of a field, on a line of its own
unfoldable pub other_words : List Face → Field → ℕ → List ℕ
other_words faces field value = codes "\n    or " ++ value_words faces field value

-- the values of a field
abbrev pub values_words : List Face → Field → List ℕ → List ℕ
values_words faces field [] = []
values_words faces field (value ∷ more) =
    value_words faces field value ++ flat_map (other_words faces field) more

-- the finding on a job that leaves a field unset
unfoldable pub unset_finding : Field → List ℕ
unset_finding field = codes "12 Unset(" ++ field_name field ++ codes ")"

-- what a list of several values means
unfoldable pub unset_words : Field → List ℕ
unset_words field = label Unset ++ unset_finding field ++ codes "\n"

-- the line of that, where there are several
abbrev pub unset_line : Field → List ℕ → List ℕ
unset_line field values =
    if nat_lt 1 (length values) then unset_words field else []

-- the lines of a field
unfoldable pub field_lines : Printer → Field → List ℕ
field_lines printer field =
    codes "  " ++ field_key field ++ codes ": " ++ values_words printer.faces field (values_of printer field)
    ++ codes "\n"
    ++ unset_line field (values_of printer field)

unfoldable pub panel_lines : Printer → List ℕ
panel_lines printer = codes "panel:\n" ++ flat_map (field_lines printer) every_field
