-- What a printer's answer tells of its panel.
use Rattle.std.specs.Prelude.{ℕ, pos, ◌*◌, ◌==◌, ◌&&◌, ◌||◌, Bool, false, not, List, [], ◌∷◌, Option, None, Some, find}
use Rattle.std.specs.Prelude.{option_map, unwrap_or, if◌then◌else◌}
use Rattle.std.specs.List.{list_all}
use Rattle.std.specs.Option.{option_and_then, option_map_or}
use Rattle.std.specs.Ordering.{int_eq}
use Rattle.device_profile.specs.declared.field.Field.{Field}
use Rattle.device_profile.specs.declared.field.Field.TheVariants.{Size, Orientation, Vmi, Font, Copies, Sides, Tray}
use Rattle.device_profile.specs.declared.field.Field.TheVariants.{LineTerm}
use Rattle.device_profile.specs.declared.font.SymbolSet.{SymbolSet}
use Rattle.device_profile.specs.Faces.{Face}
use Rattle.device_profile.specs.NamedSet.{set_named, symbols_of}
use Rattle.device_profile.specs.Printer.{Printer, are_sides, has_orientation, has_size, has_tray, values_of}
use Rattle.device_profile.specs.Values.{is_value}
use Rattle.device_profile.specs.Words.{amount_of}
use Rattle.printer_models.specs.declared.face.Typeface.TheVariants.{BaseCourier, Courier}
use Rattle.printer_models.specs.declared.paper.Paper.{Paper}
use Rattle.printer_models.specs.Face.{typeface_value}
use Rattle.printer_models.specs.Paper.{code_of}
use Rattle.pjl_answer.specs.declared.variable.Variable.TheVariants as variables
use Rattle.pjl_answer.specs.declared.values.ToldValues.{ToldValues}
use Rattle.pjl_answer.specs.declared.values.ToldValues.TheVariants.{One, Two}
use Rattle.pjl_answer.specs.Answer.{value_of}
use Rattle.pjl_answer.specs.Config.{device_duplex, has_no_duplex}
use Rattle.pjl_answer.specs.FormLines.{text_height, is_whole_share, vmi_by}
use Rattle.pjl_answer.specs.Values.{binding_of, copies_of, form_lines_of, is_first, is_internal, is_on, kept}
use Rattle.pjl_answer.specs.Values.{line_termination_of, mp_trays_of, orientation_of, paper_of}

-- ---- what the answer says by itself

abbrev pub paper_told : List ℕ → Option Paper
paper_told answer = option_and_then paper_of (value_of answer variables.Paper)

abbrev pub orientation_told : List ℕ → Option ℕ
orientation_told answer = option_and_then orientation_of (value_of answer variables.Orientation)

abbrev pub copies_told : List ℕ → Option ℕ
copies_told answer = option_and_then copies_of (value_of answer variables.Copies)

abbrev pub line_termination_told : List ℕ → Option ℕ
line_termination_told answer = option_and_then line_termination_of (value_of answer variables.LineTermination)

-- one side, or both by their binding, which is along the long edge where it is not told
abbrev pub sides_by : Bool → Option (List ℕ) → Option ℕ
sides_by is_duplex binding = if is_duplex then option_map_or binding_of binding (Some 1) else Some 0

abbrev pub duplex_told : List ℕ → Option Bool
duplex_told answer = option_and_then is_on (value_of answer variables.Duplex)

abbrev pub panel_sides : List ℕ → Option ℕ
panel_sides answer =
    option_and_then (λ is_duplex. sides_by is_duplex (value_of answer variables.Binding)) (duplex_told answer)

-- a device that cannot do otherwise prints on one side
abbrev pub sides_told : List ℕ → Option ℕ
sides_told answer = if has_no_duplex answer then Some 0 else panel_sides answer

-- where paper is fed by hand that is tray 2; else the trays are those by the multipurpose tray, or tray 1
abbrev pub trays_by : Bool → Option (List ℕ) → Option (List ℕ)
trays_by by_hand mp_tray = if by_hand then Some (2 ∷ []) else option_map_or mp_trays_of mp_tray (Some (1 ∷ []))

abbrev pub trays_of : Option (List ℕ) → Option (List ℕ) → Option (List ℕ)
trays_of None mp_tray = option_and_then mp_trays_of mp_tray
trays_of (Some feed) mp_tray = option_and_then (λ by_hand. trays_by by_hand mp_tray) (is_on feed)

abbrev pub trays_told : List ℕ → Option (List ℕ)
trays_told answer = trays_of (value_of answer variables.ManualFeed) (value_of answer variables.MpTray)

-- the height of the page's text
abbrev pub text_height_told : List ℕ → Option ℕ
text_height_told answer =
    option_and_then (λ paper. option_map (text_height paper) (orientation_told answer)) (paper_told answer)

abbrev pub form_lines_told : List ℕ → Option ℕ
form_lines_told answer = option_and_then form_lines_of (value_of answer variables.FormLines)

-- in ten-thousandths of 1/48 inch
abbrev pub vmi_of : Option ℕ → Option ℕ → Option ℕ
vmi_of height lines = kept (is_value Vmi) (option_and_then (λ h. option_map (vmi_by h) lines) height)

abbrev pub vmi_told : List ℕ → Option ℕ
vmi_told answer = vmi_of (text_height_told answer) (form_lines_told answer)

-- whether the VMI is rounded: the lines do not share the height in whole 1/48 inch
abbrev pub is_rounded : Option ℕ → Option ℕ → Bool
is_rounded height lines = option_map_or (λ h. option_map_or (λ n. not (is_whole_share h n)) lines false) height false

abbrev pub is_vmi_rounded : List ℕ → Bool
is_vmi_rounded answer = is_rounded (text_height_told answer) (form_lines_told answer)

-- ---- what the profile has of it

-- one of the two numbers of Courier, in ten-thousandths
abbrev pub is_courier_number : ℕ → Bool
is_courier_number typeface = (typeface == typeface_value BaseCourier) || (typeface == typeface_value Courier)

-- Courier in this symbol set, at this pitch and 120 points through it, upright and of medium weight
abbrev pub is_courier : SymbolSet → ℕ → Face → Bool
is_courier set pitch face =
    (face.request.symbol_set.number == set.number) && (face.request.symbol_set.letter == set.letter)
    && (face.request.pitch == pitch) && (face.request.height * face.request.pitch == 12_000_000_000)
    && (face.request.style == 0) && int_eq face.request.weight (pos 0)
    && is_courier_number face.request.typeface

-- the id of the first such face
abbrev pub courier_among : List Face → SymbolSet → ℕ → Option ℕ
courier_among faces set pitch = option_map (λ face. face.id) (find (is_courier set pitch) faces)

-- whether the panel's font is the first of the printer's own
abbrev pub is_own_source : List ℕ → Bool
is_own_source answer = option_map_or is_internal (value_of answer variables.FontSource) false

abbrev pub is_first_number : List ℕ → Bool
is_first_number answer = option_map_or is_first (value_of answer variables.FontNumber) false

abbrev pub is_own_font : List ℕ → Bool
is_own_font answer = is_own_source answer && is_first_number answer

abbrev pub set_told : List ℕ → Option SymbolSet
set_told answer = option_map symbols_of (option_and_then set_named (value_of answer variables.SymbolSet))

abbrev pub pitch_told : List ℕ → Option ℕ
pitch_told answer = option_and_then amount_of (value_of answer variables.Pitch)

abbrev pub font_told : List Face → List ℕ → Option ℕ
font_told faces answer =
    if is_own_font answer
    then option_and_then (λ set. option_and_then (courier_among faces set) (pitch_told answer)) (set_told answer)
    else None

-- whether the printer can print on both sides: as the answer tells it, or else as the profile has it
abbrev pub duplex_after : Printer → List ℕ → Bool
duplex_after printer answer = unwrap_or (device_duplex answer) printer.has_duplex

-- trays that the printer has
abbrev pub held_trays : Printer → Option (List ℕ) → Option (List ℕ)
held_trays printer trays = option_and_then (λ all. if list_all (has_tray printer) all then Some all else None) trays

abbrev pub one : Option ℕ → Option (List ℕ)
one value = option_map (λ n. n ∷ []) value

-- THE TABLE OF FIELDS: the values that an answer tells for a field, where the profile's printer can have them
abbrev pub told : Printer → List ℕ → Field → Option (List ℕ)
told printer answer Size = one (kept (has_size printer.geometries) (option_map code_of (paper_told answer)))
told printer answer Orientation = one (kept (has_orientation printer.geometries) (orientation_told answer))
told printer answer Vmi = one (vmi_told answer)
told printer answer Font = one (font_told printer.faces answer)
told printer answer Copies = one (copies_told answer)
told printer answer Sides = one (kept (are_sides (duplex_after printer answer)) (sides_told answer))
told printer answer Tray = held_trays printer (trays_told answer)
told printer answer LineTerm = one (line_termination_told answer)

-- the values that the panel may have by an answer, or those of the profile where it tells none
abbrev pub values_after : Printer → List ℕ → Field → List ℕ
values_after printer answer field = unwrap_or (told printer answer field) (values_of printer field)

-- the printer with these values, and with duplex where the device is told; all else is as the profile has it
abbrev pub with_told : Printer → List ℕ → Printer
with_told printer answer = record printer {
  sizes = values_after printer answer Size;
  orientations = values_after printer answer Orientation;
  vmis = values_after printer answer Vmi;
  fonts = values_after printer answer Font;
  copies = values_after printer answer Copies;
  sides = values_after printer answer Sides;
  panel_trays = values_after printer answer Tray;
  line_terminations = values_after printer answer LineTerm;
  has_duplex = duplex_after printer answer;
}

-- one or two values, as a list
abbrev pub values_in : ToldValues → List ℕ
values_in (One value) = value ∷ []
values_in (Two first second) = first ∷ second ∷ []
