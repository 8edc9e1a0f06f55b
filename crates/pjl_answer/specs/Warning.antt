-- What a user is warned of in a printer's answer.
use Rattle.std.specs.Prelude.{ℕ, ◌/◌, ◌%◌, ◌+◌, ◌==◌, nat_le, nat_lt, not, ◌&&◌, ◌||◌, Bool, false, List, [], ◌∷◌, ◌++◌}
use Rattle.std.specs.Prelude.{length, take, Option, None, Some, is_some, find, codes, decimal, flat_map, option_map}
use Rattle.std.specs.Prelude.{if◌then◌else◌}
use Rattle.std.specs.List.{filter_map}
use Rattle.std.specs.Option.{option_and_then, option_map_or, option_or}
use Rattle.std.specs.Str.{bytes_eq}
use Rattle.device_profile.specs.declared.field.Field.{Field}
use Rattle.device_profile.specs.declared.field.Field.TheVariants.{Size, Orientation, Vmi, Font, Copies, Sides, Tray}
use Rattle.device_profile.specs.declared.field.Field.TheVariants.{LineTerm}
use Rattle.device_profile.specs.Field.{every_field}
use Rattle.device_profile.specs.Printer.{Printer}
use Rattle.pjl_answer.specs.declared.variable.Variable.{Variable}
use Rattle.pjl_answer.specs.declared.variable.Variable.TheVariants as variables
use Rattle.pjl_answer.specs.declared.warning.PjlNote.{PjlNote}
use Rattle.pjl_answer.specs.declared.warning.PjlNote.TheVariants as pjl_notes
use Rattle.pjl_answer.specs.declared.warning.Warning.{Warning}
use Rattle.pjl_answer.specs.Answer.{entry_of, is_given, value_of}
use Rattle.pjl_answer.specs.Told.{is_vmi_rounded, told}
use Rattle.pjl_answer.specs.Values.{is_understood}
use Rattle.shown_bytes.specs.Shown.{shown}
use Rattle.pjl_answer.specs.Variable.{every_variable, word_of}

-- ---- of fields that an answer does not tell

-- the variables that tell of a field
abbrev pub variables_of : Field → List Variable
variables_of Size = variables.Paper ∷ []
variables_of Orientation = variables.Orientation ∷ []
variables_of Vmi = variables.FormLines ∷ []
variables_of Font = variables.FontSource ∷ variables.FontNumber ∷ variables.SymbolSet ∷ variables.Pitch ∷ []
variables_of Copies = variables.Copies ∷ []
variables_of Sides = variables.Duplex ∷ variables.Binding ∷ []
variables_of Tray = variables.ManualFeed ∷ variables.MpTray ∷ []
variables_of LineTerm = variables.LineTermination ∷ []

-- a variable is given, and its value is not known
abbrev pub is_wrong : List ℕ → Variable → Bool
is_wrong answer variable = option_map_or (λ value. not (is_understood variable value)) (value_of answer variable) false

abbrev pub warning : Variable → PjlNote → Warning
warning variable note = record { variable = variable; note = note }

-- of a field's variables the first whose value is not known, else the first that is given
abbrev pub blame : List ℕ → Field → Option Warning
blame answer field =
    option_or
    (option_map (λ variable. warning variable pjl_notes.NotUnderstood) (find (is_wrong answer) (variables_of field)))
    (option_map (λ variable. warning variable pjl_notes.NotHeld) (find (is_given answer) (variables_of field)))

-- a field that is given, and not told
abbrev pub field_warning : Printer → List ℕ → Field → Option Warning
field_warning printer answer field = if is_some (told printer answer field) then None else blame answer field

-- ---- of values

abbrev pub note_if : PjlNote → Bool → Option PjlNote
note_if note holds = if holds then Some note else None

-- a switch that is on, or neither on nor off
abbrev pub switch_note : PjlNote → List ℕ → Option PjlNote
switch_note note value =
    if bytes_eq value (codes "YES") then Some note
    else note_if pjl_notes.UnknownSwitch (not (bytes_eq value (codes "NO")))

-- THE TABLE OF VALUES that a user is warned of
abbrev pub note_of : List ℕ → Variable → List ℕ → Option PjlNote
note_of answer variables.FormLines value = note_if pjl_notes.MeasureLines (is_vmi_rounded answer)
note_of answer variables.WideA4 value = switch_note pjl_notes.WideA4 value
note_of answer variables.EdgeToEdge value = switch_note pjl_notes.EdgeToEdge value
note_of answer variables.OverrideA4WithLetter value = switch_note pjl_notes.A4WithLetter value
note_of answer variables.AppendCrToLf value = switch_note pjl_notes.AppendsReturn value
note_of answer variables.PanelLock value =
    note_if pjl_notes.FreePanel (bytes_eq value (codes "OFF") || bytes_eq value (codes "NONE"))
note_of answer variables.Personality value =
    note_if pjl_notes.OtherLanguage (not (bytes_eq value (codes "AUTO") || bytes_eq value (codes "PCL")))
note_of answer variables.Memory value = Some pjl_notes.WholeMemory
note_of answer variables.Paper value = None
note_of answer variables.Orientation value = None
note_of answer variables.FontSource value = None
note_of answer variables.FontNumber value = None
note_of answer variables.SymbolSet value = None
note_of answer variables.Pitch value = None
note_of answer variables.Copies value = None
note_of answer variables.Duplex value = None
note_of answer variables.Binding value = None
note_of answer variables.ManualFeed value = None
note_of answer variables.MpTray value = None
note_of answer variables.LineTermination value = None

abbrev pub value_warning : List ℕ → Variable → Option Warning
value_warning answer variable =
    option_map (warning variable) (option_and_then (note_of answer variable) (value_of answer variable))

-- the warnings of an answer, for a profile of this printer: of the fields, and then of the values
abbrev pub found_warnings : Printer → List ℕ → List Warning
found_warnings printer answer =
    filter_map (field_warning printer answer) every_field ++ filter_map (value_warning answer) every_variable

-- ---- in the order of the lines

-- the number of the line that gives the variable, 0 where none does
abbrev pub line_of : List ℕ → Warning → ℕ
line_of answer it = option_map_or (λ entry. entry.0) (entry_of answer it.variable) 0

-- the line of the first stands before that of the second
abbrev pub is_before : List ℕ → Warning → Warning → Bool
is_before answer a b = nat_lt (line_of answer a) (line_of answer b)

-- others with one more, which stands behind those of lines before its own
abbrev pub placed : List ℕ → Warning → List Warning → List Warning
placed answer it [] = it ∷ []
placed answer it (other ∷ more) =
    if is_before answer other it then other ∷ placed answer it more else it ∷ other ∷ more

-- in the order of their lines; those of one line stay as they stand
abbrev pub by_line : List ℕ → List Warning → List Warning
by_line answer [] = []
by_line answer (it ∷ more) = placed answer it (by_line answer more)

-- all warnings of an answer, for a profile of this printer
abbrev pub warnings : Printer → List ℕ → List Warning
warnings printer answer = by_line answer (found_warnings printer answer)

-- ---- in words

abbrev pub note_words : PjlNote → List ℕ
note_words pjl_notes.NotUnderstood = codes "not understood; the profile keeps its list"
note_words pjl_notes.NotHeld =
    codes "the profile has nothing that goes with it, or the answer lacks a line that it needs; it keeps its list"
note_words pjl_notes.MeasureLines = codes "the line spacing is reckoned from it; measure ten lines"
note_words pjl_notes.WideA4 = codes "the A4 pages have to be those of 80 columns"
note_words pjl_notes.EdgeToEdge = codes "the printable area is larger than the pages say"
note_words pjl_notes.A4WithLetter = codes "A4 may come out on letter paper, and letter on A4"
note_words pjl_notes.AppendsReturn = codes "CR is added to LF; no profile can say that"
note_words pjl_notes.UnknownSwitch = codes "not understood; see at the printer whether it is on"
note_words pjl_notes.FreePanel = codes "anyone can change the panel; each list promises that nobody does"
note_words pjl_notes.OtherLanguage = codes "the printer may not read a job as PCL"
note_words pjl_notes.WholeMemory = codes "bytes in all; what macros may take is not told"

-- of a value at most so many bytes are shown
abbrev pub most_shown : ℕ
most_shown = 16

-- what is shown of a value, and two dots where it is longer
abbrev pub shown_value : List ℕ → List ℕ
shown_value value =
    if nat_lt most_shown (length value) then shown (take most_shown value) ++ codes ".." else shown value

-- the line of the answer and the variable
unfoldable pub variable_at : Variable → ℕ → List ℕ
variable_at variable line = codes "line " ++ decimal line ++ codes ": " ++ word_of variable

-- and its value and the note
unfoldable pub warning_at : Warning → ℕ × List ℕ → List ℕ
warning_at it entry =
    variable_at it.variable entry.0 ++ codes "=" ++ shown_value entry.1 ++ codes ": " ++ note_words it.note

abbrev pub warning_words : List ℕ → Warning → List ℕ
warning_words answer it = option_map_or (warning_at it) (entry_of answer it.variable) []

-- a line behind what it begins with
abbrev pub warning_line : List ℕ → List ℕ → Warning → List ℕ
warning_line start answer it = start ++ warning_words answer it ++ codes "\n"

abbrev pub warning_lines : List ℕ → List ℕ → List Warning → List ℕ
warning_lines start answer all = flat_map (warning_line start answer) all
