-- What the values of variables mean.
use Rattle.std.specs.Prelude.{ℕ, ◌==◌, ◌||◌, Bool, true, false, List, [], ◌∷◌, Option, None, Some, is_some, find, codes}
use Rattle.std.specs.Prelude.{if◌then◌else◌}
use Rattle.std.specs.Option.{option_and_then, option_map_or}
use Rattle.std.specs.Str.{bytes_eq}
use Rattle.device_profile.specs.declared.field.Field.TheVariants.{Copies as CopiesField, LineTerm}
use Rattle.device_profile.specs.NamedSet.{set_named}
use Rattle.device_profile.specs.Values.{is_between, is_value}
use Rattle.device_profile.specs.Words.{amount_of, number_of}
use Rattle.printer_models.specs.declared.paper.Paper.{Paper}
use Rattle.printer_models.specs.declared.paper.Paper.TheVariants as papers
use Rattle.printer_models.specs.Paper.{every_paper}
use Rattle.pjl_answer.specs.declared.variable.Variable.{Variable}
use Rattle.pjl_answer.specs.declared.variable.Variable.TheVariants as variables

-- a number, where it passes a test
abbrev pub kept : (ℕ → Bool) → Option ℕ → Option ℕ
kept passes number = option_and_then (λ n. if passes n then Some n else None) number

-- THE TABLE OF PAPERS, by their names in PJL
abbrev pub paper_word : Paper → List ℕ
paper_word papers.Executive = codes "EXECUTIVE"
paper_word papers.Letter = codes "LETTER"
paper_word papers.Legal = codes "LEGAL"
paper_word papers.Ledger = codes "LEDGER"
paper_word papers.A6 = codes "A6"
paper_word papers.A5 = codes "A5"
paper_word papers.A4 = codes "A4"
paper_word papers.A3 = codes "A3"
paper_word papers.JisB5 = codes "JISB5"
paper_word papers.JisB4 = codes "JISB4"
paper_word papers.Monarch = codes "MONARCH"
paper_word papers.Com10 = codes "COM10"
paper_word papers.Dl = codes "DL"
paper_word papers.C5 = codes "C5"
paper_word papers.B5 = codes "B5"

unfoldable pub paper_of : List ℕ → Option Paper
paper_of value = find (λ paper. bytes_eq (paper_word paper) value) every_paper

-- as `ESC &l#O` numbers them
abbrev pub orientation_of : List ℕ → Option ℕ
orientation_of value =
    if bytes_eq value (codes "PORTRAIT") then Some 0 else (if bytes_eq value (codes "LANDSCAPE") then Some 1 else None)

abbrev pub copies_of : List ℕ → Option ℕ
copies_of value = kept (is_value CopiesField) (number_of value)

-- lines on a page
abbrev pub form_lines_of : List ℕ → Option ℕ
form_lines_of value = kept (is_between 5 128) (number_of value)

-- as `ESC &k#G` numbers it
abbrev pub line_termination_of : List ℕ → Option ℕ
line_termination_of value = kept (is_value LineTerm) (number_of value)

-- ON or OFF
abbrev pub is_on : List ℕ → Option Bool
is_on value =
    if bytes_eq value (codes "ON") then Some true else (if bytes_eq value (codes "OFF") then Some false else None)

-- the sides of duplex by its binding, as `ESC &l#S` numbers them
abbrev pub binding_of : List ℕ → Option ℕ
binding_of value =
    if bytes_eq value (codes "LONGEDGE") then Some 1 else (if bytes_eq value (codes "SHORTEDGE") then Some 2 else None)

-- The trays that paper may come from, by when the multipurpose tray is used:
-- first, like a cassette, or where paper is fed by hand.
abbrev pub mp_trays_of : List ℕ → Option (List ℕ)
mp_trays_of value =
    if bytes_eq value (codes "FIRST") then Some (1 ∷ 4 ∷ [])
    else (if bytes_eq value (codes "CASSETTE") || bytes_eq value (codes "MANUAL") then Some (1 ∷ []) else None)

-- the printer's own faces, and the first of them
abbrev pub is_internal : List ℕ → Bool
is_internal value = bytes_eq value (codes "I")

abbrev pub is_first : List ℕ → Bool
is_first value = option_map_or (λ n. n == 0) (number_of value) false

-- whether a value of a variable is one that is known; one that is told of in a warning alone may be any
abbrev pub is_understood : Variable → List ℕ → Bool
is_understood variables.Paper value = is_some (paper_of value)
is_understood variables.Orientation value = is_some (orientation_of value)
is_understood variables.FormLines value = is_some (form_lines_of value)
is_understood variables.FontSource value = is_internal value
is_understood variables.FontNumber value = is_first value
is_understood variables.SymbolSet value = is_some (set_named value)
is_understood variables.Pitch value = is_some (amount_of value)
is_understood variables.Copies value = is_some (copies_of value)
is_understood variables.Duplex value = is_some (is_on value)
is_understood variables.Binding value = is_some (binding_of value)
is_understood variables.ManualFeed value = is_some (is_on value)
is_understood variables.MpTray value = is_some (mp_trays_of value)
is_understood variables.LineTermination value = is_some (line_termination_of value)
is_understood variables.AppendCrToLf value = true
is_understood variables.WideA4 value = true
is_understood variables.EdgeToEdge value = true
is_understood variables.OverrideA4WithLetter value = true
is_understood variables.PanelLock value = true
is_understood variables.Personality value = true
is_understood variables.Memory value = true
