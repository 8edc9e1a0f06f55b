-- Which line of the job language a refused one is, by its words.
use Rattle.std.specs.Prelude.{ℕ, ◌+◌, ◌-◌, ◌^◌, ◌==◌, ◌&&◌, nat_le, min, List, [], map, take, get_or, length}
use Rattle.std.specs.Prelude.{Bool, true, false, Option, None, Some, if◌then◌else◌}
use Rattle.std.specs.List.{position}
use Rattle.std.specs.Str.{bytes_eq}
use Rattle.pcl_items.specs.Frames.Mnemonics.{capital}
use Rattle.pcl_items.specs.PjlLines.Text.{is_blank}
use Rattle.survey.specs.declared.named_line.NamedLine.{NamedLine}
use Rattle.survey.specs.declared.named_line.TheConstants.{LINES}

-- the text of this number, or nothing
abbrev pub text_at : List (List ℕ) → ℕ → List ℕ
text_at texts number = get_or texts number []

-- the words of a line that is named
abbrev pub line_at : ℕ → List ℕ
line_at number = text_at (map (λ line. line.now) LINES) number

-- no byte was read, and no line is named
abbrev pub no_line : NamedLine
no_line = record { row = 0; len = 0; named = 255; is_over = false }

-- all words of the row were read
abbrev pub is_whole : NamedLine → Bool
is_whole line = length (line_at line.row) == line.len

-- the line that was read, whatever stands behind it
abbrev pub number_of : NamedLine → ℕ
number_of line = if is_whole line then line.row else line.named

-- ---- one more byte

abbrev pub front_of : ℕ → List ℕ → List ℕ
front_of len text = if nat_le (length text) len then text else take len text

-- a text begins with so many bytes of what was read, and then has this byte
abbrev pub begins_so : (text read : List ℕ) → (len b : ℕ) → Bool
begins_so text read len b = bytes_eq (front_of len text) (front_of len read) && (get_or text len 0 == b)

-- the first line that begins with what was read and this byte
abbrev pub row_on : NamedLine → ℕ → Option ℕ
row_on line b = position (λ text. begins_so text.now (line_at line.row) line.len b) LINES

abbrev pub goes_to : ℕ → NamedLine → NamedLine
goes_to row line = record line { row = row; len = min (line.len + 1) (2 ^ 8 - 1) }

-- what stands behind is of none of the lines
abbrev pub over : NamedLine → NamedLine
over line = record line { len = 0; is_over = true }

abbrev pub with_name : NamedLine → NamedLine
with_name line = record line { named = number_of line }

-- a blank, which is passed over where no line has one there
abbrev pub at_blank : Option ℕ → NamedLine → NamedLine
at_blank (Some row) line = goes_to row (with_name line)
at_blank None line = if is_whole line then over (with_name line) else line

abbrev pub at_solid : Option ℕ → NamedLine → NamedLine
at_solid (Some row) line = goes_to row line
at_solid None line = over line

-- words stand in either case
abbrev pub line_on : NamedLine → ℕ → NamedLine
line_on line b =
    if line.is_over then line
    else if is_blank b then at_blank (row_on line 32) line
    else at_solid (row_on line (capital b)) line
