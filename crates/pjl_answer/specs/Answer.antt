-- The variables and their values in a printer's answer.
use Rattle.std.specs.Prelude.{ℕ, ◌+◌, ◌-◌, ◌==◌, nat_lt, nat_le, nat_eq, not, ◌&&◌, ◌||◌, Bool, List, [], ◌∷◌, length}
use Rattle.std.specs.Prelude.{take, drop, get_or, Option, None, Some, is_some, option_map, codes, if◌then◌else◌}
use Rattle.std.specs.Char.{is_ascii_whitespace}
use Rattle.std.specs.List.{before_first, after_first, list_all, list_any, position_or_len, prefix_len, slice_split}
use Rattle.std.specs.List.{starts_with, suffix_len}
use Rattle.std.specs.Option.{option_or}
use Rattle.std.specs.Str.{bytes_eq}
use Rattle.std.specs.Str.Lines.{lines}
use Rattle.pjl_answer.specs.declared.variable.Variable.{Variable}
use Rattle.pjl_answer.specs.Variable.{word_of, every_variable}

-- a text without the white space at its start and at its end
abbrev pub trimmed_start : List ℕ → List ℕ
trimmed_start text = drop (prefix_len is_ascii_whitespace text) text

unfoldable pub trimmed : List ℕ → List ℕ
trimmed text =
    take (length (trimmed_start text) - suffix_len is_ascii_whitespace (trimmed_start text)) (trimmed_start text)

-- what stands before the first such byte, or all where there is none, and what stands behind it
abbrev pub before_byte : ℕ → List ℕ → List ℕ
before_byte byte text = before_first (λ b. b == byte) text

abbrev pub after_byte : ℕ → List ℕ → List ℕ
after_byte byte text = after_first (λ b. b == byte) text

abbrev pub has_byte : ℕ → List ℕ → Bool
has_byte byte text = nat_lt (position_or_len (λ b. b == byte) text) (length text)

-- whether `LPARM`, a colon and `PCL` stand before a name
abbrev pub is_of_pcl : List ℕ → Bool
is_of_pcl name =
    bytes_eq (trimmed (before_byte 58 name)) (codes "LPARM")
    && starts_with nat_eq (trimmed (after_byte 58 name)) (codes "PCL ")

-- the name without them
unfoldable pub name_of : List ℕ → List ℕ
name_of name = if is_of_pcl name then trimmed (drop 4 (trimmed (after_byte 58 name))) else trimmed name

-- a value without the quotes that it may stand in
abbrev pub unquoted : List ℕ → List ℕ
unquoted text = if get_or text 0 0 == 34 then before_byte 34 (drop 1 text) else text

-- the value at the front of what stands behind `=`; a bracket begins what kind of a value it is
unfoldable pub value_at : List ℕ → List ℕ
value_at text = unquoted (trimmed (before_byte 91 text))

-- whether a line begins with a tab or a space: then it lists a value that a variable may have
abbrev pub is_indented : List ℕ → Bool
is_indented line = get_or line 0 0 == 9 || get_or line 0 0 == 32

-- whether a line gives this variable: its name and `=` stand at the front
abbrev pub is_line_of : Variable → List ℕ → Bool
is_line_of variable line =
    not (is_indented line) && has_byte 61 line && bytes_eq (name_of (before_byte 61 line)) (word_of variable)

-- the value that a line gives a variable
unfoldable pub value_in : Variable → List ℕ → Option (List ℕ)
value_in variable line = if is_line_of variable line then Some (value_at (after_byte 61 line)) else None

-- of the parts of a line the first that gives one; a form feed ends a part
abbrev pub value_in_parts : Variable → List (List ℕ) → Option (List ℕ)
value_in_parts variable [] = None
value_in_parts variable (part ∷ parts) = option_or (value_in variable part) (value_in_parts variable parts)

unfoldable pub value_in_line : Variable → List ℕ → Option (List ℕ)
value_in_line variable line = value_in_parts variable (slice_split (λ b. b == 12) line)

-- The first line that gives a variable, and the value: of these lines, of which the first has this number.
abbrev pub entry_from : Variable → ℕ → List (List ℕ) → Option (ℕ × List ℕ)
entry_from variable number [] = None
entry_from variable number (line ∷ more) =
    option_or (option_map (λ value. (number, value)) (value_in_line variable line))
    (entry_from variable (number + 1) more)

unfoldable pub entry_of : List ℕ → Variable → Option (ℕ × List ℕ)
entry_of answer variable = entry_from variable 1 (lines answer)

-- the value of a variable
abbrev pub value_of : List ℕ → Variable → Option (List ℕ)
value_of answer variable = option_map (λ entry. entry.1) (entry_of answer variable)

-- an answer gives some variable that is read
abbrev pub is_given : List ℕ → Variable → Bool
is_given answer variable = is_some (entry_of answer variable)

abbrev pub is_answer : List ℕ → Bool
is_answer answer = list_any (is_given answer) every_variable

-- a byte of text: it is printable, or white space
abbrev pub is_text : ℕ → Bool
is_text byte = nat_le 32 byte && nat_le byte 126 || is_ascii_whitespace byte

-- the number of the first line with a byte that is none, or 1
abbrev pub odd_line_from : ℕ → List (List ℕ) → ℕ
odd_line_from number [] = 1
odd_line_from number (line ∷ more) = if list_all is_text line then odd_line_from (number + 1) more else number

abbrev pub odd_line : List ℕ → ℕ
odd_line answer = odd_line_from 1 (lines answer)
