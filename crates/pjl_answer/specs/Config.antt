-- What an answer to `@PJL INFO CONFIG` tells of the device, by lines that are words alone.
use Rattle.std.specs.Prelude.{ℕ, not, ◌&&◌, ◌||◌, Bool, true, false, List, [], ◌∷◌, Option, None, Some, codes}
use Rattle.std.specs.Prelude.{if◌then◌else◌}
use Rattle.std.specs.Option.{option_map_or}
use Rattle.std.specs.Str.{bytes_eq}
use Rattle.std.specs.Str.Lines.{lines}
use Rattle.pjl_answer.specs.declared.variable.Variable.TheVariants as variables
use Rattle.pjl_answer.specs.Answer.{before_byte, is_given, is_indented, trimmed}

-- a line has these words alone; a bracket begins what may stand there, and an indented line has a value
abbrev pub has_words : List ℕ → List ℕ → Bool
has_words words line = not (is_indented line) && bytes_eq (trimmed (before_byte 91 line)) words

-- one of these lines has them
abbrev pub is_among_lines : List ℕ → List (List ℕ) → Bool
is_among_lines words [] = false
is_among_lines words (line ∷ more) = if has_words words line then true else is_among_lines words more

abbrev pub has_line : List ℕ → List ℕ → Bool
has_line answer words = is_among_lines words (lines answer)

-- the answer tells the device: it begins so, be it behind that on the variables
abbrev pub is_config : List ℕ → Bool
is_config answer = has_line answer (codes "@PJL INFO CONFIG")

-- Whether the device can print on both sides, where the answer tells the device:
-- then it has a line that says so, or the panel has the variable.
abbrev pub device_duplex : List ℕ → Option Bool
device_duplex answer =
    if is_config answer then Some (has_line answer (codes "DUPLEX") || is_given answer variables.Duplex) else None

-- it is told that it cannot
abbrev pub has_no_duplex : List ℕ → Bool
has_no_duplex answer = option_map_or (λ has_duplex. not has_duplex) (device_duplex answer) false
