-- The text of a profile with what a printer's answer tells.
use Rattle.std.specs.Prelude.{ℕ, Bool, false, nat_eq, List, [], ◌∷◌, ◌++◌, Option, None, Some, find, codes, decimal}
use Rattle.std.specs.Prelude.{flat_map, option_map, unwrap_or, if◌then◌else◌}
use Rattle.std.specs.List.{starts_with}
use Rattle.std.specs.Option.{option_and_then, option_map_or}
use Rattle.std.specs.Str.{bytes_eq}
use Rattle.std.specs.Str.Lines.{lines}
use Rattle.device_profile.specs.declared.field.Field.{Field}
use Rattle.device_profile.specs.declared.field.Field.TheVariants.{LineTerm}
use Rattle.device_profile.specs.declared.format.Format.{Format}
use Rattle.device_profile.specs.declared.format.Format.TheVariants.{One, Two}
use Rattle.device_profile.specs.Field.{every_field, field_key, has_decimals}
use Rattle.device_profile.specs.Printer.{Printer}
use Rattle.device_profile.specs.Text.{format_name, format_of, words_of_line}
use Rattle.device_profile.specs.Words.{words_of}
use Rattle.shown_bytes.specs.Decimals.{with_four_decimals}
use Rattle.pjl_answer.specs.declared.warning.Warning.{Warning}
use Rattle.pjl_answer.specs.Config.{device_duplex}
use Rattle.pjl_answer.specs.Told.{told}
use Rattle.pjl_answer.specs.Warning.{warning_lines, warnings}

-- the field whose line begins with a word
unfoldable pub field_of : List ℕ → Option Field
field_of word = find (λ field. bytes_eq (field_key field) word) every_field

-- a value of a field
abbrev pub value_word : Field → ℕ → List ℕ
value_word field n = if has_decimals field then with_four_decimals n else decimal n

-- the line of a field with these values
abbrev pub field_line : Field → List ℕ → List ℕ
field_line field values = field_key field ++ flat_map (λ n. 32 ∷ value_word field n) values

-- the field of a line's words
abbrev pub field_on : List (List ℕ) → Option Field
field_on [] = None
field_on (word ∷ words) = field_of word

-- the line that an answer tells in the place of one
abbrev pub told_line : Printer → List ℕ → List ℕ → Option (List ℕ)
told_line printer answer line =
    option_and_then (λ field. option_map (field_line field) (told printer answer field)) (field_on (words_of_line line))

-- the words are those of the line that says whether the device has duplex
abbrev pub is_duplex_line : List (List ℕ) → Bool
is_duplex_line [] = false
is_duplex_line (word ∷ words) = bytes_eq word (codes "duplex")

abbrev pub duplex_words : Bool → List ℕ
duplex_words has_duplex = if has_duplex then codes "duplex 1" else codes "duplex 0"

-- the line of the device that an answer tells in the place of one
abbrev pub device_line : List ℕ → List ℕ → Option (List ℕ)
device_line answer line =
    if is_duplex_line (words_of_line line) then option_map duplex_words (device_duplex answer) else None

-- a line of the text behind the first: as it was, where the answer tells none in its place
abbrev pub line_after : Printer → List ℕ → List ℕ → List ℕ
line_after printer answer line =
    unwrap_or (told_line printer answer line) (unwrap_or (device_line answer line) line) ++ codes "\n"

-- the version that the text is of; one that has a line termination is of the second
abbrev pub version : Format → Option (List ℕ) → List ℕ
version One None = codes "1"
version One (Some line_termination) = codes "2"
version Two line_termination = codes "2"

abbrev pub first_line : Format → Option (List ℕ) → List ℕ
first_line format line_termination = format_name ++ codes " " ++ version format line_termination ++ codes "\n"

-- a line for line termination, which a text of the first version has not
abbrev pub added_line : Format → Option (List ℕ) → List ℕ
added_line One values = option_map_or (λ all. field_line LineTerm all ++ codes "\n") values []
added_line Two values = []

-- what the comments say first
unfoldable pub origin : List ℕ
origin = codes "# With a printer's answer to '@PJL INFO', by 'pclcheck profile from-pjl'. Lines are the answer's."

-- what begins the comment of a warning
unfoldable pub warning_start : List ℕ
warning_start = codes "# line "

-- a line is such a comment
abbrev pub is_warning : List ℕ → Bool
is_warning line = starts_with nat_eq line warning_start

-- the lines behind the comments of warnings that begin them
abbrev pub behind_warnings : List (List ℕ) → List (List ℕ)
behind_warnings [] = []
behind_warnings (line ∷ more) = if is_warning line then behind_warnings more else line ∷ more

-- the lines without the comments of an earlier answer, where these begin them
abbrev pub behind_comments : List (List ℕ) → List (List ℕ)
behind_comments [] = []
behind_comments (line ∷ more) = if bytes_eq line origin then behind_warnings more else line ∷ more

-- the first line, the comments with these warnings, and the line that is added
abbrev pub head_with : Format → Option (List ℕ) → List ℕ → List Warning → List ℕ
head_with format line_termination answer all =
    first_line format line_termination ++ origin ++ codes "\n" ++ warning_lines (codes "# ") answer all
    ++ added_line format line_termination

abbrev pub head_of : Printer → List ℕ → Format → List ℕ
head_of printer answer format = head_with format (told printer answer LineTerm) answer (warnings printer answer)

-- the version that a text's first line names
abbrev pub format_on : List ℕ → Format
format_on first = unwrap_or (format_of (words_of first)) One

abbrev pub text_of_lines : Printer → List ℕ → List (List ℕ) → List ℕ
text_of_lines printer answer [] = []
text_of_lines printer answer (first ∷ more) =
    head_of printer answer (format_on first) ++ flat_map (line_after printer answer) (behind_comments more)

-- the text of a profile, which is one of this printer, with what the answer tells
unfoldable pub answered_text : Printer → List ℕ → List ℕ → List ℕ
answered_text printer answer base = text_of_lines printer answer (lines base)
