-- What the command `explain` writes of commands of printers.
use Rattle.std.specs.Prelude.{ℕ, ◌+◌, nat_le, List, codes, filter, length, map, take, Bool, false, ◌||◌, Option, Some}
use Rattle.std.specs.Prelude.{None, option_map, if◌then◌else◌}
use Rattle.std.specs.List.{concat, list_any}
use Rattle.std.specs.Str.{bytes_eq}
use Rattle.command_names.specs.CommandNames.{head_of, is_of_command}
use Rattle.meanings.specs.AskedCode.{code_meant}
use Rattle.meanings.specs.Explanations.{explanation, is_unknown}

-- the code that asks for the list of commands
abbrev pub asks_for_list : Option (List ℕ) → Bool
asks_for_list None = false
asks_for_list (Some code) = bytes_eq code (codes "commands")

-- the code asks for what this text tells of a command
abbrev pub asks_of : Option (List ℕ) → List ℕ → Bool
asks_of None text = false
asks_of (Some code) text = is_of_command code text

-- it asks for the list, or a text is about it
abbrev pub asks_of_commands : List (List ℕ) → Option (List ℕ) → Bool
asks_of_commands commands code = asks_for_list code || list_any (asks_of code) commands

-- a command's line in the list: the first one of its text, with its end
abbrev pub list_line : List ℕ → List ℕ
list_line text =
    if nat_le (length text) (length (head_of text) + 1) then text else take (length (head_of text) + 1) text

-- the list, or the texts that are about the code
abbrev pub told_of_commands : List (List ℕ) → Option (List ℕ) → List ℕ
told_of_commands commands code =
    if asks_for_list code then concat (map list_line commands) else concat (filter (asks_of code) commands)

-- ---- what is told of a code

-- what is written: of commands, or else of faults, findings and notes
abbrev pub told_of_code : (texts commands : List (List ℕ)) → Option (List ℕ) → List ℕ
told_of_code texts commands code =
    if asks_of_commands commands code then told_of_commands commands code else explanation texts code

-- a code is given, and nothing is about it
abbrev pub is_code_unheard : (texts commands : List (List ℕ)) → Option (List ℕ) → Bool
is_code_unheard texts commands code = if asks_of_commands commands code then false else is_unknown texts code

-- ---- what is told of a word, as people copy it: that of the code that is meant

abbrev pub told : (texts commands : List (List ℕ)) → Option (List ℕ) → List ℕ
told texts commands word = told_of_code texts commands (option_map code_meant word)

abbrev pub is_unheard : (texts commands : List (List ℕ)) → Option (List ℕ) → Bool
is_unheard texts commands word = is_code_unheard texts commands (option_map code_meant word)
