-- The code that a word is which `explain` is asked for, as people copy it.
use Rattle.std.specs.Prelude.{ℕ, ◌==◌, ◌-◌, ◌&&◌, ◌||◌, nat_eq, nat_lt, not, List, [], ◌∷◌, length, take, drop, get_or}
use Rattle.std.specs.Prelude.{codes, Bool, if◌then◌else◌}
use Rattle.std.specs.Char.{is_ascii_alphabetic, is_ascii_digit, to_ascii_uppercase}
use Rattle.std.specs.Int.{is_in_range}
use Rattle.std.specs.List.{after_first, before_first, ends_with, list_all, starts_with}
use Rattle.std.specs.Str.{bytes_eq}
use Rattle.command_names.specs.CommandNames.{command_name}

abbrev pub is_empty : List ℕ → Bool
is_empty text = length text == 0

-- ---- a finding, as a line of a check has it

-- the name behind a number and a space; other words as they are
abbrev pub without_number : List ℕ → List ℕ
without_number word =
    let number : List ℕ = before_first (λ byte. byte == 32) word in
    if not (is_empty number) && list_all is_ascii_digit number && nat_lt (length number) (length word)
    then after_first (λ byte. byte == 32) word else word

-- the name before what stands in brackets; other words as they are
abbrev pub without_brackets : List ℕ → List ℕ
without_brackets word =
    let name : List ℕ = before_first (λ byte. byte == 40) word in
    if not (is_empty name) && list_all is_ascii_alphabetic name
    && ends_with nat_eq (after_first (λ byte. byte == 40) word) (codes ")")
    then name else word

-- ---- a command, as a job has it: an introducer, a group character or none, a number or none, and a letter

-- from `!` to `/`
abbrev pub is_introducer : ℕ → Bool
is_introducer byte = is_in_range 33 47 byte

-- from a grave accent to `~`, with the small letters
abbrev pub is_group : ℕ → Bool
is_group byte = is_in_range 96 126 byte

-- the same, or from `@` to `^`, with the capitals
abbrev pub is_letter : ℕ → Bool
is_letter byte = is_in_range 64 94 byte || is_in_range 96 126 byte

-- of a number: a digit, a sign or a point; or `#`, which stands for one
abbrev pub is_of_number : ℕ → Bool
is_of_number byte = is_ascii_digit byte || (byte == 43) || (byte == 45) || (byte == 46) || (byte == 35)

-- behind ESC, as a survey and a list spell it; others as they are
abbrev pub behind_escape : List ℕ → List ℕ
behind_escape word =
    if starts_with nat_eq word (codes "ESC ") || starts_with nat_eq word (codes "\\x1b") then drop 4 word else word

-- a name, or another where that is empty
abbrev pub name_or : List ℕ → List ℕ → List ℕ
name_or name other = if is_empty name then other else name

-- the name that a command has with this value of one figure, or of two
abbrev pub name_with_value : ℕ → List ℕ → ℕ → List ℕ
name_with_value introducer (group ∷ figure ∷ []) letter = command_name (introducer ∷ group ∷ figure ∷ letter ∷ [])
name_with_value introducer (group ∷ first ∷ second ∷ []) letter =
    command_name (introducer ∷ group ∷ first ∷ second ∷ letter ∷ [])
name_with_value introducer field letter = []

-- the name of group and letter, whatever the value; or else of the group, or of what its introducer is of
abbrev pub name_in_group : ℕ → ℕ → List ℕ → ℕ → List ℕ
name_in_group introducer group value letter =
    if list_all is_of_number value
    then name_or (command_name (introducer ∷ group ∷ letter ∷ []))
    (name_or (command_name (introducer ∷ group ∷ [])) (command_name (introducer ∷ [])))
    else []

-- the name of the letter; or else, where a value stands before it, of a symbol set, or of what its introducer is of
abbrev pub name_without_group : ℕ → List ℕ → ℕ → List ℕ
name_without_group introducer value letter =
    if list_all is_of_number value
    then name_or (command_name (introducer ∷ letter ∷ []))
    (if is_empty value then [] else name_or (command_name (introducer ∷ 35 ∷ [])) (command_name (introducer ∷ [])))
    else []

-- by whether a group character stands first between introducer and letter
abbrev pub name_by_group : ℕ → List ℕ → ℕ → List ℕ
name_by_group introducer [] letter = name_without_group introducer [] letter
name_by_group introducer (byte ∷ bytes) letter =
    if is_group byte then name_in_group introducer byte bytes letter
    else name_without_group introducer (byte ∷ bytes) letter

-- the name of the command that these bytes are, its letter in either case, or nothing
abbrev pub name_in_job : List ℕ → List ℕ
name_in_job [] = []
name_in_job (introducer ∷ behind) =
    let field : List ℕ = take (length behind - 1) behind in
    let letter : ℕ = get_or behind (length behind - 1) 0 in
    if is_introducer introducer && is_letter letter
    then name_or (name_with_value introducer field (to_ascii_uppercase letter))
    (name_by_group introducer field (to_ascii_uppercase letter))
    else []

-- ---- the code

-- `ERROR items` has a number; a command in a job has a name; of others it is the name that a line has
unfoldable pub code_meant : List ℕ → List ℕ
code_meant word =
    if bytes_eq word (codes "items") then codes "36"
    else name_or (name_in_job (behind_escape word)) (without_brackets (without_number word))
