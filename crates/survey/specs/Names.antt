-- What HP's manual calls what is refused.
use Rattle.std.specs.Prelude.{ℕ, ◌==◌, List, [], ◌∷◌, ◌++◌, codes, length, if◌then◌else◌}
use Rattle.std.specs.List.{after_first, before_first}
use Rattle.command_names.specs.CommandNames.{command_name}
use Rattle.shown_bytes.specs.Shown.{hex_byte}
use Rattle.survey.specs.declared.refusal.Spelled.{Spelled}
use Rattle.survey.specs.declared.refusal.Spelled.TheVariants.{Control, Sequence, Grouped, Ungrouped, Unended}
use Rattle.survey.specs.declared.refusal.Spelled.TheVariants.{Instruction, FrameBytes, Line, End}
use Rattle.survey.specs.NamedLines.{line_at}

-- a name, or another where that is empty
abbrev pub name_or : List ℕ → List ℕ → List ℕ
name_or name other = if length name == 0 then other else name

-- a command whose letter has no name is called as its group, or as that of all letters, or else as its introducer, as a
-- fault names it
abbrev pub introduced_name : ℕ → List ℕ → List ℕ
introduced_name introducer name = name_or name (command_name (introducer ∷ []))

abbrev pub grouped_name : (introducer group letter : ℕ) → List ℕ
grouped_name introducer group letter =
    introduced_name introducer
    (name_or (command_name (introducer ∷ group ∷ letter ∷ [])) (command_name (introducer ∷ group ∷ [])))

abbrev pub ungrouped_name : (introducer letter : ℕ) → List ℕ
ungrouped_name introducer letter =
    introduced_name introducer
    (name_or (command_name (introducer ∷ letter ∷ [])) (command_name (introducer ∷ 35 ∷ [])))

-- words of which the second has a name, or the first
abbrev pub words_name : List ℕ → List ℕ
words_name words =
    name_or (command_name (after_first (λ byte. byte == 32) words))
    (command_name (before_first (λ byte. byte == 32) words))

-- those behind `PJL`
abbrev pub line_name : List ℕ → List ℕ
line_name line = words_name (after_first (λ byte. byte == 32) line)

-- the name by the key, which is the spelling without ESC and the value field
abbrev pub spelled_name : Spelled → List ℕ
spelled_name (Control b) = command_name (120 ∷ hex_byte b)
spelled_name (Sequence b) = command_name (b ∷ [])
spelled_name (Grouped introducer group letter) = grouped_name introducer group letter
spelled_name (Ungrouped introducer letter) = ungrouped_name introducer letter
spelled_name Unended = []
spelled_name (Instruction first second) = command_name (first ∷ second ∷ [])
spelled_name FrameBytes = []
spelled_name (Line number) = line_name (line_at number)
spelled_name End = []

-- a name behind a comma, where there is one
abbrev pub called : List ℕ → List ℕ
called name = if length name == 0 then [] else codes ", " ++ name
