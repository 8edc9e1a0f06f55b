-- The name that the text of a profile gives its printer.
use Rattle.std.specs.Prelude.{ℕ, List, [], ◌∷◌, Option, None, Some, unwrap_or, codes, if◌then◌else◌}
use Rattle.std.specs.Str.{bytes_eq}
use Rattle.std.specs.Str.Lines.{lines}
use Rattle.device_profile.specs.Words.{words_of}

-- the word behind the key `name`
abbrev pub name_by : List (List ℕ) → Option (List ℕ)
name_by [] = None
name_by (key ∷ []) = None
name_by (key ∷ name ∷ words) = if bytes_eq key (codes "name") then Some name else None

-- of the first line that gives one; where none does, the name is empty
abbrev pub name_in : List (List ℕ) → List ℕ
name_in [] = []
name_in (line ∷ more) = unwrap_or (name_by (words_of line)) (name_in more)

abbrev pub printer_name : List ℕ → List ℕ
printer_name text = name_in (lines text)
