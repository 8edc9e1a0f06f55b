-- Lines of files as they are quoted.
use Rattle.std.specs.Prelude.{ℕ, ◌-◌, nat_lt, if◌then◌else◌, List, [], ◌++◌, codes, get_or, length, take}
use Rattle.std.specs.Str.Lines.{lines}
use Rattle.shown_bytes.specs.Shown.{shown}

-- dots, where a line has more than the 40 bytes that are quoted
abbrev pub dots_behind : List ℕ → List ℕ
dots_behind line = if nat_lt 40 (length line) then codes ".." else []

-- a line between quotes
unfoldable pub quoted : List ℕ → List ℕ
quoted line = codes "'" ++ shown (take 40 line) ++ dots_behind line ++ codes "'"

-- the line of a number, which counts from 1, without its end
abbrev pub line_at : List ℕ → ℕ → List ℕ
line_at text number = get_or (lines text) (number - 1) []
