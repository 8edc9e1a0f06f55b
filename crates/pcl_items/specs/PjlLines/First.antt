-- What stands first in bytes that begin a line.
use Rattle.std.specs.Prelude.{ℕ, ◌+◌, nat_lt, List, [], ◌∷◌, Option, None, Some, if◌then◌else◌}
use Rattle.std.specs.List.{prefix_len}
use Rattle.pcl_items.specs.declared.fault.LexCause.{LexCause}
use Rattle.pcl_items.specs.declared.fault.LexCause.TheVariants.{Pjl}
use Rattle.pcl_items.specs.PjlLines.Text.{is_inside, PjlCommand}
use Rattle.pcl_items.specs.PjlLines.Reader.{front, past, pjl_command_of}

pub data FirstPjl : Type 0 where
  Open : FirstPjl
  Begins : (line : PjlCommand) (len : ℕ) → FirstPjl
  Faulty : (cause : LexCause) → FirstPjl

-- the line that stands first, where one does
abbrev pub first_pjl : FirstPjl → Option PjlCommand
first_pjl Open = None
first_pjl (Begins line len) = Some line
first_pjl (Faulty cause) = None

abbrev pub read_pjl : Option PjlCommand → ℕ → FirstPjl
read_pjl None n = Faulty Pjl
read_pjl (Some line) n = Begins line (n + 1)

-- by what stands behind the bytes before the newline
abbrev pub by_newline : List ℕ → List ℕ → ℕ → FirstPjl
by_newline [] text n = Open
by_newline (b ∷ rest) text n = read_pjl (pjl_command_of text) n

-- a line has at most 1024 bytes with its newline
unfoldable pub at_pjl : List ℕ → FirstPjl
at_pjl bytes =
    if nat_lt 1023 (prefix_len is_inside bytes) then Faulty Pjl
    else by_newline (past is_inside bytes) (front is_inside bytes) (prefix_len is_inside bytes)
