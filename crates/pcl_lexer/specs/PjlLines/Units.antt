-- Lines with their newline, and their faults, by the rules.
use Rattle.std.specs.Prelude.{◌≡◌, ℕ, ◌<◌, List, [], ◌∷◌, ◌++◌, length}
use Rattle.pcl_items.specs.declared.fault.LexCause.{LexCause}
use Rattle.pcl_items.specs.declared.fault.LexCause.TheVariants.{Pjl, Truncated}
use Rattle.pcl_items.specs.PjlLines.Text.{is_inside, PjlCommand}
use Rattle.pcl_lexer.specs.PjlLines.Syntax.{Each, IsPjlCommand}

-- a line with its newline has at most 1024 bytes
pub data IsPjlUnit : List ℕ → PjlCommand → Type 0 where
  whole_line : {line : PjlCommand} (text : List ℕ) → IsPjlCommand text line → Each is_inside text → length text < 1024 →
      IsPjlUnit (text ++ 10 ∷ []) line

-- a line that is none; 1024 bytes with no newline; the end of the bytes in a line
pub data PjlFault : List ℕ → LexCause → Type 0 where
  no_line : (text rest : List ℕ) → Each is_inside text → length text < 1024 →
      ((line : PjlCommand) → IsPjlCommand text line → ⊥) → PjlFault (text ++ 10 ∷ rest) Pjl
  long_line : (text rest : List ℕ) → Each is_inside text → length text ≡ 1024 → PjlFault (text ++ rest) Pjl
  cut_line : {text : List ℕ} → Each is_inside text → length text < 1024 → PjlFault text Truncated
