-- What is proved of the lines of the job language.
use Rattle.std.specs.Prelude.{◌≡◌, ◌≤◌, ℕ, List, ◌++◌, length, Some}
use Rattle.pcl_items.specs.declared.fault.LexCause.{LexCause}
use Rattle.pcl_items.specs.declared.fault.LexCause.TheVariants.{Truncated}
use Rattle.pcl_items.specs.PjlLines.Text.{PjlCommand}
use Rattle.pcl_items.specs.PjlLines.Reader.{pjl_command_of}
use Rattle.pcl_lexer.specs.PjlLines.Syntax.{IsPjlCommand}
use Rattle.pcl_items.specs.PjlLines.First.{FirstPjl, Open, Begins, Faulty, at_pjl}
use Rattle.pcl_lexer.specs.PjlLines.Units.{IsPjlUnit, PjlFault}
use Rattle.pcl_items.specs.PjlLines.Canon.{canon_pjl}

-- a line is read as it is by the rules, and no other
pub record LineAgrees (text : List ℕ) (line : PjlCommand) : Type 0 where
  pub sound : pjl_command_of text ≡ Some line → IsPjlCommand text line
  pub complete : IsPjlCommand text line → pjl_command_of text ≡ Some line

-- bytes that begin with a line of so many bytes
pub record BeginsWith (bytes : List ℕ) (line : PjlCommand) (len : ℕ) : Type 0 where
  pub text : List ℕ
  pub rest : List ℕ
  pub unit : IsPjlUnit text line
  pub all : bytes ≡ text ++ rest
  pub size : len ≡ length text

-- how a fault is read: the end of the bytes decides nothing
abbrev pub first_of_fault : LexCause → FirstPjl
first_of_fault Truncated = Open
first_of_fault cause = Faulty cause

-- where a line begins, what is read is what the rules say, and all of it
pub record LinesByRules (bytes : List ℕ) : Type 0 where
  pub line : (line : PjlCommand) (len : ℕ) → at_pjl bytes ≡ Begins line len → BeginsWith bytes line len
  pub line_is_read : (line : PjlCommand) (len : ℕ) → BeginsWith bytes line len → at_pjl bytes ≡ Begins line len
  pub fault : (cause : LexCause) → at_pjl bytes ≡ Faulty cause → PjlFault bytes cause
  pub cut : at_pjl bytes ≡ Open → PjlFault bytes Truncated
  pub fault_is_read : (cause : LexCause) → PjlFault bytes cause → at_pjl bytes ≡ first_of_fault cause

-- what is decided stays so, whatever bytes follow
abbrev pub LineStays : List ℕ → Type 0
LineStays bytes = (more : List ℕ) → (at_pjl bytes ≡ Open → ⊥) → at_pjl (bytes ++ more) ≡ at_pjl bytes

abbrev pub LineWaits : List ℕ → Type 0
LineWaits bytes = at_pjl bytes ≡ Open → length bytes ≤ 1023

-- its spelling is that line by the rules, and is read so, whatever bytes follow
pub record LineHasCanon (line : PjlCommand) : Type 0 where
  pub spelled : IsPjlUnit (canon_pjl line) line
  pub read : (rest : List ℕ) → at_pjl (canon_pjl line ++ rest) ≡ Begins line (length (canon_pjl line))

-- each line that some text spells has its one spelling
abbrev pub LineCanonIsRead : List ℕ → PjlCommand → Type 0
LineCanonIsRead text line = IsPjlUnit text line → LineHasCanon line
