-- The one spelling of each line.
use Rattle.std.specs.Prelude.{◌≡◌, ℕ, List, [], ◌∷◌, ◌++◌, Option, None, Some, codes}
use Rattle.pcl_items.specs.declared.pjl.Word.{Word}
use Rattle.pcl_items.specs.declared.pjl.Word.TheVariants.{Comment, Job, EndOfJob, Enter}
use Rattle.pcl_items.specs.PjlLines.First.{first_pjl, at_pjl}
use Rattle.pcl_items.specs.PjlLines.Text.{PjlCommand, Bare, Remark, JobBegins, JobEnds, EnterPcl, prefix, spelling}

-- a text behind a space, where there is one
abbrev pub behind_space : List ℕ → List ℕ
behind_space [] = []
behind_space (b ∷ text) = 32 ∷ b ∷ text

-- the word of a line and its text
abbrev pub parts_of : PjlCommand → Option (Word × List ℕ)
parts_of Bare = None
parts_of (Remark text) = Some (Comment, text)
parts_of (JobBegins text) = Some (Job, text)
parts_of (JobEnds text) = Some (EndOfJob, text)
parts_of EnterPcl = Some (Enter, codes "LANGUAGE=PCL")

abbrev pub words_text : Word → List ℕ → List ℕ
words_text word text = spelling word ++ behind_space text

abbrev pub by_parts : Option (Word × List ℕ) → List ℕ
by_parts None = prefix
by_parts (Some p) = prefix ++ 32 ∷ words_text p.0 p.1

abbrev pub canon_pjl : PjlCommand → List ℕ
canon_pjl line = by_parts (parts_of line) ++ 10 ∷ []

-- A line that some text spells: its one spelling is read as it.
-- One too long is not, nor one whose text is none of its word.
abbrev pub IsSpelledPjl : PjlCommand → Type 0
IsSpelledPjl line = first_pjl (at_pjl (canon_pjl line)) ≡ Some line
