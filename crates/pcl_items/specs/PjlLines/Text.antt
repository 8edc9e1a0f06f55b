-- The bytes and the words of the job language.
use Rattle.std.specs.Prelude.{◌≡◌, ℕ, ◌==◌, List, [], ◌∷◌, Bool, not, ◌||◌, codes}
use Rattle.pcl_items.specs.declared.pjl.Word.{Word}
use Rattle.pcl_items.specs.declared.pjl.Word.TheVariants.{Comment, Job, EndOfJob, Enter}

abbrev pub is_blank : ℕ → Bool
is_blank b = (b == 9) || ((b == 13) || (b == 32))

abbrev pub is_solid : ℕ → Bool
is_solid b = not (is_blank b)

-- a byte of a name, which a blank or an equals sign ends
abbrev pub is_name_byte : ℕ → Bool
is_name_byte b = not (is_blank b || (b == 61))

abbrev pub is_quotable : ℕ → Bool
is_quotable b = not (b == 34)

-- a byte before the newline
abbrev pub is_inside : ℕ → Bool
is_inside b = not (b == 10)

-- a line without where its text lies in memory
pub data PjlCommand : Type 0 where
  Bare : PjlCommand
  Remark : (text : List ℕ) → PjlCommand
  JobBegins : (text : List ℕ) → PjlCommand
  JobEnds : (text : List ℕ) → PjlCommand
  EnterPcl : PjlCommand

-- the byte with which a line begins
abbrev pub at_sign : ℕ
at_sign = 64

abbrev pub BeginsPjl : List ℕ → Type 0
BeginsPjl [] = ⊥
BeginsPjl (b ∷ bytes) = b ≡ at_sign

-- `@PJL`
abbrev pub prefix : List ℕ
prefix = 64 ∷ 80 ∷ 74 ∷ 76 ∷ []

abbrev pub name : List ℕ
name = codes "NAME"

abbrev pub display : List ℕ
display = codes "DISPLAY"

abbrev pub language : List ℕ
language = codes "LANGUAGE"

abbrev pub pcl : List ℕ
pcl = codes "PCL"

-- each word, in capitals
abbrev pub spelling : Word → List ℕ
spelling Comment = codes "COMMENT"
spelling Job = codes "JOB"
spelling EndOfJob = codes "EOJ"
spelling Enter = codes "ENTER"
