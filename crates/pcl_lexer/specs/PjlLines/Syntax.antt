-- The lines of the job language by their rules.
use Rattle.std.specs.Prelude.{◌≡◌, ◌⊎◌, ℕ, List, [], ◌∷◌, ◌++◌, map, Bool, true, false}
use Rattle.pcl_items.specs.Frames.Mnemonics.{capital}
use Rattle.pcl_items.specs.declared.pjl.Word.{Word}
use Rattle.pcl_items.specs.declared.pjl.Word.TheVariants as words
use Rattle.pcl_items.specs.PjlLines.Text.{is_blank, is_quotable, PjlCommand, Bare, Remark, JobBegins, JobEnds, EnterPcl}
use Rattle.pcl_items.specs.PjlLines.Text.{prefix, name, display, language, pcl, spelling}

-- each byte is of a class
abbrev pub Each : (ℕ → Bool) → List ℕ → Type 0
Each p [] = Unit {0}
Each p (b ∷ bytes) = (p b ≡ true) × Each p bytes

abbrev pub AreBlanks : List ℕ → Type 0
AreBlanks text = Each is_blank text

-- a word in either case
abbrev pub IsWord : List ℕ → List ℕ → Type 0
IsWord capitals text = map capital text ≡ capitals

-- some text, with no blank in front; with none at its end
abbrev pub BeginsSolid : List ℕ → Type 0
BeginsSolid [] = ⊥
BeginsSolid (b ∷ bytes) = is_blank b ≡ false

abbrev pub EndsSolid : List ℕ → Type 0
EndsSolid [] = ⊥
EndsSolid (b ∷ []) = is_blank b ≡ false
EndsSolid (b ∷ c ∷ bytes) = EndsSolid (c ∷ bytes)

-- an equals sign, with blanks about it or none
pub data IsEquals : List ℕ → Type 0 where
  equals : (blanks_before blanks_after : List ℕ) → AreBlanks blanks_before → AreBlanks blanks_after →
      IsEquals (blanks_before ++ 61 ∷ blanks_after)

-- the names that a part may have
abbrev pub IsName : Word → List ℕ → Type 0
IsName words.Job text = IsWord name text ⊎ IsWord display text
IsName words.EndOfJob text = IsWord name text
IsName word text = ⊥

-- a name and its text between quotes
pub data IsPart : Word → List ℕ → Type 0 where
  part : {word : Word} {sign : List ℕ} (title text : List ℕ) → IsName word title → IsEquals sign →
      Each is_quotable text →
      IsPart word (title ++ (sign ++ 34 ∷ (text ++ 34 ∷ [])))

-- parts, each but the first behind a blank
pub data AreParts : Word → List ℕ → Type 0 where
  one : {word : Word} {part : List ℕ} → IsPart word part → AreParts word part
  more : {word : Word} {part parts : List ℕ} (b : ℕ) (blanks : List ℕ) → IsPart word part → is_blank b ≡ true →
      AreBlanks blanks → AreParts word parts →
      AreParts word (part ++ b ∷ (blanks ++ parts))

-- what may stand behind a word, and the line that it then is
pub data IsText : Word → List ℕ → PjlCommand → Type 0 where
  remark : {text : List ℕ} → IsText words.Comment text (Remark text)
  job : IsText words.Job [] (JobBegins [])
  named_job : {text : List ℕ} → AreParts words.Job text → IsText words.Job text (JobBegins text)
  job_end : IsText words.EndOfJob [] (JobEnds [])
  named_end : {text : List ℕ} → IsPart words.EndOfJob text → IsText words.EndOfJob text (JobEnds text)
  enter : {sign : List ℕ} (title value : List ℕ) → IsWord language title → IsEquals sign → IsWord pcl value →
      IsText words.Enter (title ++ (sign ++ value)) EnterPcl

-- a word, alone or with a text behind at least a blank
pub data AreWords : List ℕ → PjlCommand → Type 0 where
  alone : {text : List ℕ} {line : PjlCommand} (word : Word) → IsWord (spelling word) text → IsText word [] line →
      AreWords text line
  followed : {line : PjlCommand} (word : Word) (title : List ℕ) (b : ℕ) (blanks text : List ℕ) →
      IsWord (spelling word) title → is_blank b ≡ true → AreBlanks blanks → BeginsSolid text →
      IsText word text line → AreWords (title ++ b ∷ (blanks ++ text)) line

-- a line without its newline
pub data IsPjlCommand : List ℕ → PjlCommand → Type 0 where
  bare : (blanks : List ℕ) → AreBlanks blanks → IsPjlCommand (prefix ++ blanks) Bare
  worded : {words : List ℕ} {line : PjlCommand} (b : ℕ) (blanks_before blanks_after : List ℕ) → is_blank b ≡ true →
      AreBlanks blanks_before →
      AreWords words line → EndsSolid words → AreBlanks blanks_after →
      IsPjlCommand (prefix ++ b ∷ (blanks_before ++ (words ++ blanks_after))) line
