-- What the command `explain` writes.
use Rattle.std.specs.Prelude.{◌≡◌, ℕ, List, [], ◌∷◌, ◌++◌, decimal, filter, map, codes, Bool, true, false, not, ◌||◌}
use Rattle.std.specs.Prelude.{◌==◌, Option, Some, None, option_map, if◌then◌else◌}
use Rattle.std.specs.List.{before_first, after_first, concat, list_any}
use Rattle.std.specs.Str.{bytes_eq, str_eq_ignore_ascii_case}
use Rattle.verdict.specs.declared.reason.Reason.{Reason}
use Rattle.verdict.specs.Numbers.{reason_number}
use Rattle.line_words.specs.Reason.{bare_name}
use Rattle.streams.specs.declared.error.Error.TheVariants.{Write}
use Rattle.notes.specs.declared.note.Note.{Note}
use Rattle.notes.specs.Note.{note_name, note_number}
use Rattle.requests.specs.declared.status.Status.{Status}
use Rattle.requests.specs.declared.status.Status.TheVariants.{Help, Usage, Stopped}
use Rattle.meanings.specs.AskedCode.{code_meant}

-- an explanation begins with its number, a space, its name and the end of the line
abbrev pub number_of : List ℕ → List ℕ
number_of text = before_first (λ byte. byte == 32) text

abbrev pub name_of : List ℕ → List ℕ
name_of text = before_first (λ byte. byte == 10) (after_first (λ byte. byte == 32) text)

-- the code is the number, or the name in any letter case
abbrev pub is_about : List ℕ → List ℕ → Bool
is_about code text = bytes_eq (number_of text) code || str_eq_ignore_ascii_case (name_of text) code

-- without a code each is asked for
abbrev pub is_asked : Option (List ℕ) → List ℕ → Bool
is_asked None text = true
is_asked (Some code) text = is_about code text

-- those that are asked for, in their order
abbrev pub explanation : List (List ℕ) → Option (List ℕ) → List ℕ
explanation texts code = concat (filter (is_asked code) texts)

-- the first of these that is about a code, nothing where none is
abbrev pub explained_by : List ℕ → List (List ℕ) → List ℕ
explained_by code [] = []
explained_by code (text ∷ texts) = if is_about code text then text else explained_by code texts

-- a code is given, and none is about it
abbrev pub is_unknown : List (List ℕ) → Option (List ℕ) → Bool
is_unknown texts None = false
is_unknown texts (Some code) = not (list_any (is_about code) texts)

-- how the command ends: whether the code is unknown, and whether a write failed
abbrev pub end_of_explain : Bool → Bool → Status
end_of_explain unknown failed = if unknown then Usage else (if failed then Stopped Write else Help)

-- what it tells on standard error of a code that is unknown
abbrev pub complaint_of_code : Option (List ℕ) → List ℕ
complaint_of_code None = []
complaint_of_code (Some code) =
    codes "error: no fault, finding, note or command has the number or the name '" ++ code
    ++ codes "'; 'pclcheck explain' writes all, 'pclcheck explain commands' lists the commands\n"

-- of a word it names the code that is meant
abbrev pub complaint : Option (List ℕ) → List ℕ
complaint word = complaint_of_code (option_map code_meant word)

-- ---- of what they tell

-- a number and a name, which begin an explanation as a line
abbrev pub head_with : ℕ → List ℕ → List ℕ
head_with number name = decimal number ++ codes " " ++ name

-- those of a fault or a finding
abbrev pub head_of : Reason → List ℕ
head_of reason = head_with (reason_number reason) (bare_name reason)

-- and those of a note
abbrev pub head_of_note : Note → List ℕ
head_of_note note = head_with (note_number note) (note_name note)

abbrev pub first_line : List ℕ → List ℕ
first_line text = before_first (λ byte. byte == 10) text

-- by this number one text is asked for, by this name the same, and it begins with both
pub record IsExplained (texts : List (List ℕ)) (number : ℕ) (name : List ℕ) : Type 0 where
  pub text : List ℕ
  pub by_number : filter (is_about (decimal number)) texts ≡ text ∷ []
  pub by_name : filter (is_about name) texts ≡ text ∷ []
  pub begins : first_line text ≡ head_with number name

-- each reason is explained, and each note, and each text begins with the line of one of these
pub record ExplainReasons (texts : List (List ℕ)) : Type 0 where
  pub each : (reason : Reason) → IsExplained texts (reason_number reason) (bare_name reason)
  pub each_note : (note : Note) → IsExplained texts (note_number note) (note_name note)
  pub reasons : List Reason
  pub notes : List Note
  pub only : map first_line texts ≡ map head_of reasons ++ map head_of_note notes
