-- The lines of the job language, as they are read.
use Rattle.std.specs.Prelude.{ℕ, zero, suc, ◌==◌, List, [], ◌∷◌, length, take, drop, Bool, true, false, ◌||◌, ◌&&◌}
use Rattle.std.specs.Prelude.{Option, None, Some, if◌then◌else◌}
use Rattle.std.specs.List.{prefix_len}
use Rattle.pcl_items.specs.Frames.Mnemonics.{capital}
use Rattle.pcl_items.specs.declared.pjl.Word.{Word}
use Rattle.pcl_items.specs.declared.pjl.Word.TheVariants.{Comment, Job, EndOfJob, Enter}
use Rattle.pcl_items.specs.PjlLines.Text.{is_blank, is_solid, is_name_byte, is_quotable, PjlCommand, Bare, Remark}
use Rattle.pcl_items.specs.PjlLines.Text.{JobBegins, JobEnds, EnterPcl, name, display, language, pcl, spelling}

-- the bytes in front that pass a test, and what stands behind them
abbrev pub front : (ℕ → Bool) → List ℕ → List ℕ
front p bytes = take (prefix_len p bytes) bytes

abbrev pub past : (ℕ → Bool) → List ℕ → List ℕ
past p bytes = drop (prefix_len p bytes) bytes

-- without the blanks at the end
abbrev pub kept : ℕ → List ℕ → List ℕ
kept b [] = if is_blank b then [] else b ∷ []
kept b (c ∷ bytes) = b ∷ c ∷ bytes

unfoldable pub trimmed : List ℕ → List ℕ
trimmed [] = []
trimmed (b ∷ bytes) = kept b (trimmed bytes)

-- the word in either case
unfoldable pub is_word : List ℕ → List ℕ → Bool
is_word [] [] = true
is_word [] (c ∷ capitals) = false
is_word (b ∷ text) [] = false
is_word (b ∷ text) (c ∷ capitals) = (capital b == c) && is_word text capitals

-- behind this byte
abbrev pub past_byte : ℕ → List ℕ → Option (List ℕ)
past_byte c [] = None
past_byte c (b ∷ bytes) = if b == c then Some bytes else None

-- behind an equals sign, with blanks about it or none
abbrev pub past_blanks : Option (List ℕ) → Option (List ℕ)
past_blanks None = None
past_blanks (Some bytes) = Some (past is_blank bytes)

abbrev pub past_equals : List ℕ → Option (List ℕ)
past_equals bytes = past_blanks (past_byte 61 (past is_blank bytes))

-- behind a text and the quote that ends it
abbrev pub past_text : Option (List ℕ) → Option (List ℕ)
past_text None = None
past_text (Some bytes) = past_byte 34 (past is_quotable bytes)

abbrev pub past_value : Option (List ℕ) → Option (List ℕ)
past_value None = None
past_value (Some bytes) = past_text (past_byte 34 bytes)

-- a name that a part of such a line may have
abbrev pub is_name : Bool → List ℕ → Bool
is_name true text = is_word text name || is_word text display
is_name false text = is_word text name

-- behind a name and its text between quotes
unfoldable pub past_part : Bool → List ℕ → Option (List ℕ)
past_part job bytes =
    if is_name job (front is_name_byte bytes) then past_value (past_equals (past is_name_byte bytes)) else None

-- behind a part come at most n further ones, each behind at least a blank, and nothing else
unfoldable pub parts_behind : Bool → ℕ → Option (List ℕ) → Bool
parts_behind job n None = false
parts_behind job n (Some []) = true
parts_behind job zero (Some (b ∷ bytes)) = false
parts_behind job (suc n) (Some (b ∷ bytes)) = is_blank b && parts_behind job n (past_part job (past is_blank bytes))

-- nothing, or one part and at most n further ones
abbrev pub are_parts : Bool → ℕ → List ℕ → Bool
are_parts job n [] = true
are_parts job n (b ∷ text) = parts_behind job n (past_part job (b ∷ text))

abbrev pub is_pcl : Option (List ℕ) → Bool
is_pcl None = false
is_pcl (Some bytes) = is_word bytes pcl

unfoldable pub is_language : List ℕ → Bool
is_language text = is_word (front is_name_byte text) language && is_pcl (past_equals (past is_name_byte text))

abbrev pub word_at : List ℕ → Option Word
word_at text =
    if is_word text (spelling Comment) then Some Comment
    else if is_word text (spelling Job) then Some Job
    else if is_word text (spelling EndOfJob) then Some EndOfJob
    else if is_word text (spelling Enter) then Some Enter else None

-- a word, and the text behind it without blanks at both ends
abbrev pub with_text : Option Word → List ℕ → Option PjlCommand
with_text None text = None
with_text (Some Comment) text = Some (Remark text)
with_text (Some Job) text = if are_parts true (length text) text then Some (JobBegins text) else None
with_text (Some EndOfJob) text = if are_parts false 0 text then Some (JobEnds text) else None
with_text (Some Enter) text = if is_language text then Some EnterPcl else None

unfoldable pub in_words : List ℕ → Option PjlCommand
in_words words = with_text (word_at (front is_solid words)) (past is_blank (past is_solid words))

-- behind `@PJL`, without blanks at the end
abbrev pub behind_prefix : List ℕ → Option PjlCommand
behind_prefix [] = Some Bare
behind_prefix (b ∷ bytes) = if is_blank b then in_words (past is_blank bytes) else None

-- the line without its newline
unfoldable pub pjl_command_of : List ℕ → Option PjlCommand
pjl_command_of [] = None
pjl_command_of (a ∷ []) = None
pjl_command_of (a ∷ b ∷ []) = None
pjl_command_of (a ∷ b ∷ c ∷ []) = None
pjl_command_of (a ∷ b ∷ c ∷ d ∷ bytes) =
    if (a == 64) && ((b == 80) && ((c == 74) && (d == 76))) then behind_prefix (trimmed bytes) else None
