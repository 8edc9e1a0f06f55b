-- Which commands the language has, by their keys in the table of commands.
use Rattle.std.specs.Prelude.{◌≡◌, ℕ, ◌==◌, ◌&&◌, ◌||◌, nat_lt, not, List, [], ◌∷◌, ◌++◌, map, codes, Bool, true, false}
use Rattle.std.specs.List.{list_all, list_any}
use Rattle.std.specs.Str.{bytes_eq}
use Rattle.pcl_items.specs.declared.frame.Mnemonic.{Mnemonic}
use Rattle.pcl_items.specs.declared.pcl.command.Command.{Command}
use Rattle.pcl_items.specs.declared.pcl.command.DataCommand.{DataCommand}
use Rattle.pcl_items.specs.declared.pjl.Word.{Word}
use Rattle.pcl_items.specs.declared.pjl.Word.TheVariants.{Comment, Job, EndOfJob, Enter}
use Rattle.pcl_items.specs.Escapes.Codes.{control_codes, second_characters}
use Rattle.pcl_items.specs.Escapes.Commands.{character_of, commands, data_commands, data_group_of, data_letter_of}
use Rattle.pcl_items.specs.Escapes.Commands.{group_of, introducer_of, letter_of}
use Rattle.pcl_items.specs.Frames.Mnemonics.{letters_of, mnemonics}
use Rattle.pcl_items.specs.Items.{Entry}
use Rattle.pcl_items.specs.PjlLines.Text.{spelling}
use Rattle.shown_bytes.specs.Shown.{hex_byte}
use Rattle.command_names.specs.CommandNames.{is_taken, key_of, texts_in, texts_of}
use Rattle.command_names.specs.declared.chapters.Chapter.{Chapter}

-- ---- the keys of what the language has

abbrev pub command_key : Command → List ℕ
command_key command =
    introducer_of (group_of command) ∷ character_of (group_of command) ∷ letter_of command ∷ []

abbrev pub data_key : DataCommand → List ℕ
data_key command =
    introducer_of (data_group_of command) ∷ character_of (data_group_of command) ∷ data_letter_of command ∷ []

-- a byte that shows nothing, as a fault names it
abbrev pub control_key : ℕ × Entry → List ℕ
control_key control = 120 ∷ hex_byte control.0

abbrev pub sequence_key : ℕ × Entry → List ℕ
sequence_key sequence = sequence.0 ∷ []

abbrev pub mnemonic_key : Mnemonic → List ℕ
mnemonic_key mnemonic = (letters_of mnemonic).0 ∷ (letters_of mnemonic).1 ∷ []

-- what stands in no table of the language: the universal exit, the two ways between the languages, a symbol set by
-- its letter, and the default font
abbrev pub other_keys : List (List ℕ)
other_keys = codes "%-12345X" ∷ codes "%A" ∷ codes "%B" ∷ codes "(#" ∷ codes "(@" ∷ []

abbrev pub words : List Word
words = Comment ∷ Job ∷ EndOfJob ∷ Enter ∷ []

abbrev pub language : List (List ℕ)
language =
    map command_key commands ++ map data_key data_commands ++ map control_key control_codes
    ++ map sequence_key second_characters ++ map mnemonic_key mnemonics ++ map spelling words ++ other_keys

-- ---- what the table says of it

-- the first text of bytes stands before the second in a dictionary
abbrev pub comes_before : List ℕ → List ℕ → Bool
comes_before [] [] = false
comes_before [] (b ∷ second) = true
comes_before (a ∷ first) [] = false
comes_before (a ∷ first) (b ∷ second) = nat_lt a b || ((a == b) && comes_before first second)

-- behind this one each key stands behind the one before it
abbrev pub rises : List ℕ → List (List ℕ) → Bool
rises last [] = true
rises last (key ∷ keys) = comes_before last key && rises key keys

abbrev pub is_told : List (List ℕ) → List ℕ → Bool
is_told texts key = list_any (λ text. bytes_eq (key_of text) key && is_taken text) texts

abbrev pub is_of_language : List ℕ → Bool
is_of_language key = list_any (bytes_eq key) language

-- no key stands twice
abbrev pub are_apart : List (List ℕ) → Bool
are_apart [] = true
are_apart (key ∷ keys) = not (list_any (bytes_eq key) keys) && are_apart keys

-- In each chapter the keys rise, so that none is empty, and in all of them none stands twice; each command of the
-- language is told as taken, and none else.
pub record TellLanguage (chapters : List Chapter) : Type 0 where
  pub rising : list_all (λ chapter. rises [] (map key_of (texts_of chapter))) chapters ≡ true
  pub apart : are_apart (map key_of (texts_in chapters)) ≡ true
  pub each : list_all (is_told (texts_in chapters)) language ≡ true
  pub only : list_all (λ text. not (is_taken text) || is_of_language (key_of text)) (texts_in chapters) ≡ true
