-- The text of all that is found in the texts of profiles.
use Rattle.std.specs.Prelude.{ℕ, nat_lt, List, [], ◌∷◌, ◌++◌, Bool, length, flat_map, slice_get, unwrap_or, Ok, Err}
use Rattle.std.specs.Option.{option_map_or}
use Rattle.device_profile.specs.Printer.{Printer}
use Rattle.device_profile.specs.Text.{printer_of_text}
use Rattle.profile_lint.specs.declared.difference.FirstDifference.{FirstDifference}
use Rattle.profile_lint.specs.Differences.{difference_line, first_difference}
use Rattle.profile_lint.specs.FaultLines.{fault_line}
use Rattle.profile_lint.specs.HintLines.{hint_line}
use Rattle.profile_lint.specs.Hints.{hints_of}
use Rattle.profile_lint.specs.TextFaults.{faults_of}

-- a text under the word that names it
pub record Named : Type 0 where
  pub word : List ℕ
  pub text : List ℕ

-- a line for each fault of a text
abbrev pub faults_text : List ℕ → List ℕ → List ℕ
faults_text word text = flat_map (fault_line word text) (faults_of text)

-- a line for each hint on a printer
abbrev pub hints_text : List ℕ → Printer → List ℕ
hints_text word printer = flat_map (hint_line word) (hints_of printer)

-- what is found in one text: its faults, or where it has none hints on its printer
unfoldable pub findings_text : Named → List ℕ
findings_text named =
    elim (printer_of_text named.text)
    [ Ok printer ↦ hints_text named.word printer | Err fault ↦ faults_text named.word named.text ]

-- the printer of a text that has no fault
unfoldable pub sound_printers : Named → List Printer
sound_printers named = elim (printer_of_text named.text) [ Ok printer ↦ printer ∷ [] | Err fault ↦ [] ]

-- the word of one
unfoldable pub sound_words : Named → List (List ℕ)
sound_words named = elim (printer_of_text named.text) [ Ok printer ↦ named.word ∷ [] | Err fault ↦ [] ]

-- the word at a place, or none
abbrev pub word_at : List (List ℕ) → ℕ → List ℕ
word_at words place = unwrap_or (slice_get words place) []

-- the line of a difference from the first of printers under these words
abbrev pub line_of_difference : List (List ℕ) → FirstDifference → List ℕ
line_of_difference words found = difference_line (word_at words 0) (word_at words found.other) found.difference

-- in what two of the printers under these words differ first
abbrev pub difference_text : List (List ℕ) → List Printer → List ℕ
difference_text words printers = option_map_or (line_of_difference words) (first_difference printers) []

-- what is found in all, and in what two of those that have no fault differ first
abbrev pub lint_text : List Named → List ℕ
lint_text texts =
    flat_map findings_text texts ++ difference_text (flat_map sound_words texts) (flat_map sound_printers texts)

-- whether one of them has a fault: not each of them is that of a printer
abbrev pub have_faults : List Named → Bool
have_faults texts = nat_lt (length (flat_map sound_printers texts)) (length texts)
