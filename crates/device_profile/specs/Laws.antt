-- Laws of the texts of profiles.
use Rattle.std.specs.Prelude.{◌≡◌, ℕ, ◌≤◌, List, [], ◌∷◌, All, Bool, IsTrue, length, map, filter, get_or, Some, Ok}
use Rattle.std.specs.List.Sorted.{IsPermutation}
use Rattle.std.specs.Str.{bytes_eq}
use Rattle.std.specs.Str.Lines.{lines}
use Rattle.device_profile.specs.Key.{key_word}
use Rattle.device_profile.specs.Printer.{Printer, is_valid}
use Rattle.device_profile.specs.Text.{format_of, words_of_line, printer_of_text}
use Rattle.device_profile.specs.Words.{words_of}
use Rattle.device_profile.specs.declared.field.Field.TheVariants.{Size, Orientation, Vmi, Font, Copies, Sides, Tray}
use Rattle.device_profile.specs.declared.field.Field.TheVariants.{LineTerm}
use Rattle.device_profile.specs.declared.key.Key.{Key}
use Rattle.device_profile.specs.declared.key.Key.TheVariants.{Name, Choice, Trays, Duplex, Depth, Memory}
use Rattle.device_profile.specs.declared.format.Format.{Format}
use Rattle.device_profile.specs.declared.format.Format.TheVariants.{One, Two}

-- the keys that come once in texts of every version
abbrev pub common_keys : List Key
common_keys =
    Name ∷ Choice Size ∷ Choice Orientation ∷ Choice Vmi ∷ Choice Font
    ∷ Choice Copies ∷ Choice Sides ∷ Choice Tray
    ∷ Trays ∷ Duplex ∷ Depth ∷ Memory ∷ []

-- the keys that come once in texts of a version, by their words
abbrev pub single_keys : Format → List (List ℕ)
single_keys One = map key_word common_keys
single_keys Two = map key_word (Choice LineTerm ∷ common_keys)

-- whether a line is no comment and begins with this key
abbrev pub has_key : List ℕ → List ℕ → Bool
has_key key line = bytes_eq key (get_or (words_of_line line) 0 [])

-- the two have the same rows, perhaps in another order, and all else alike
pub record IsSamePrinter (a b : Printer) : Type 0 where
  pub geometries : IsPermutation a.geometries b.geometries
  pub faces : IsPermutation a.faces b.faces
  pub others : record a { geometries = []; faces = [] } ≡ record b { geometries = []; faces = [] }

-- where a text is accepted, its printer is valid
abbrev pub GivesValid : List ℕ → Type 0
GivesValid text = (printer : Printer) → printer_of_text text ≡ Ok printer → IsTrue (is_valid printer)

-- where a text is accepted, each key that comes once stands on one line
abbrev pub HasEachKeyOnce : List ℕ → Type 0
HasEachKeyOnce text =
    (printer : Printer) (format : Format) → printer_of_text text ≡ Ok printer →
    format_of (words_of (get_or (lines text) 0 [])) ≡ Some format →
    All (λ key. length (filter (has_key key) (lines text)) ≡ 1) (single_keys format)

-- where a text is accepted, so is another with the same first line and the others in any order, and gives
-- the same printer
abbrev pub OrderIsFree : List ℕ → List ℕ → Type 0
OrderIsFree text other =
    (printer : Printer) (first : List ℕ) (later moved : List (List ℕ)) →
    printer_of_text text ≡ Ok printer →
    lines text ≡ first ∷ later → lines other ≡ first ∷ moved → IsPermutation later moved → length other ≤ 65_536 →
    (same : Printer) × (printer_of_text other ≡ Ok same) × IsSamePrinter printer same
