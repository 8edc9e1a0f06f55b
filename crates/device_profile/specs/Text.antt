-- The printer that a profile's text describes, or the first thing wrong with the text.
use Rattle.std.specs.Prelude.{◌≡◌, ℕ, ◌+◌, List, [], ◌∷◌, Bool, not, ◌&&◌, ◌==◌, nat_lt, length, get_or, Option, None}
use Rattle.std.specs.Prelude.{Some, is_some, unwrap_or, codes, if◌then◌else◌, Result, Ok, Err}
use Rattle.std.specs.List.{list_all, list_any}
use Rattle.std.specs.Option.{option_map_or}
use Rattle.std.specs.Str.{bytes_eq}
use Rattle.std.specs.Str.Lines.{lines}
use Rattle.device_profile.specs.declared.format.Format.{Format}
use Rattle.device_profile.specs.declared.format.Format.TheVariants.{One, Two}
use Rattle.device_profile.specs.declared.fault.Cause.TheVariants.{Version, Range, Missing, NoGeometry}
use Rattle.device_profile.specs.declared.fault.ProfileFault.{ProfileFault}
use Rattle.device_profile.specs.declared.fault.ProfileFault.TheVariants.{Fault, Memory}
use Rattle.device_profile.specs.Printer.{Printer, has_size, has_orientation, has_every_pair, are_sides}
use Rattle.device_profile.specs.Faces.{has_face}
use Rattle.device_profile.specs.Words.{words_of}
use Rattle.device_profile.specs.declared.key.Key.{Key}
use Rattle.device_profile.specs.declared.key.Key.TheVariants.{Name, Choice, Trays, Duplex, Depth, Memory as MemoryKey}
use Rattle.device_profile.specs.declared.key.Key.TheVariants.{Page, Face as FaceRow}
use Rattle.device_profile.specs.Key.{every_key}
use Rattle.device_profile.specs.Draft.{Draft, no_draft, choice_of, draft_after}

-- the version that a word names
abbrev pub version_of : List ℕ → Option Format
version_of word = if bytes_eq word (codes "1") then Some One else (if bytes_eq word (codes "2") then Some Two else None)

-- the word that begins the first line, before the version
abbrev pub format_name : List ℕ
format_name = codes "pclprofile"

-- the first line names the format and its version
abbrev pub format_of : List (List ℕ) → Option Format
format_of [] = None
format_of (name ∷ []) = None
format_of (name ∷ version ∷ []) = if bytes_eq name format_name then version_of version else None
format_of (name ∷ version ∷ more ∷ words) = None

-- the words of a line; a comment, whose first byte is `#`, has none
abbrev pub words_of_line : List ℕ → List (List ℕ)
words_of_line line = if get_or line 0 0 == 35 then [] else words_of line

-- what was given after these lines of a text of a version, of which the first has this number, or the first faulty line
abbrev pub draft_of_lines : Format → Draft → ℕ → List (List ℕ) → Result Draft ProfileFault
draft_of_lines format draft number [] = Ok draft
draft_of_lines format draft number (line ∷ more) =
    elim (draft_after format draft (words_of_line line))
    [ Ok next ↦ draft_of_lines format next (number + 1) more | Err cause ↦ Err (Fault number cause) ]

-- what all lines give
abbrev pub draft_of : List (List ℕ) → Result Draft ProfileFault
draft_of [] = Err (Fault 1 Version)
draft_of (first ∷ more) =
    option_map_or (λ format. draft_of_lines format (no_draft format) 2 more)
    (format_of (words_of first)) (Err (Fault 1 Version))

-- whether a key was given
abbrev pub is_given : Draft → Key → Bool
is_given draft Name = draft.is_named
is_given draft (Choice field) = nat_lt 0 (length (choice_of draft field))
is_given draft Trays = nat_lt 0 (length draft.device_trays)
is_given draft Duplex = is_some draft.duplex
is_given draft Depth = is_some draft.depth
is_given draft MemoryKey = is_some draft.memory
is_given draft Page = nat_lt 0 (length draft.geometries)
is_given draft FaceRow = nat_lt 0 (length draft.faces)

-- whether each key was given, and a page and a face
abbrev pub is_complete : Draft → Bool
is_complete draft = list_all (is_given draft) every_key

-- whether each size and each orientation of the panel has a row, and each size of a row has one with each
-- orientation of a row
abbrev pub has_its_pages : Draft → Bool
has_its_pages draft =
    list_all (λ size. has_size draft.geometries size) draft.choices.sizes
    && list_all (λ orientation. has_orientation draft.geometries orientation) draft.choices.orientations
    && has_every_pair draft.geometries

-- whether the device prints on both sides
abbrev pub is_duplex : Draft → Bool
is_duplex draft = unwrap_or draft.duplex 0 == 1

-- whether the device has each face, each tray and the sides that the panel may have
abbrev pub has_its_choices : Draft → Bool
has_its_choices draft =
    list_all (λ font. has_face draft.faces font) draft.choices.fonts
    && list_all (λ tray. list_any (λ held. held == tray) draft.device_trays) draft.choices.panel_trays
    && list_all (are_sides (is_duplex draft)) draft.choices.sides

-- the printer of what was given
abbrev pub printer_of_draft : Draft → Printer
printer_of_draft draft = record {
  sizes = draft.choices.sizes;
  orientations = draft.choices.orientations;
  vmis = draft.choices.vmis;
  fonts = draft.choices.fonts;
  copies = draft.choices.copies;
  sides = draft.choices.sides;
  panel_trays = draft.choices.panel_trays;
  line_terminations = draft.choices.line_terminations;
  device_trays = draft.device_trays;
  has_duplex = is_duplex draft;
  depth = unwrap_or draft.depth 0;
  memory = unwrap_or draft.memory 0;
  most_items = None;
  geometries = draft.geometries;
  faces = draft.faces;
}

-- What was given, as a printer, or what is wrong with the whole.
abbrev pub printer_of : Draft → Result Printer ProfileFault
printer_of draft =
    if not (is_complete draft) then Err (Fault 0 Missing)
    else (if not (has_its_pages draft) then Err (Fault 0 NoGeometry)
    else (if not (has_its_choices draft) then Err (Fault 0 Range) else Ok (printer_of_draft draft)))

-- The printer that a text describes, or what is wrong first:
-- a text of more than 65536 bytes, then the first faulty line, then what is wrong with the whole.
unfoldable pub printer_of_text : List ℕ → Result Printer ProfileFault
printer_of_text text =
    if nat_lt 65_536 (length text) then Err (Fault 0 Range)
    else elim (draft_of (lines text)) [ Ok draft ↦ printer_of draft | Err fault ↦ Err fault ]

-- an error in reading a text: what is wrong with it, or that memory was wanted
abbrev pub IsErrorOfText : List ℕ → ProfileFault → Type 0
IsErrorOfText text (Fault line cause) = printer_of_text text ≡ Err (Fault line cause)
IsErrorOfText text Memory = Unit {0}
