-- The rules of a profile's lines, in words.
use Rattle.std.specs.Prelude.{ℕ, List, [], ◌++◌, codes, Option, None, Some}
use Rattle.device_profile.specs.declared.fault.Cause.{Cause}
use Rattle.device_profile.specs.declared.fault.Cause.TheVariants.{Version, Unknown, Repeated, Range, Missing}
use Rattle.device_profile.specs.declared.fault.Cause.TheVariants.{NoGeometry}
use Rattle.device_profile.specs.declared.field.Field.{Field}
use Rattle.device_profile.specs.declared.field.Field.TheVariants.{Size, Orientation, Vmi, Font, Copies, Sides, Tray}
use Rattle.device_profile.specs.declared.field.Field.TheVariants.{LineTerm}
use Rattle.device_profile.specs.declared.key.Key.{Key}
use Rattle.device_profile.specs.declared.key.Key.TheVariants.{Name, Choice, Trays, Duplex, Depth, Memory, Page, Face}

-- what a key tells
abbrev pub meaning_of : Key → List ℕ
meaning_of Name = codes "the printer's name"
meaning_of (Choice Size) = codes "the page sizes that the panel may have"
meaning_of (Choice Orientation) = codes "the orientations that the panel may have"
meaning_of (Choice Vmi) = codes "the vertical motion indexes that the panel may have"
meaning_of (Choice Font) = codes "the ids of the faces that the panel may have"
meaning_of (Choice Copies) = codes "the numbers of copies that the panel may have"
meaning_of (Choice Sides) = codes "the sides that the panel may have"
meaning_of (Choice Tray) = codes "the trays from which the panel may take paper"
meaning_of (Choice LineTerm) = codes "the line terminations that the panel may have"
meaning_of Trays = codes "the trays that the device has"
meaning_of Duplex = codes "whether the device prints on both sides"
meaning_of Depth = codes "how many levels of macros may run"
meaning_of Memory = codes "how many bytes the macros may have together"
meaning_of Page = codes "the pages"
meaning_of Face = codes "the resident faces"

-- what values the words behind a key are
unfoldable pub kinds_of_values : Key → List ℕ
kinds_of_values Name = codes "a name is one word of 1 to 32 bytes, each from ! to ~"
kinds_of_values (Choice Size) = codes "sizes are 1 to 16 whole numbers from 1 to 999"
kinds_of_values (Choice Orientation) = codes "orientations are whole numbers from 0 to 3"
kinds_of_values (Choice Vmi) =
    codes "vertical motion indexes are 1 to 16 numbers from 0 to 335 in 1/48 inch, with at most four decimals"
kinds_of_values (Choice Font) = codes "fonts are 1 to 16 ids of faces, each from 1 to 255"
kinds_of_values (Choice Copies) = codes "copies are 1 to 16 whole numbers from 1 to 32767"
kinds_of_values (Choice Sides) = codes "sides are whole numbers from 0 to 2"
kinds_of_values (Choice Tray) = codes "trays are 1 to 16 whole numbers from 1 to 255"
kinds_of_values (Choice LineTerm) = codes "line terminations are whole numbers from 0 to 3"
kinds_of_values Trays = codes "trays are 1 to 16 whole numbers from 1 to 255"
kinds_of_values Duplex = codes "duplex is 0, or 1 where the device prints on both sides"
kinds_of_values Depth = codes "the depth is one whole number from 0 to 8"
kinds_of_values Memory = codes "the memory is one whole number of bytes from 0 to 1048576"
kinds_of_values Page =
    codes
    "a page has 12 numbers: its size from 1 to 999, its orientation from 0 to 3 and, in 1/7200 inch up to 720000, its width and height, the logical page's left, top, width and height, and the printable area's left, top, right and bottom; both areas lie in the page, the logical page is 7200 high or more, the printable area is not empty, and there are at most 64 pages"
kinds_of_values Face =
    codes
    "a face has 11 words: its id from 1 to 255, symbol set, pitch, height, style, weight and typeface, advance from 1 to 50400, ascent and descent up to 720000 in 1/7200 inch, and ranges of codes that rise, as 33-126,161-254; there are at most 64 faces"

-- the command by which a job sets a field
abbrev pub command_of : Field → List ℕ
command_of Size = codes "ESC &l#A"
command_of Orientation = codes "ESC &l#O"
command_of Vmi = codes "ESC &l#C"
command_of Font = codes "ESC (#X"
command_of Copies = codes "ESC &l#X"
command_of Sides = codes "ESC &l#S"
command_of Tray = codes "ESC &l#H"
command_of LineTerm = codes "ESC &k#G"

-- the field whose command has the values of a key as they stand in its line
unfoldable pub field_like : Key → Option Field
field_like (Choice Size) = Some Size
field_like (Choice Orientation) = Some Orientation
field_like (Choice Sides) = Some Sides
field_like (Choice Tray) = Some Tray
field_like (Choice LineTerm) = Some LineTerm
field_like Trays = Some Tray
field_like _ = None

unfoldable pub command_words : Option Field → List ℕ
command_words None = []
command_words (Some field) = codes ", as " ++ command_of field ++ codes " has them"

-- what the words behind a key are
abbrev pub value_rule : Key → List ℕ
value_rule key = kinds_of_values key ++ command_words (field_like key)

-- what comes once
abbrev pub once_rule : Key → List ℕ
once_rule Name = codes "the key comes once"
once_rule (Choice Size) = codes "the key comes once, and each of its values once"
once_rule (Choice Orientation) = codes "the key comes once, and each of its values once"
once_rule (Choice Vmi) = codes "the key comes once, and each of its values once"
once_rule (Choice Font) = codes "the key comes once, and each of its values once"
once_rule (Choice Copies) = codes "the key comes once, and each of its values once"
once_rule (Choice Sides) = codes "the key comes once, and each of its values once"
once_rule (Choice Tray) = codes "the key comes once, and each of its values once"
once_rule (Choice LineTerm) = codes "the key comes once, and each of its values once"
once_rule Trays = codes "the key comes once, and each of its values once"
once_rule Duplex = codes "the key comes once"
once_rule Depth = codes "the key comes once"
once_rule Memory = codes "the key comes once"
once_rule Page = codes "this pair of size and orientation came before"
once_rule Face = codes "this id, or all of symbol set, pitch, height, style, weight and typeface, came before"

abbrev pub key_rule : List ℕ
key_rule =
    codes
    "its first word is no key; the keys are name, size, orientation, vmi, font, copies, sides, tray, trays, duplex, depth, memory, geometry and face, and lineterm in version 2"

-- the rule that a line breaks
abbrev pub broken_rule : Option Key → Cause → List ℕ
broken_rule None cause = key_rule
broken_rule (Some key) Repeated = once_rule key
broken_rule (Some key) Version = value_rule key
broken_rule (Some key) Unknown = value_rule key
broken_rule (Some key) Range = value_rule key
broken_rule (Some key) Missing = value_rule key
broken_rule (Some key) NoGeometry = value_rule key
