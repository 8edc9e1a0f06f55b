-- Which characters the codes of a symbol set stand for, by their numbers in Unicode.
use Rattle.std.specs.Prelude.{ℕ, ◌-◌, ◌==◌, ◌&&◌, nat_le, nat_lt, if◌then◌else◌, List, get_or, Option, None, Some}
use Rattle.std.specs.Option.{option_and_then}
use Rattle.device_profile.specs.declared.font.SymbolSet.{SymbolSet}
use Rattle.device_profile.specs.declared.named_set.NamedSet.{NamedSet}
use Rattle.device_profile.specs.declared.named_set.NamedSet.TheVariants as named
use Rattle.device_profile.specs.NamedSet.{named_by}
use Rattle.page_picture.specs.declared.characters.Repertoire.{Repertoire}
use Rattle.page_picture.specs.declared.characters.Repertoire.TheVariants.{Ascii, Pc8, Pc850, Roman8, Latin1, Windows}
use Rattle.page_picture.specs.declared.characters.TheConstants.{PC_BELOW_32, PC8_FROM_127, PC850_FROM_127}
use Rattle.page_picture.specs.declared.characters.TheConstants.{ROMAN8_FROM_160, WINDOWS_FROM_128}

-- the characters of a symbol set that has a name, where they are known
abbrev pub repertoire_named : NamedSet → Option Repertoire
repertoire_named named.Ascii = Some Ascii
repertoire_named named.Pc8 = Some Pc8
repertoire_named named.Pc850 = Some Pc850
repertoire_named named.Roman8 = Some Roman8
repertoire_named named.Latin1 = Some Latin1
repertoire_named named.Windows1 = Some Windows
repertoire_named _ = None

-- the characters of a symbol set, where they are known
unfoldable pub repertoire_of : SymbolSet → Option Repertoire
repertoire_of set = option_and_then repertoire_named (named_by set)

-- what a table has at a place, where that is not 0
abbrev pub entry : List ℕ → ℕ → Option ℕ
entry table place = if get_or table place 0 == 0 then None else Some (get_or table place 0)

-- ---- what a code outside ASCII stands for

-- in a set of PCs, of which this is what stands from 127 on
unfoldable pub pc_character : List ℕ → ℕ → Option ℕ
pc_character from_127 code =
    if nat_lt code 32 then entry PC_BELOW_32 code
    else (if nat_lt code 127 then None else entry from_127 (code - 127))

unfoldable pub roman8_character : ℕ → Option ℕ
roman8_character code = if nat_lt code 160 then None else entry ROMAN8_FROM_160 (code - 160)

unfoldable pub latin1_character : ℕ → Option ℕ
latin1_character code = if nat_lt code 160 then None else Some code

unfoldable pub windows_character : ℕ → Option ℕ
windows_character code =
    if nat_lt code 128 then None
    else (if nat_lt code 160 then entry WINDOWS_FROM_128 (code - 128) else Some code)

abbrev pub other_character : Repertoire → ℕ → Option ℕ
other_character Ascii code = None
other_character Pc8 code = pc_character PC8_FROM_127 code
other_character Pc850 code = pc_character PC850_FROM_127 code
other_character Roman8 code = roman8_character code
other_character Latin1 code = latin1_character code
other_character Windows code = windows_character code

-- ---- the character of a code

-- a code of ASCII that shows something stands for itself in each of these sets
abbrev pub character_in : Option Repertoire → ℕ → Option ℕ
character_in None code = None
character_in (Some repertoire) code =
    if nat_le 32 code && nat_le code 126 then Some code else other_character repertoire code

unfoldable pub character_of : SymbolSet → ℕ → Option ℕ
character_of set code = character_in (repertoire_of set) code
