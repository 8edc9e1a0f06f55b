-- The symbol sets that have a name.
use Rattle.std.specs.Prelude.{ℕ, ◌*◌, ◌==◌, ◌&&◌, Bool, List, [], ◌∷◌, Option, find, codes}
use Rattle.std.specs.Str.{bytes_eq}
use Rattle.device_profile.specs.declared.font.SymbolSet.{SymbolSet}
use Rattle.device_profile.specs.declared.named_set.NamedSet.{NamedSet}
use Rattle.device_profile.specs.declared.named_set.NamedSet.TheVariants as named

-- a symbol set by its number and letter
abbrev pub set_of : ℕ → ℕ → SymbolSet
set_of number letter = record { number = number * 10_000; letter = letter }

-- the name in the job language
abbrev pub word_of : NamedSet → List ℕ
word_of named.Roman8 = codes "ROMAN8"
word_of named.Latin1 = codes "ISOL1"
word_of named.Latin2 = codes "ISOL2"
word_of named.Latin5 = codes "ISOL5"
word_of named.Latin6 = codes "ISOL6"
word_of named.Latin9 = codes "ISOL9"
word_of named.Pc8 = codes "PC8"
word_of named.Pc8Danish = codes "PC8DN"
word_of named.Pc850 = codes "PC850"
word_of named.Pc852 = codes "PC852"
word_of named.Pc8Turkish = codes "PC8TK"
word_of named.Pc858 = codes "PC858"
word_of named.Windows1 = codes "WINL1"
word_of named.Windows2 = codes "WINL2"
word_of named.Windows5 = codes "WINL5"
word_of named.Windows30 = codes "WIN30"
word_of named.Ascii = codes "ISO6"
word_of named.Legal = codes "LEGAL"
word_of named.DeskTop = codes "DESKTOP"
word_of named.PsText = codes "PSTEXT"
word_of named.MsPublishing = codes "MSPUBL"
word_of named.McText = codes "MCTEXT"
word_of named.VenturaUs = codes "VNUS"
word_of named.VenturaInternational = codes "VNINTL"

-- THE TABLE OF SYMBOL SETS, by the number and the letter of `ESC (`
abbrev pub symbols_of : NamedSet → SymbolSet
symbols_of named.Roman8 = set_of 8 85
symbols_of named.Latin1 = set_of 0 78
symbols_of named.Latin2 = set_of 2 78
symbols_of named.Latin5 = set_of 5 78
symbols_of named.Latin6 = set_of 6 78
symbols_of named.Latin9 = set_of 9 78
symbols_of named.Pc8 = set_of 10 85
symbols_of named.Pc8Danish = set_of 11 85
symbols_of named.Pc850 = set_of 12 85
symbols_of named.Pc852 = set_of 17 85
symbols_of named.Pc8Turkish = set_of 9 84
symbols_of named.Pc858 = set_of 13 85
symbols_of named.Windows1 = set_of 19 85
symbols_of named.Windows2 = set_of 9 69
symbols_of named.Windows5 = set_of 5 84
symbols_of named.Windows30 = set_of 9 85
symbols_of named.Ascii = set_of 0 85
symbols_of named.Legal = set_of 1 85
symbols_of named.DeskTop = set_of 7 74
symbols_of named.PsText = set_of 10 74
symbols_of named.MsPublishing = set_of 6 74
symbols_of named.McText = set_of 12 74
symbols_of named.VenturaUs = set_of 14 74
symbols_of named.VenturaInternational = set_of 13 74

abbrev pub every_named_set : List NamedSet
every_named_set =
    named.Roman8 ∷ named.Latin1 ∷ named.Latin2 ∷ named.Latin5 ∷ named.Latin6 ∷ named.Latin9
    ∷ named.Pc8 ∷ named.Pc8Danish ∷ named.Pc850 ∷ named.Pc852 ∷ named.Pc8Turkish ∷ named.Pc858
    ∷ named.Windows1 ∷ named.Windows2 ∷ named.Windows5 ∷ named.Windows30 ∷ named.Ascii ∷ named.Legal
    ∷ named.DeskTop ∷ named.PsText ∷ named.MsPublishing ∷ named.McText ∷ named.VenturaUs
    ∷ named.VenturaInternational ∷ []

-- the name for people; empty where they know the set by its number and letter alone
abbrev pub name_of : NamedSet → List ℕ
name_of named.Roman8 = codes "Roman-8"
name_of named.Latin1 = codes "ISO 8859-1 Latin 1"
name_of named.Latin2 = codes "ISO 8859-2 Latin 2"
name_of named.Latin5 = codes "ISO 8859-9 Latin 5"
name_of named.Latin6 = codes "ISO 8859-10 Latin 6"
name_of named.Latin9 = codes "ISO 8859-15 Latin 9"
name_of named.Pc8 = codes "PC-8"
name_of named.Pc8Danish = codes "PC-8 D/N"
name_of named.Pc850 = codes "PC-850"
name_of named.Pc852 = codes "PC-852"
name_of named.Windows1 = codes "Windows Latin 1"
name_of named.Windows30 = codes "Windows 3.0 Latin 1"
name_of named.Ascii = codes "ASCII"
name_of _ = []

-- the set of a name in the job language
unfoldable pub set_named : List ℕ → Option NamedSet
set_named word = find (λ set. bytes_eq (word_of set) word) every_named_set

-- a set has this number and this letter
unfoldable pub is_set : SymbolSet → NamedSet → Bool
is_set set known = ((symbols_of known).number == set.number) && ((symbols_of known).letter == set.letter)

-- the set of a number and a letter, where it has a name
unfoldable pub named_by : SymbolSet → Option NamedSet
named_by set = find (is_set set) every_named_set
