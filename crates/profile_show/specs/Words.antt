-- The words for the numbers of a profile.
use Rattle.std.specs.Prelude.{ℕ, ℤ, pos, ◌/◌, ◌%◌, ◌==◌, ◌&&◌, nat_lt, if◌then◌else◌, List, [], ◌∷◌, ◌++◌, Option, find}
use Rattle.std.specs.Prelude.{decimal, codes, length}
use Rattle.std.specs.Ordering.{int_eq}
use Rattle.std.specs.Option.{option_map_or}
use Rattle.device_profile.specs.declared.font.FontRequest.{FontRequest}
use Rattle.device_profile.specs.declared.font.SymbolSet.{SymbolSet}
use Rattle.device_profile.specs.NamedSet.{name_of, named_by}
use Rattle.printer_models.specs.declared.face.Typeface.{Typeface}
use Rattle.printer_models.specs.declared.paper.Paper.{Paper}
use Rattle.printer_models.specs.Face.{every_typeface, typeface_name, typeface_number, typeface_value}
use Rattle.printer_models.specs.Paper.{word_of, code_of, every_paper}
use Rattle.shown_bytes.specs.Decimals.{amount}
use Rattle.shown_bytes.specs.Lettered.{lettered}
use Rattle.profile_show.specs.Figures.{signed_amount, counted}

-- a name, and its number in brackets
abbrev pub numbered : List ℕ → ℕ → List ℕ
numbered name number = name ++ codes " (" ++ decimal number ++ codes ")"

-- ---- what the panel has

-- the paper of a size
unfoldable pub paper_of : ℕ → Option Paper
paper_of size = find (λ paper. code_of paper == size) every_paper

-- a size by the name of its paper, where it has one
unfoldable pub size_words : ℕ → List ℕ
size_words size =
    option_map_or (λ paper. numbered (word_of paper) size) (paper_of size) (codes "paper " ++ decimal size)

abbrev pub orientation_name : ℕ → List ℕ
orientation_name orientation =
    if orientation == 0 then codes "portrait"
    else (if orientation == 1 then codes "landscape"
    else (if orientation == 2 then codes "reverse portrait"
    else codes "reverse landscape"))

abbrev pub orientation_words : ℕ → List ℕ
orientation_words orientation = numbered (orientation_name orientation) orientation

-- how many lines an inch has, where that is a whole number: a line is so many ten-thousandths of 1/48 inch
abbrev pub lines_an_inch : ℕ → List ℕ
lines_an_inch vmi =
    if nat_lt 0 vmi && (480_000 % vmi == 0)
    then codes " (" ++ counted (480_000 / vmi) (codes "line") ++ codes " an inch)"
    else []

abbrev pub vmi_words : ℕ → List ℕ
vmi_words vmi = amount vmi ++ codes "/48 inch" ++ lines_an_inch vmi

abbrev pub sides_name : ℕ → List ℕ
sides_name sides =
    if sides == 0 then codes "one side"
    else (if sides == 1 then codes "both sides, bound at the long edge"
    else codes "both sides, bound at the short edge")

-- what the printer makes of each control code
abbrev pub termination_name : ℕ → List ℕ
termination_name termination =
    if termination == 0 then codes "CR=CR, LF=LF, FF=FF"
    else (if termination == 1 then codes "CR=CR+LF, LF=LF, FF=FF"
    else (if termination == 2 then codes "CR=CR, LF=CR+LF, FF=CR+FF"
    else codes "CR=CR+LF, LF=CR+LF, FF=CR+FF"))

-- ---- what selects a font, of which each number counts ten-thousandths

-- a name behind a space, where there is one
unfoldable pub behind_space : List ℕ → List ℕ
behind_space name = if length name == 0 then [] else 32 ∷ name

-- the name of a symbol set behind a space, where it has one
unfoldable pub set_name : SymbolSet → List ℕ
set_name set = option_map_or (λ known. behind_space (name_of known)) (named_by set) []

-- a symbol set by its number and letter, and its name
unfoldable pub set_words : SymbolSet → List ℕ
set_words set = lettered set.number set.letter ++ set_name set

-- the design of a number, in ten-thousandths
unfoldable pub typeface_of : ℕ → Option Typeface
typeface_of number = find (λ typeface. typeface_value typeface == number) every_typeface

-- a typeface by the name of its design, where it has one
unfoldable pub typeface_words : ℕ → List ℕ
typeface_words number =
    option_map_or (λ typeface. numbered (typeface_name typeface) (typeface_number typeface)) (typeface_of number)
    (codes "typeface " ++ amount number)

unfoldable pub style_words : ℕ → List ℕ
style_words style =
    if style == 0 then codes "upright" else (if style == 10_000 then codes "italic" else codes "style " ++ amount style)

unfoldable pub weight_words : ℤ → List ℕ
weight_words weight =
    if int_eq weight (pos 0) then codes "medium"
    else (if int_eq weight (pos 30_000) then codes "bold" else codes "weight " ++ signed_amount weight)

-- the design of the letters
unfoldable pub design_words : FontRequest → List ℕ
design_words request =
    typeface_words request.typeface ++ codes ", " ++ style_words request.style ++ codes ", "
    ++ weight_words request.weight

-- how large they are
unfoldable pub letter_size : FontRequest → List ℕ
letter_size request = amount request.pitch ++ codes " an inch, " ++ amount request.height ++ codes " points"

-- all that selects a font but its symbol set
unfoldable pub cut_words : FontRequest → List ℕ
cut_words request = design_words request ++ codes ", " ++ letter_size request
