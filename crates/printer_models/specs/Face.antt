-- The resident faces of a generation of printers.
use Rattle.std.specs.Prelude.{ℕ, pos, ◌*◌, ◌-◌, ◌==◌, List, [], ◌∷◌, ◌++◌, map, Option, None, option_map, slice_get}
use Rattle.std.specs.Prelude.{if◌then◌else◌, codes}
use Rattle.device_profile.specs.declared.font.CodeRange.{CodeRange}
use Rattle.device_profile.specs.declared.font.FontRequest.{FontRequest}
use Rattle.device_profile.specs.declared.font.SymbolSet.{SymbolSet}
use Rattle.device_profile.specs.declared.named_set.NamedSet.{NamedSet}
use Rattle.device_profile.specs.declared.named_set.NamedSet.TheVariants as named
use Rattle.device_profile.specs.Faces.{Face}
use Rattle.device_profile.specs.NamedSet.{symbols_of}
use Rattle.device_profile.specs.Rows.{of_7200ths}
use Rattle.printer_models.specs.declared.face.CharacterSet.{CharacterSet}
use Rattle.printer_models.specs.declared.face.CharacterSet.TheVariants.{Roman8, Pc8, Pc850, Latin1, Windows, Ascii}
use Rattle.printer_models.specs.declared.face.Cut.{Cut}
use Rattle.printer_models.specs.declared.face.Cut.TheVariants.{Ten, Twelve, Elite, Small, OldSmall}
use Rattle.printer_models.specs.declared.face.FaceLook.{FaceLook}
use Rattle.printer_models.specs.declared.face.FaceLook.TheVariants.{Medium, Bold, Italic}
use Rattle.printer_models.specs.declared.face.Typeface.{Typeface}
use Rattle.printer_models.specs.declared.face.Typeface.TheVariants.{Courier, BaseCourier, LinePrinter, LetterGothic}
use Rattle.printer_models.specs.declared.face.Typeface.TheVariants.{BaseLetterGothic}
use Rattle.printer_models.specs.declared.face.FaceRow.{FaceRow}
use Rattle.printer_models.specs.declared.face.Metrics.{Metrics}
use Rattle.printer_models.specs.declared.face.Generation.{Generation}
use Rattle.printer_models.specs.declared.face.Generation.TheVariants.{LaserJet4, LaserJet5}

-- the set in the table of sets that have a name
abbrev pub named_as : CharacterSet → NamedSet
named_as Roman8 = named.Roman8
named_as Pc8 = named.Pc8
named_as Pc850 = named.Pc850
named_as Latin1 = named.Latin1
named_as Windows = named.Windows1
named_as Ascii = named.Ascii

-- the set as `ESC (` names it
abbrev pub symbol_set_of : CharacterSet → SymbolSet
symbol_set_of set = symbols_of (named_as set)

abbrev pub from_to : ℕ → ℕ → CodeRange
from_to first last = record { first = first; last = last }

-- the codes that print in a set
abbrev pub codes_in : CharacterSet → List CodeRange
codes_in Roman8 = from_to 33 126 ∷ from_to 161 254 ∷ []
codes_in Pc8 = from_to 33 126 ∷ from_to 128 254 ∷ []
codes_in Pc850 = from_to 33 126 ∷ from_to 128 254 ∷ []
codes_in Latin1 = from_to 33 126 ∷ from_to 161 255 ∷ []
codes_in Windows = from_to 33 126 ∷ from_to 130 140 ∷ from_to 145 156 ∷ from_to 159 159 ∷ from_to 161 255 ∷ []
codes_in Ascii = from_to 33 126 ∷ []

-- Pitch, in characters an inch, and height, in points, both in ten-thousandths; then how far a character moves the
-- cursor, and how far it reaches above and below the baseline, in 7200ths of an inch. The first is 7200 through the
-- pitch, the others are 3/4 and 1/4 of the letters' size.
abbrev pub metrics : ℕ → ℕ → ℕ → ℕ → ℕ → Metrics
metrics pitch height advance ascent descent =
    record { pitch = pitch; height = height; advance = advance; ascent = ascent; descent = descent }

abbrev pub metrics_of : Cut → Metrics
metrics_of Ten = metrics 100_000 120_000 720 900 300
metrics_of Twelve = metrics 120_000 100_000 600 750 250
metrics_of Elite = metrics 120_000 120_000 600 900 300
metrics_of Small = metrics 166_700 85_000 432 638 213
metrics_of OldSmall = metrics 166_600 85_000 432 638 213

-- upright or italic, as `ESC (s#S` numbers it
abbrev pub style_of : FaceLook → ℕ
style_of Medium = 0
style_of Bold = 0
style_of Italic = 1

-- the stroke weight, as `ESC (s#B` numbers it
abbrev pub weight_of : FaceLook → ℕ
weight_of Medium = 0
weight_of Bold = 3
weight_of Italic = 0

-- the typeface, as `ESC (s#T` numbers it
abbrev pub typeface_number : Typeface → ℕ
typeface_number Courier = 4_099
typeface_number BaseCourier = 3
typeface_number LinePrinter = 0
typeface_number LetterGothic = 4_102
typeface_number BaseLetterGothic = 6

-- the same in ten-thousandths, as a request has it
abbrev pub typeface_value : Typeface → ℕ
typeface_value typeface = typeface_number typeface * 10_000

-- the name of the design
abbrev pub typeface_name : Typeface → List ℕ
typeface_name Courier = codes "Courier"
typeface_name BaseCourier = codes "Courier"
typeface_name LinePrinter = codes "Line Printer"
typeface_name LetterGothic = codes "Letter Gothic"
typeface_name BaseLetterGothic = codes "Letter Gothic"

-- all designs
abbrev pub every_typeface : List Typeface
every_typeface = LinePrinter ∷ BaseCourier ∷ BaseLetterGothic ∷ Courier ∷ LetterGothic ∷ []

-- what selects a face
abbrev pub request_of : FaceRow → FontRequest
request_of row = record {
  symbol_set = symbol_set_of row.set;
  spacing = 0;
  pitch = (metrics_of row.cut).pitch;
  height = (metrics_of row.cut).height;
  style = style_of row.look * 10_000;
  weight = pos (weight_of row.look * 10_000);
  typeface = typeface_value row.typeface;
}

-- the face of an id
abbrev pub face_of : ℕ → FaceRow → Face
face_of id row = record {
  id = id;
  request = request_of row;
  advance = of_7200ths (metrics_of row.cut).advance;
  ascent = of_7200ths (metrics_of row.cut).ascent;
  descent = of_7200ths (metrics_of row.cut).descent;
  codes = codes_in row.set;
}

-- the faces of a cut, a look and a typeface in these sets
unfoldable pub in_sets : Cut → FaceLook → Typeface → List CharacterSet → List FaceRow
in_sets cut look typeface sets = map (λ set. record { set = set; cut = cut; look = look; typeface = typeface }) sets

-- the set that the panel has at the factory, and the one that it had in the other generation
abbrev pub panel_sets : Generation → List CharacterSet
panel_sets LaserJet4 = Roman8 ∷ Pc8 ∷ []
panel_sets LaserJet5 = Pc8 ∷ Roman8 ∷ []

abbrev pub text_sets : List CharacterSet
text_sets = Roman8 ∷ Pc8 ∷ Latin1 ∷ Windows ∷ Pc850 ∷ []

abbrev pub usual_sets : List CharacterSet
usual_sets = Roman8 ∷ Pc8 ∷ Windows ∷ []

abbrev pub oldest_sets : List CharacterSet
oldest_sets = Roman8 ∷ Pc8 ∷ []

-- Courier under both of its numbers
unfoldable pub courier : Cut → FaceLook → List CharacterSet → List FaceRow
courier cut look sets = in_sets cut look Courier sets ++ in_sets cut look BaseCourier sets

-- THE TABLE OF FACES, in the order of their ids, from 1 on: first those of Courier, and of these the usual ones
unfoldable pub usual_courier_faces : Generation → List FaceRow
usual_courier_faces generation =
    in_sets Ten Medium BaseCourier (panel_sets generation)
    ++ in_sets Ten Medium BaseCourier (Latin1 ∷ Windows ∷ Pc850 ∷ Ascii ∷ [])
    ++ in_sets Ten Medium Courier (text_sets ++ Ascii ∷ [])

unfoldable pub courier_faces : Generation → List FaceRow
courier_faces generation =
    usual_courier_faces generation
    ++ courier Ten Bold text_sets
    ++ courier Twelve Medium text_sets
    ++ courier Ten Italic usual_sets
    ++ courier Twelve Bold usual_sets

-- then those of Line Printer and Letter Gothic
unfoldable pub other_faces : List FaceRow
other_faces =
    in_sets Small Medium LinePrinter (Roman8 ∷ Pc8 ∷ Latin1 ∷ Pc850 ∷ [])
    ++ in_sets OldSmall Medium LinePrinter oldest_sets
    ++ in_sets Elite Medium LetterGothic text_sets
    ++ in_sets Elite Bold LetterGothic oldest_sets
    ++ in_sets Elite Medium BaseLetterGothic oldest_sets

unfoldable pub faces_of : Generation → List FaceRow
faces_of generation = courier_faces generation ++ other_faces

-- the face of an id among these rows, of which the first has id 1
abbrev pub face_numbered : List FaceRow → ℕ → Option Face
face_numbered rows id = if id == 0 then None else option_map (face_of id) (slice_get rows (id - 1))
