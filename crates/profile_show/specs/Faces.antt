-- What is shown of the resident faces.
use Rattle.std.specs.Prelude.{ℕ, ℤ, ◌==◌, ◌&&◌, Bool, false, if◌then◌else◌, List, [], ◌∷◌, ◌++◌, flat_map, Option, None}
use Rattle.std.specs.Prelude.{Some, decimal, codes}
use Rattle.std.specs.Ordering.{int_eq}
use Rattle.std.specs.Option.{option_map_or}
use Rattle.device_profile.specs.declared.font.CodeRange.{CodeRange}
use Rattle.device_profile.specs.declared.font.FontRequest.{FontRequest}
use Rattle.device_profile.specs.Faces.{Face}
use Rattle.profile_show.specs.Figures.{in_7200ths}
use Rattle.profile_show.specs.declared.label.Label.{Label}
use Rattle.profile_show.specs.declared.label.Label.TheVariants.{Advance, Ascent, Descent, Per7200}
use Rattle.profile_show.specs.Label.{label}
use Rattle.profile_show.specs.Words.{set_words, cut_words}

-- the requests are of one cut: alike in all that selects a font but the symbol set; the spacing of all is fixed
abbrev pub is_same_cut : FontRequest → FontRequest → Bool
is_same_cut a b =
    (a.typeface == b.typeface) && (a.style == b.style) && int_eq a.weight b.weight && (a.pitch == b.pitch)
    && (a.height == b.height)

-- the faces share a heading: they are of one cut, and their characters lie alike
unfoldable pub is_alike : Face → Face → Bool
is_alike a b =
    is_same_cut a.request b.request
    && int_eq a.advance b.advance && int_eq a.ascent b.ascent && int_eq a.descent b.descent

-- a length of a character
unfoldable pub metric : Label → ℤ → List ℕ
metric name length = label name ++ in_7200ths length

-- how far a character moves the cursor and reaches up and down
unfoldable pub metrics_line : Face → List ℕ
metrics_line face =
    metric Advance face.advance ++ metric Ascent face.ascent ++ metric Descent face.descent ++ label Per7200

unfoldable pub heading_lines : Face → List ℕ
heading_lines face = codes "  " ++ cut_words face.request ++ codes "\n" ++ metrics_line face

-- a face has no heading of its own where it shares that of the one before it
unfoldable pub heading_behind : Option Face → Face → List ℕ
heading_behind last_face face = if option_map_or (is_alike face) last_face false then [] else heading_lines face

-- codes from the first to the last
unfoldable pub range_words : CodeRange → List ℕ
range_words range = decimal range.first ++ codes "-" ++ decimal range.last

-- another range behind it
unfoldable pub other_range : CodeRange → List ℕ
other_range range = codes "," ++ range_words range

abbrev pub ranges_words : List CodeRange → List ℕ
ranges_words [] = codes "none"
ranges_words (range ∷ more) = range_words range ++ flat_map other_range more

-- the id of a face, and its symbol set
unfoldable pub face_words : Face → List ℕ
face_words face = codes "    face " ++ decimal face.id ++ codes ", " ++ set_words face.request.symbol_set

-- and the codes that print
unfoldable pub set_line : Face → List ℕ
set_line face = face_words face ++ codes ": " ++ ranges_words face.codes ++ codes "\n"

unfoldable pub face_lines : Option Face → Face → List ℕ
face_lines last_face face = heading_behind last_face face ++ set_line face

-- the lines of faces behind another
abbrev pub lines_behind : Option Face → List Face → List ℕ
lines_behind last_face [] = []
lines_behind last_face (face ∷ more) = face_lines last_face face ++ lines_behind (Some face) more

unfoldable pub faces_lines : List Face → List ℕ
faces_lines faces = codes "faces:\n" ++ lines_behind None faces
