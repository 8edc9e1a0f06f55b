-- Pages with a line for each face.
use Rattle.std.specs.Prelude.{ℕ, ◌+◌, ◌-◌, ◌/◌, ◌%◌, ◌==◌, min, max, List, [], ◌∷◌, ◌++◌, codes, decimal, flat_map}
use Rattle.std.specs.Prelude.{if◌then◌else◌}
use Rattle.std.specs.List.{enumerate_from}
use Rattle.device_profile.specs.declared.font.CodeRange.{CodeRange}
use Rattle.device_profile.specs.declared.font.FontRequest.{FontRequest}
use Rattle.device_profile.specs.declared.geometry.Geometry.{Geometry}
use Rattle.device_profile.specs.Faces.{Face}
use Rattle.shown_bytes.specs.Lettered.{lettered}
use Rattle.test_sheet.specs.declared.area.Area.{Area}
use Rattle.test_sheet.specs.Area.{area_of, left_half, right_half}
use Rattle.test_sheet.specs.Commands.{page_request, font_request, form_feed}
use Rattle.test_sheet.specs.Figures.{amount, signed_amount}
use Rattle.test_sheet.specs.Lines.{baseline, indent, line_height, words_on}
use Rattle.test_sheet.specs.Marks.{words_at}

-- how many faces go on a page, below its heading and above the last line: one at least
unfoldable pub faces_on : Area → Face → ℕ
faces_on area first = max 1 (min 98 ((area.bottom - (area.top + 12)) / line_height first - 2))

-- the line of a face on its page, by how many faces come before it
abbrev pub line_of : ℕ → ℕ → ℕ
line_of count index = 1 + index % count

-- so many ten-thousandths behind a space
abbrev pub amount_word : ℕ → List ℕ
amount_word n = 32 ∷ amount n

-- the symbol set of a font, its pitch and its height, and what else selects it; each part behind a space
unfoldable pub cut_words : FontRequest → List ℕ
cut_words request =
    32 ∷ lettered request.symbol_set.number request.symbol_set.letter ++ amount_word request.pitch
    ++ amount_word request.height

unfoldable pub look_words : FontRequest → List ℕ
look_words request = amount_word request.style ++ 32 ∷ signed_amount request.weight ++ amount_word request.typeface

-- a face in words: its id, and what selects it
unfoldable pub face_words : Face → List ℕ
face_words face = decimal face.id ++ cut_words face.request ++ look_words face.request

-- letters and figures, and the ends of the ranges of its codes
unfoldable pub ends_of : CodeRange → List ℕ
ends_of range = range.first ∷ range.last ∷ []

unfoldable pub sample_words : Face → List ℕ
sample_words face = codes "ABCxyz019 " ++ flat_map ends_of face.codes

-- its words in the first face at the left, and letters of its own at the right
unfoldable pub face_line : Area → Face → ℕ → Face → List ℕ
face_line area first line face =
    words_on (left_half area) first line (face_words face)
    ++ font_request face.request
    ++ words_at (right_half area) face (indent (right_half area)) (baseline area first line) (sample_words face)
    ++ font_request first.request

-- what begins a page, which ends the one before it
abbrev pub heading : Area → Face → ℕ → List ℕ
heading area first index =
    (if index == 0 then [] else form_feed)
    ++ words_on area first 0 (codes "Face, set, pitch, height, style, weight, typeface")

-- the line of a face, behind a heading where it is the first of its page
unfoldable pub face_entry : Area → Face → ℕ → Face → List ℕ
face_entry area first index face =
    let count : ℕ = faces_on area first in
    (if index % count == 0 then heading area first index else [])
    ++ face_line area first (line_of count index) face

abbrev pub face_entries : Area → Face → List Face → List ℕ
face_entries area first faces = flat_map (λ entry. face_entry area first entry.0 entry.1) (enumerate_from 0 faces)

-- the last line of the sheet, at the foot of its page: a sheet without it is not whole
abbrev pub last_line : Area → Face → List ℕ
last_line area first = words_on area first (1 + faces_on area first) (codes "END OF SHEET")

unfoldable pub face_pages : Geometry → Face → List Face → List ℕ
face_pages page first faces =
    page_request page.size page.orientation
    ++ font_request first.request
    ++ face_entries (area_of page) first faces
    ++ last_line (area_of page) first
