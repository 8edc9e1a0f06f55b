-- Faces whose numbers do not fit their pitch, or are not those of the table of faces.
use Rattle.std.specs.Prelude.{ℕ, ◌+◌, ◌*◌, ◌/◌, ◌==◌, ◌&&◌, nat_le, Bool, if◌then◌else◌, List, [], ◌∷◌, ◌++◌, find}
use Rattle.std.specs.Cmp.Lexicographic.{pointwise}
use Rattle.std.specs.Option.{option_map_or}
use Rattle.std.specs.Ordering.{int_eq}
use Rattle.device_profile.specs.declared.font.CodeRange.{CodeRange}
use Rattle.device_profile.specs.declared.font.FontRequest.{FontRequest}
use Rattle.device_profile.specs.Faces.{Face}
use Rattle.device_profile.specs.Rows.{of_7200ths}
use Rattle.printer_models.specs.declared.face.FaceRow.{FaceRow}
use Rattle.printer_models.specs.declared.face.Metrics.{Metrics}
use Rattle.printer_models.specs.Face.{codes_in, metrics_of, request_of}
use Rattle.profile_lint.specs.declared.hint.Hint.{Hint}
use Rattle.profile_lint.specs.declared.hint.Hint.TheVariants.{OddAdvance, OtherNumbers, OtherCodes}
use Rattle.profile_lint.specs.PageHints.{units_in}

-- an advance of so many 7200ths of an inch is 7200 through the pitch, within 1; pitches count ten-thousandths
abbrev pub fits_pitch : ℕ → ℕ → Bool
fits_pitch pitch advance = nat_le (advance * pitch) (72_000_000 + pitch) && nat_le 72_000_000 (advance * pitch + pitch)

-- 7200 through the pitch, to the nearest
abbrev pub advance_by : ℕ → ℕ
advance_by pitch = if pitch == 0 then 0 else (72_000_000 + pitch / 2) / pitch

unfoldable pub advance_hints : Face → List Hint
advance_hints face =
    if fits_pitch face.request.pitch (units_in face.advance) then []
    else OddAdvance face.id face.request.pitch (units_in face.advance) ∷ []

-- a row of the table is of the pitch, the height and the typeface that are asked for
abbrev pub has_cut : FontRequest → FaceRow → Bool
has_cut request row =
    ((request_of row).pitch == request.pitch) && ((request_of row).height == request.height)
    && ((request_of row).typeface == request.typeface)

-- and of the symbol set
abbrev pub has_set : FontRequest → FaceRow → Bool
has_set request row =
    has_cut request row && ((request_of row).symbol_set.number == request.symbol_set.number)
    && ((request_of row).symbol_set.letter == request.symbol_set.letter)

-- a face has the numbers of the table
abbrev pub has_numbers : Metrics → Face → Bool
has_numbers metrics face =
    int_eq face.advance (of_7200ths metrics.advance) && int_eq face.ascent (of_7200ths metrics.ascent)
    && int_eq face.descent (of_7200ths metrics.descent)

unfoldable pub number_hints : List FaceRow → Face → List Hint
number_hints rows face =
    option_map_or (λ row. if has_numbers (metrics_of row.cut) face then []
    else OtherNumbers face.id (units_in face.advance) (units_in face.ascent) (units_in face.descent) row.cut ∷ [])
    (find (has_cut face.request) rows) []

abbrev pub is_same_range : CodeRange → CodeRange → Bool
is_same_range a b = (a.first == b.first) && (a.last == b.last)

-- the ranges are the same one by one
abbrev pub are_same_codes : List CodeRange → List CodeRange → Bool
are_same_codes a b = pointwise is_same_range a b

unfoldable pub code_hints : List FaceRow → Face → List Hint
code_hints rows face =
    option_map_or (λ row. if are_same_codes face.codes (codes_in row.set) then [] else OtherCodes face.id row.set ∷ [])
    (find (has_set face.request) rows) []

unfoldable pub face_hints : List FaceRow → Face → List Hint
face_hints rows face = advance_hints face ++ number_hints rows face ++ code_hints rows face
