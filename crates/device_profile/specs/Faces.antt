-- The rows in which resident faces are described.
use Rattle.std.specs.Prelude.{ℕ, ℤ, pos, unsigned_abs, ◌+◌, ◌*◌, ◌%◌, List, [], ◌∷◌, length, Bool, true, not, ◌&&◌}
use Rattle.std.specs.Prelude.{◌||◌, ◌==◌, Option, find, nat_le, int_lt, int_le}
use Rattle.std.specs.Ordering.{int_eq}
use Rattle.std.specs.List.{list_all, list_any}
use Rattle.device_profile.specs.declared.font.CodeRange.{CodeRange}
use Rattle.device_profile.specs.declared.font.FontRequest.{FontRequest}
use Rattle.device_profile.specs.declared.field.Field.TheVariants.{Font}
use Rattle.device_profile.specs.Rows.{has_alike}
use Rattle.device_profile.specs.Values.{is_between, is_value}

-- A resident face: its id, the request that it answers, how far a character moves the cursor and how far it reaches
-- above and below the baseline, in ticks, and the codes that print.
pub record Face : Type 0 where
  pub id : ℕ
  pub request : FontRequest
  pub advance : ℤ
  pub ascent : ℤ
  pub descent : ℤ
  pub codes : List CodeRange

-- the two ask for the same in all seven parts
abbrev pub is_same_request : FontRequest → FontRequest → Bool
is_same_request a b =
    (a.symbol_set.number == b.symbol_set.number) && (a.symbol_set.letter == b.symbol_set.letter)
    && (a.spacing == b.spacing) && (a.pitch == b.pitch) && (a.height == b.height)
    && (a.style == b.style) && int_eq a.weight b.weight && (a.typeface == b.typeface)

-- the face that answers a request
unfoldable pub face_for : List Face → FontRequest → Option Face
face_for faces request = find (λ face. is_same_request face.request request) faces

-- the face of an id
unfoldable pub face_at : List Face → ℕ → Option Face
face_at faces id = find (λ face. face.id == id) faces

-- whether some face has this id
unfoldable pub has_face : List Face → ℕ → Bool
has_face faces id = list_any (λ face. face.id == id) faces

-- whether some face answers this request
unfoldable pub has_request : List Face → FontRequest → Bool
has_request faces request = list_any (λ face. is_same_request face.request request) faces

-- a character moves the cursor ahead, and reaches from the baseline up and down
abbrev pub has_metrics : Face → Bool
has_metrics face = int_lt (pos 0) face.advance && int_le (pos 0) face.ascent && int_le (pos 0) face.descent

-- a range begins at this code or behind it, and ends at 255 or before
abbrev pub is_range_from : ℕ → CodeRange → Bool
is_range_from least range = is_between least range.last range.first && nat_le range.last 255

-- each range begins behind the one before, the first at this code or behind it
abbrev pub are_ranges_from : ℕ → List CodeRange → Bool
are_ranges_from least [] = true
are_ranges_from least (range ∷ ranges) = is_range_from least range && are_ranges_from (range.last + 1) ranges

-- ten-thousandths of a whole number up to the most
abbrev pub is_whole_up_to : ℕ → ℕ → Bool
is_whole_up_to most n = (n % 10_000 == 0) && nat_le n (most * 10_000)

-- a capital letter but X
abbrev pub is_set_letter : ℕ → Bool
is_set_letter byte = is_between 65 87 byte || is_between 89 90 byte

-- a request that a job can send: each part is a value that its command takes
abbrev pub is_request : FontRequest → Bool
is_request request =
    is_whole_up_to 65_535 request.symbol_set.number && is_set_letter request.symbol_set.letter && (request.spacing == 0)
    && nat_le request.pitch 655_350_000 && nat_le request.height 655_350_000 && is_whole_up_to 65_535 request.style
    && is_whole_up_to 7 (unsigned_abs request.weight) && is_whole_up_to 65_535 request.typeface

-- the id is one that the panel may name, a job can send the request, the metrics are such, and the codes
-- stand in order from 33 on
abbrev pub is_face : Face → Bool
is_face face = is_value Font face.id && is_request face.request && has_metrics face && are_ranges_from 33 face.codes

-- at most 64 faces, no two of one id and no two that answer one request
abbrev pub are_faces : List Face → Bool
are_faces faces =
    nat_le (length faces) 64
    && not (has_alike (λ a b. a.id == b.id) faces)
    && not (has_alike (λ a b. is_same_request a.request b.request) faces)
    && list_all is_face faces

-- whether a code prints
abbrev pub has_code : List CodeRange → ℕ → Bool
has_code ranges code = list_any (λ range. nat_le range.first code && nat_le code range.last) ranges

-- whether a byte of text can go in a face with these codes: it is no control code, and is a space or prints
abbrev pub is_text_of : List CodeRange → ℕ → Bool
is_text_of ranges code = nat_le 32 code && (code == 32 || has_code ranges code)
