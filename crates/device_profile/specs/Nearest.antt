-- Which resident face is nearest to a font that is asked for.
use Rattle.std.specs.Prelude.{ℕ, ◌+◌, ◌==◌, ◌&&◌, nat_lt, Bool, List, [], ◌∷◌, Option, None, Some, if◌then◌else◌}
use Rattle.std.specs.Ordering.{int_eq}
use Rattle.device_profile.specs.declared.font.FontRequest.{FontRequest}
use Rattle.device_profile.specs.Faces.{Face}

abbrev pub part : Bool → ℕ
part met = if met then 1 else 0

abbrev pub is_same_set : FontRequest → FontRequest → Bool
is_same_set a b = (a.symbol_set.number == b.symbol_set.number) && (a.symbol_set.letter == b.symbol_set.letter)

-- in how many of the seven parts the two are the same
unfoldable pub parts_met : FontRequest → FontRequest → ℕ
parts_met a b =
    part (is_same_set a b) + part (a.spacing == b.spacing) + part (a.pitch == b.pitch) + part (a.height == b.height)
    + part (a.style == b.style) + part (int_eq a.weight b.weight) + part (a.typeface == b.typeface)

-- what is nearer to a request: this, unless the other is the same in more parts
abbrev pub nearer : (request : FontRequest) → Option FontRequest → (other : FontRequest) → FontRequest
nearer request None other = other
nearer request (Some this) other =
    if nat_lt (parts_met this request) (parts_met other request) then other else this

-- the nearest of faces, where this is the nearest so far
abbrev pub nearest_from : (request : FontRequest) → Option FontRequest → List Face → Option FontRequest
nearest_from request nearest [] = nearest
nearest_from request nearest (face ∷ faces) = nearest_from request (Some (nearer request nearest face.request)) faces

-- the request of the face that meets most of the parts, of several the first
abbrev pub nearest_request : List Face → FontRequest → Option FontRequest
nearest_request faces request = nearest_from request None faces
