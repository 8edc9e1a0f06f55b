-- Which letters of the faces a character is.
use Rattle.std.specs.Prelude.{ℕ, ◌+◌, ◌==◌, ◌&&◌, nat_le, nat_lt, Bool, if◌then◌else◌, List, codes, Option}
use Rattle.std.specs.Prelude.{None, Some}
use Rattle.std.specs.List.{position}
use Rattle.std.specs.Option.{option_and_then}
use Rattle.device_profile.specs.declared.font.FontRequest.{FontRequest}
use Rattle.page_picture.specs.declared.characters.Repertoire.{Repertoire}
use Rattle.page_picture.specs.declared.characters.Repertoire.TheVariants.{Pc8, Pc850}
use Rattle.page_picture.specs.declared.characters.TheConstants.{WINDOWS_FROM_128}
use Rattle.page_picture.specs.Marks.{is_bold, is_italic}

-- where a character stands in a table
abbrev pub place_of : List ℕ → ℕ → Option ℕ
place_of table character = position (λ entry. entry == character) table

-- the code of what stands at a place of the table of Windows Latin 1, which has 32
abbrev pub code_at : ℕ → Option ℕ
code_at place = if nat_lt place 32 then Some (128 + place) else None

-- the code of a character that stands there; the faces are coded so
unfoldable pub windows_letter : ℕ → Option ℕ
windows_letter character = option_and_then code_at (place_of WINDOWS_FROM_128 character)

-- the code of a character, where the faces have it: most have their own numbers
unfoldable pub letter_of : ℕ → Option ℕ
letter_of character =
    if nat_le 32 character && nat_le character 126 then Some character
    else (if nat_le 160 character && nat_le character 255 then Some character else windows_letter character)

abbrev pub upright_or_italic : (upright italic : List ℕ) → (is_italic : Bool) → List ℕ
upright_or_italic upright italic is_italic = if is_italic then italic else upright

-- the face by stroke weight and posture
unfoldable pub face_name : FontRequest → List ℕ
face_name request =
    if is_bold request.weight then upright_or_italic (codes "F2") (codes "F4") (is_italic request.style)
    else upright_or_italic (codes "F1") (codes "F3") (is_italic request.style)

-- the face of characters that do not show, by their symbol set: the others have none that the faces have not
abbrev pub hidden_name_of : Repertoire → List ℕ
hidden_name_of Pc8 = codes "G1"
hidden_name_of Pc850 = codes "G2"
hidden_name_of _ = codes "G3"

unfoldable pub hidden_name : Option Repertoire → List ℕ
hidden_name None = codes "G3"
hidden_name (Some repertoire) = hidden_name_of repertoire
