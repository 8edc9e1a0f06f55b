-- Bytes as they stand in a text of HTML.
use Rattle.std.specs.Prelude.{ℕ, ◌==◌, ◌&&◌, ◌||◌, not, nat_le, if◌then◌else◌, Bool, true, List, [], ◌∷◌, flat_map}
use Rattle.std.specs.Prelude.{codes}

abbrev pub is_between : (first last b : ℕ) → Bool
is_between first last b = nat_le first b && nat_le b last

-- the end of a line, what shows in ASCII, and the bytes of letters behind ASCII
abbrev pub is_kept : ℕ → Bool
is_kept b = (b == 10 || is_between 32 126 b) || nat_le 128 b

-- for a byte that shows nothing the replacement character stands, since HTML takes no control codes
abbrev pub kept_byte : ℕ → List ℕ
kept_byte b = if is_kept b then b ∷ [] else codes "&#65533;"

-- Quotes, `&`, `<` and `>` by their names, so that nothing of a text begins or ends a tag, an attribute or a reference.
unfoldable pub html_byte : ℕ → List ℕ
html_byte b =
    if b == 34 then codes "&quot;" else (if b == 38 then codes "&amp;" else (if b == 39 then codes "&#39;" else
    (if b == 60 then codes "&lt;" else (if b == 62 then codes "&gt;" else kept_byte b))))

-- a text of UTF-8, whatever it holds
abbrev pub html_text : List ℕ → List ℕ
html_text text = flat_map html_byte text

-- neither a quote nor `<` nor `>`
abbrev pub is_inert : ℕ → Bool
is_inert b = not (((b == 34 || b == 39) || b == 60) || b == 62)

abbrev pub are_inert : List ℕ → Bool
are_inert [] = true
are_inert (b ∷ text) = is_inert b && are_inert text
