-- Marks at places of a page, cut to the area where they may lie.
use Rattle.std.specs.Prelude.{ℕ, unsigned_abs, ◌+◌, ◌-◌, ◌*◌, ◌/◌, min, max, nat_lt, nat_le, ◌&&◌, Bool, List, [], ◌++◌}
use Rattle.std.specs.Prelude.{map, take, if◌then◌else◌}
use Rattle.device_profile.specs.Faces.{Face, has_code}
use Rattle.test_sheet.specs.declared.area.Area.{Area}
use Rattle.test_sheet.specs.Commands.{move_to, rectangle}
use Rattle.test_sheet.specs.Dots.{dot}

-- ---- rules

-- from the first column and row to the last, where there is something between them
abbrev pub rule_between : (left top right bottom : ℕ) → List ℕ
rule_between left top right bottom =
    if nat_lt left right && nat_lt top bottom then move_to left top ++ rectangle (right - left) (bottom - top) else []

-- a rule with its upper left corner at a place
unfoldable pub rule_at : Area → (x y width height : ℕ) → List ℕ
rule_at area x y width height =
    rule_between (max area.left x) (max area.top y) (min area.right (x + width)) (min area.bottom (y + height))

-- ---- words

-- a byte where the face prints it, and else a space
abbrev pub shown : Face → ℕ → ℕ
shown face byte = if has_code face.codes byte then byte else 32

-- how many columns of a face there are from a place to the area's right edge
unfoldable pub columns_from : Area → Face → ℕ → ℕ
columns_from area face x = min 999 ((area.right - x) * dot / unsigned_abs face.advance)

-- as many bytes as there are columns
unfoldable pub words_from : Area → Face → ℕ → List ℕ → List ℕ
words_from area face x words = map (shown face) (take (columns_from area face x) words)

-- whether words may begin at a place: it lies in the area, and their characters in its height
unfoldable pub fits_at : Area → Face → ℕ → ℕ → Bool
fits_at area face x y =
    nat_le area.left x && nat_le x area.right && nat_le (area.top * dot + unsigned_abs face.ascent) (y * dot)
    && nat_le (y * dot + unsigned_abs face.descent) (area.bottom * dot)

-- words with their baseline at a place
unfoldable pub words_at : Area → Face → ℕ → ℕ → List ℕ → List ℕ
words_at area face x y words = if fits_at area face x y then move_to x y ++ words_from area face x words else []
