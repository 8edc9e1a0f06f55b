-- The page that sets nothing: it shows what the panel has.
use Rattle.std.specs.Prelude.{ℕ, unsigned_abs, ◌+◌, ◌-◌, ◌*◌, ◌==◌, ◌&&◌, nat_le, min, Bool, List, [], ◌∷◌, ◌++◌, codes}
use Rattle.std.specs.Prelude.{decimal, flat_map, map, take, replicate, if◌then◌else◌}
use Rattle.std.specs.Int.{div_ceil}
use Rattle.tick_length.specs.Measures.{ticks_per_half_inch}
use Rattle.device_profile.specs.declared.geometry.Geometry.{Geometry}
use Rattle.device_profile.specs.declared.panel.Panel.{Panel}
use Rattle.device_profile.specs.Faces.{Face}
use Rattle.test_sheet.specs.declared.area.Area.{Area}
use Rattle.test_sheet.specs.Area.{area_of}
use Rattle.test_sheet.specs.Commands.{form_feed}
use Rattle.test_sheet.specs.Dots.{dot}
use Rattle.test_sheet.specs.Marks.{columns_from, shown}

-- ---- its place

-- the first baseline under a VMI:
-- 3/4 of it below the top margin, of which a ten-thousandth of 1/48 inch has 76,200 ticks
abbrev pub first_baseline : ℕ → ℕ
first_baseline vmi = ticks_per_half_inch + vmi * 57_150

-- the one behind its fourteen lines, where the cursor stands as the page ends
abbrev pub baseline_behind : ℕ → ℕ
baseline_behind vmi = first_baseline vmi + 14 * (vmi * 76_200)

-- the last one that there may be
abbrev pub last_baseline : Geometry → ℕ
last_baseline page = unsigned_abs page.logical_height - ticks_per_half_inch

-- whether its lines go on one page, and lines of the face, from the first baseline to the last, lie in the area
unfoldable pub has_own_lines : Geometry → Area → Face → ℕ → Bool
has_own_lines page area face vmi =
    nat_le (area.top * dot + unsigned_abs face.ascent) (first_baseline vmi)
    && nat_le (baseline_behind vmi) (last_baseline page)
    && nat_le (last_baseline page + unsigned_abs face.descent) (area.bottom * dot)

-- ---- its lines

-- what ends a line and begins the next under a line termination: 1 and 3 feed a line at each CR, 2 returns at each LF
abbrev pub line_end : ℕ → List ℕ
line_end termination =
    if termination == 0 then 13 ∷ 10 ∷ [] else (if termination == 2 then 10 ∷ [] else 13 ∷ [])

-- the columns at the left that are not in the area
unfoldable pub blank_columns : Area → Face → ℕ
blank_columns area face = min 999 (div_ceil (area.left * dot) (unsigned_abs face.advance))

-- words behind them, as many as there are columns
unfoldable pub own_line : Area → Face → ℕ → List ℕ → List ℕ
own_line area face termination words =
    replicate (blank_columns area face) 32
    ++ map (shown face) (take (columns_from area face 0 - blank_columns area face) words) ++ line_end termination

-- ---- numbered lines

abbrev pub numbers : List ℕ
numbers = 1 ∷ 2 ∷ 3 ∷ 4 ∷ 5 ∷ 6 ∷ 7 ∷ 8 ∷ 9 ∷ 10 ∷ []

abbrev pub numbered : ℕ → List ℕ
numbered n = codes "Line " ++ decimal n

-- a line of its number
unfoldable pub numbered_line : Area → Face → ℕ → ℕ → List ℕ
numbered_line area face termination n = own_line area face termination (numbered n)

-- ---- the page

-- what it is
unfoldable pub own_words : List ℕ → Area → Face → ℕ → List ℕ
own_words name area face termination =
    own_line area face termination (codes "This page sets nothing: its paper,")
    ++ own_line area face termination (codes "font and lines are the panel's.")
    ++ own_line area face termination name

unfoldable pub own_lines : List ℕ → Area → Face → ℕ → List ℕ
own_lines name area face termination =
    own_words name area face termination
    ++ own_line area face termination (codes "Ten lines:")
    ++ flat_map (numbered_line area face termination) numbers
    ++ form_feed

unfoldable pub own_page : List ℕ → Geometry → Face → Panel → List ℕ
own_page name page face panel =
    if has_own_lines page (area_of page) face panel.vmi
    then own_lines name (area_of page) face panel.line_termination
    else []
