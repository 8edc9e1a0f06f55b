-- A page to which a ruler is laid:
-- rules at the edges of the area, columns and lines, and how far they have to be from the paper's edges.
use Rattle.std.specs.Prelude.{ℕ, zero, suc, unsigned_abs, ◌+◌, ◌-◌, ◌*◌, ◌/◌, ◌%◌, ◌==◌, ◌&&◌, nat_le, Bool, List, []}
use Rattle.std.specs.Prelude.{◌∷◌, ◌++◌, codes, decimal, flat_map, if◌then◌else◌}
use Rattle.std.specs.List.{list_any}
use Rattle.device_profile.specs.declared.geometry.Geometry.{Geometry}
use Rattle.device_profile.specs.Faces.{Face}
use Rattle.shown_bytes.specs.Decimals.{digit}
use Rattle.test_sheet.specs.declared.area.Area.{Area}
use Rattle.test_sheet.specs.Area.{area_of}
use Rattle.test_sheet.specs.Commands.{page_request, font_request, move_to, move_across, line_down, form_feed}
use Rattle.test_sheet.specs.Dots.{dot, nearest_dots}
use Rattle.test_sheet.specs.Figures.{amount, millimetres}
use Rattle.test_sheet.specs.Lines.{baseline, indent, line_top, words_on}
use Rattle.test_sheet.specs.Marks.{columns_from, fits_at, rule_at, words_at, words_from}
use Rattle.test_sheet.specs.OwnPage.{numbered, numbers}

-- ---- rules at the edges

-- rules of two dots along the four edges of the area
unfoldable pub edge_rules : Area → List ℕ
edge_rules area =
    rule_at area area.left area.top (area.right - area.left) 2
    ++ rule_at area area.left (area.bottom - 2) (area.right - area.left) 2
    ++ rule_at area area.left area.top 2 (area.bottom - area.top)
    ++ rule_at area (area.right - 2) area.top 2 (area.bottom - area.top)

-- how far the outer sides of these rules are from the paper's edges, in ticks
abbrev pub top_distance : Geometry → ℕ
top_distance page = unsigned_abs page.logical_top + (area_of page).top * dot

abbrev pub bottom_distance : Geometry → ℕ
bottom_distance page = unsigned_abs page.page_height - (unsigned_abs page.logical_top + (area_of page).bottom * dot)

abbrev pub left_distance : Geometry → ℕ
left_distance page = unsigned_abs page.logical_left + (area_of page).left * dot

abbrev pub right_distance : Geometry → ℕ
right_distance page = unsigned_abs page.page_width - (unsigned_abs page.logical_left + (area_of page).right * dot)

-- ---- what it has to be

unfoldable pub size_words : Geometry → List ℕ
size_words page = codes "Size " ++ decimal page.size ++ codes ", orientation " ++ decimal page.orientation

unfoldable pub paper_words : Geometry → List ℕ
paper_words page =
    codes "Paper " ++ millimetres (unsigned_abs page.page_width)
    ++ codes " by " ++ millimetres (unsigned_abs page.page_height) ++ codes " mm"

-- how far a rule is from the paper's edge
unfoldable pub inside_words : ℕ → List ℕ
inside_words distance = millimetres distance ++ codes " mm, " ++ decimal (nearest_dots distance) ++ codes " dots inside"

-- the rule, by its edge, and how far it is from there
unfoldable pub edge_words : List ℕ → ℕ → List ℕ
edge_words edge distance = edge ++ codes " rule " ++ inside_words distance

unfoldable pub edge_lines : Area → Face → Geometry → List ℕ
edge_lines area face page =
    words_on area face 3 (edge_words (codes "Top") (top_distance page))
    ++ words_on area face 4 (edge_words (codes "Bottom") (bottom_distance page))
    ++ words_on area face 5 (edge_words (codes "Left") (left_distance page))
    ++ words_on area face 6 (edge_words (codes "Right") (right_distance page))

-- ---- columns

-- the last digit of each column's number, from 1 on; and at each tenth one the number of tens
abbrev pub column_digits : ℕ → List ℕ
column_digits zero = []
column_digits (suc columns) = column_digits columns ++ digit (suc columns) ∷ []

abbrev pub tens_digit : ℕ → ℕ
tens_digit column = if column % 10 == 0 then digit (column / 10) else 32

abbrev pub column_tens : ℕ → List ℕ
column_tens zero = []
column_tens (suc columns) = column_tens columns ++ tens_digit (suc columns) ∷ []

unfoldable pub column_words : Face → ℕ → List ℕ
column_words face columns = decimal columns ++ codes " columns, " ++ amount face.request.pitch ++ codes " to the inch"

-- from edge to edge of the area
abbrev pub column_count : Area → Face → ℕ
column_count area face = columns_from area face area.left

unfoldable pub column_lines : Area → Face → List ℕ
column_lines area face =
    words_at area face area.left (baseline area face 7) (column_tens (column_count area face))
    ++ words_at area face area.left (baseline area face 8) (column_digits (column_count area face))
    ++ words_on area face 9 (column_words face (column_count area face))

-- ---- ten lines

-- one line down from the one before, which is 1/6 inch under the VMI of the page
unfoldable pub spaced_line : Area → Face → ℕ → List ℕ
spaced_line area face n = line_down ++ move_across (indent area) ++ words_from area face (indent area) (numbered n)

-- how far the rules are apart
abbrev pub distance_words : List ℕ
distance_words = codes "Rule to rule 42.3 mm"

-- two rules that are 500 dots apart, from a place down, and how far that is
unfoldable pub ten_rules : Area → Face → ℕ → List ℕ
ten_rules area face y =
    rule_at area (indent area) y 300 2
    ++ rule_at area (indent area) (y + 500) 300 2
    ++ words_at area face (indent area + 330) (y + 40) distance_words

-- whether there is room for ten lines between them
unfoldable pub has_ten_lines : Area → Face → ℕ → Bool
has_ten_lines area face y =
    fits_at area face (indent area) (y + 40) && fits_at area face (indent area) (y + 490)
    && nat_le (y + 502) area.bottom

-- the rules and the lines, where there is
unfoldable pub ten_lines : Area → Face → ℕ → List ℕ
ten_lines area face y =
    if has_ten_lines area face y
    then ten_rules area face y ++ move_to (indent area) (y - 10) ++ flat_map (spaced_line area face) numbers
    else []

-- ---- the page

-- which page it is, and how large
unfoldable pub page_words : Area → Face → Geometry → List ℕ
page_words area face page = words_on area face 1 (size_words page) ++ words_on area face 2 (paper_words page)

-- its settings, its rules and what it is
unfoldable pub page_head : List ℕ → Face → Geometry → List ℕ
page_head name face page =
    page_request page.size page.orientation
    ++ font_request face.request
    ++ edge_rules (area_of page)
    ++ words_on (area_of page) face 0 name
    ++ page_words (area_of page) face page

unfoldable pub measured_page : List ℕ → Face → Geometry → List ℕ
measured_page name face page =
    page_head name face page
    ++ edge_lines (area_of page) face page
    ++ column_lines (area_of page) face
    ++ ten_lines (area_of page) face (line_top (area_of page) face 10)
    ++ form_feed

-- the pages of the sizes that the panel may have, in portrait and landscape
abbrev pub is_measured : List ℕ → Geometry → Bool
is_measured sizes page = list_any (λ size. size == page.size) sizes && nat_le page.orientation 1

unfoldable pub measured_part : List ℕ → Face → List ℕ → Geometry → List ℕ
measured_part name face sizes page = if is_measured sizes page then measured_page name face page else []

unfoldable pub measured_pages : List ℕ → Face → List ℕ → List Geometry → List ℕ
measured_pages name face sizes pages = flat_map (measured_part name face sizes) pages
