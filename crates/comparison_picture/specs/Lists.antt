-- The list of what differs on a page, beside its picture.
use Rattle.std.specs.Prelude.{ℕ, ◌-◌, nat_le, List, ◌++◌, codes, decimal, flat_map, length, take, if◌then◌else◌}
use Rattle.page_comparison.specs.declared.differences.PageChange.{PageChange}
use Rattle.page_comparison.specs.declared.differences.PageChange.TheVariants as changes
use Rattle.page_comparison.specs.declared.differences.PageDifference.{PageDifference}
use Rattle.comparison_picture.specs.declared.lists.ListForm.{ListForm}
use Rattle.comparison_picture.specs.declared.lists.ListForm.TheVariants.{Lines, Rows}

-- what differs, in words
unfoldable pub change_name : PageChange → List ℕ
change_name changes.Moved = codes "moved"
change_name changes.Changed = codes "changed"
change_name changes.OnlyInOld = codes "only in OLD"
change_name changes.OnlyInNew = codes "only in NEW"
change_name changes.PageEnds = codes "page ends otherwise"
change_name changes.PageOnlyInOld = codes "page only in OLD"
change_name changes.PageOnlyInNew = codes "page only in NEW"
change_name changes.Covers = codes "covered otherwise"

-- ---- lines of an SVG

-- the number of OLD's mark, and where its item stands
unfoldable pub old_places : PageDifference → List ℕ
old_places difference =
    codes "</tspan><tspan class=\"old\" x=\"150\">mark " ++ decimal difference.old_mark ++ codes ", byte "
    ++ decimal difference.old_place

-- the same of NEW
unfoldable pub new_places : PageDifference → List ℕ
new_places difference =
    codes "</tspan><tspan class=\"new\" x=\"310\">mark " ++ decimal difference.new_mark ++ codes ", byte "
    ++ decimal difference.new_place ++ codes "</tspan>\n"

unfoldable pub line_text : PageDifference → List ℕ
line_text difference =
    codes "<tspan x=\"10\" dy=\"17\">" ++ change_name difference.change ++ old_places difference
    ++ new_places difference

-- so many more
unfoldable pub more_lines : ℕ → List ℕ
more_lines count = codes "<tspan x=\"10\" dy=\"17\">and " ++ decimal count ++ codes " more</tspan>\n"

-- ---- rows of a table

unfoldable pub old_cells : PageDifference → List ℕ
old_cells difference =
    codes "</td><td class=\"old\">" ++ decimal difference.old_mark ++ codes "</td><td class=\"old\">"
    ++ decimal difference.old_place

unfoldable pub new_cells : PageDifference → List ℕ
new_cells difference =
    codes "</td><td class=\"new\">" ++ decimal difference.new_mark ++ codes "</td><td class=\"new\">"
    ++ decimal difference.new_place ++ codes "</td></tr>\n"

unfoldable pub row_text : PageDifference → List ℕ
row_text difference =
    codes "<tr><td>" ++ change_name difference.change ++ old_cells difference ++ new_cells difference

unfoldable pub more_rows : ℕ → List ℕ
more_rows count = codes "<tr><td colspan=\"5\">and " ++ decimal count ++ codes " more</td></tr>\n"

-- ---- in one of both forms

unfoldable pub told_in : ListForm → PageDifference → List ℕ
told_in Lines difference = line_text difference
told_in Rows difference = row_text difference

unfoldable pub more_text : ListForm → ℕ → List ℕ
more_text Lines count = more_lines count
more_text Rows count = more_rows count

abbrev pub told_all : ListForm → List PageDifference → List ℕ
told_all form differences = flat_map (told_in form) differences

-- of many the first ones, and how many there are behind them
unfoldable pub list_text : ListForm → (most : ℕ) → List PageDifference → List ℕ
list_text form most differences =
    if nat_le (length differences) most then told_all form differences
    else told_all form (take most differences) ++ more_text form (length differences - most)
