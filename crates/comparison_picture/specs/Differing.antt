-- Which marks of a page differ.
use Rattle.std.specs.Prelude.{ℕ, ◌-◌, ◌^◌, nat_lt, Bool, true, false, List, [], ◌∷◌, length, slice_set}
use Rattle.std.specs.Prelude.{if◌then◌else◌}
use Rattle.comparison.specs.declared.compare.Which.{Which}
use Rattle.comparison.specs.declared.compare.Which.TheVariants.{Old, New}
use Rattle.page_comparison.specs.declared.differences.PageChange.{PageChange}
use Rattle.page_comparison.specs.declared.differences.PageChange.TheVariants as changes
use Rattle.page_comparison.specs.declared.differences.PageDifference.{PageDifference}
use Rattle.page_comparison.specs.Pages.{MadeMark}

-- whether a mark of OLD differs by such a change
unfoldable pub has_old_mark : PageChange → Bool
has_old_mark changes.Moved = true
has_old_mark changes.Changed = true
has_old_mark changes.OnlyInOld = true
has_old_mark changes.OnlyInNew = false
has_old_mark changes.PageEnds = false
has_old_mark changes.PageOnlyInOld = false
has_old_mark changes.PageOnlyInNew = false
has_old_mark changes.Covers = true

-- whether one of NEW does
unfoldable pub has_new_mark : PageChange → Bool
has_new_mark changes.Moved = true
has_new_mark changes.Changed = true
has_new_mark changes.OnlyInOld = false
has_new_mark changes.OnlyInNew = true
has_new_mark changes.PageEnds = false
has_new_mark changes.PageOnlyInOld = false
has_new_mark changes.PageOnlyInNew = false
has_new_mark changes.Covers = true

-- the index of the mark of a job of which a difference tells; where it tells of none, one that no mark has
unfoldable pub index_of : Which → PageDifference → ℕ
index_of Old difference =
    if has_old_mark difference.change then difference.old_mark - 1 else 2 ^ 64 - 1
index_of New difference =
    if has_new_mark difference.change then difference.new_mark - 1 else 2 ^ 64 - 1

-- a flag for each mark, set where a difference tells of it
unfoldable pub flagged : Which → PageDifference → List Bool → List Bool
flagged which difference flags =
    let index = index_of which difference in
    if nat_lt index (length flags) then slice_set flags index true else flags

abbrev pub flagged_all : Which → List PageDifference → List Bool → List Bool
flagged_all which [] flags = flags
flagged_all which (difference ∷ differences) flags =
    flagged_all which differences (flagged which difference flags)

abbrev pub unflagged : List MadeMark → List Bool
unflagged [] = []
unflagged (mark ∷ marks) = false ∷ unflagged marks

-- which marks of a job's page differ, by the differences of the page
unfoldable pub differing : Which → List MadeMark → List PageDifference → List Bool
differing which marks differences = flagged_all which differences (unflagged marks)
