-- The differences that are told of marks that are left out.
use Rattle.std.specs.Prelude.{ℕ, ◌+◌, List, [], ◌∷◌, ◌++◌, if◌then◌else◌}
use Rattle.sinks.specs.Counts.{capped}
use Rattle.page_comparison.specs.declared.differences.PageChange.{PageChange}
use Rattle.page_comparison.specs.declared.differences.PageChange.TheVariants.{OnlyInOld, OnlyInNew}
use Rattle.page_comparison.specs.declared.differences.PageDifference.{PageDifference}
use Rattle.page_comparison.specs.declared.standing.Standing.{Standing}
use Rattle.page_comparison.specs.Marks.{changed, is_near_mark}
use Rattle.page_comparison.specs.Pages.{MadeMark}

-- a difference where two pages stand, of items at these places
abbrev pub difference_at : Standing → (old_place new_place : ℕ) → PageChange → PageDifference
difference_at at old_place new_place change = record {
  page = at.page;
  old_mark = at.old_mark;
  new_mark = at.new_mark;
  old_place = old_place;
  new_place = new_place;
  change = change;
}

-- before the first marks of a page
abbrev pub first_standing : ℕ → Standing
first_standing page = record { page = page; old_mark = 1; new_mark = 1 }

-- behind so many marks of OLD, and so many of NEW
abbrev pub behind : (old new : ℕ) → Standing → Standing
behind old new at =
    record { page = at.page; old_mark = capped (at.old_mark + old); new_mark = capped (at.new_mark + new) }

-- where the item of the next mark stands, or what ends the page
abbrev pub next_place : ℕ → List MadeMark → ℕ
next_place end [] = end
next_place end (mark ∷ marks) = mark.place

-- these marks are only in OLD; in NEW the next item stands at this place
abbrev pub only_old : ℕ → Standing → List MadeMark → List PageDifference
only_old new_place at [] = []
only_old new_place at (a ∷ old) =
    difference_at at a.place new_place OnlyInOld ∷ only_old new_place (behind 1 0 at) old

abbrev pub only_new : ℕ → Standing → List MadeMark → List PageDifference
only_new old_place at [] = []
only_new old_place at (b ∷ new) =
    difference_at at old_place b.place OnlyInNew ∷ only_new old_place (behind 0 1 at) new

-- marks that are left out and stand side by side: nothing is told of near ones
abbrev pub pair_told : (within : ℕ) → Standing → (a b : MadeMark) → List PageDifference
pair_told within at a b =
    if is_near_mark within a b then [] else difference_at at a.place b.place (changed a b) ∷ []

-- These marks are left out of both pages, and behind them the next items stand at these places: they are told pair by
-- pair, and then those that one page has more.
abbrev pub left_out : (within old_place new_place : ℕ) → Standing → List MadeMark → List MadeMark → List PageDifference
left_out within old_place new_place at [] new = only_new old_place at new
left_out within old_place new_place at (a ∷ old) [] = only_old new_place at (a ∷ old)
left_out within old_place new_place at (a ∷ old) (b ∷ new) =
    pair_told within at a b ++ left_out within old_place new_place (behind 1 1 at) old new
