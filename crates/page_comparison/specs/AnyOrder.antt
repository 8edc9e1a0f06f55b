-- The marks of two pages in any order.
use Rattle.std.specs.Prelude.{ℕ, ◌+◌, nat_lt, Bool, true, false, not, ◌&&◌, List, [], ◌∷◌, ◌++◌, length, drop, map}
use Rattle.std.specs.Prelude.{Option, None, Some, option_map, slice_set, if◌then◌else◌}
use Rattle.std.specs.List.{list_any}
use Rattle.page_comparison.specs.declared.bag.Matched.{Matched}
use Rattle.page_comparison.specs.declared.differences.PageChange.TheVariants.{OnlyInOld, OnlyInNew, Covers}
use Rattle.page_comparison.specs.declared.differences.PageDifference.{PageDifference}
use Rattle.page_comparison.specs.declared.footprint.Footprint.{Footprint}
use Rattle.page_comparison.specs.declared.setting.Setting.{Setting}
use Rattle.page_comparison.specs.declared.standing.Standing.{Standing}
use Rattle.page_comparison.specs.Marks.{footprint_of, hides, is_near_mark}
use Rattle.page_comparison.specs.Pages.{MadeMark}
use Rattle.page_comparison.specs.Told.{difference_at, next_place}

abbrev pub is_match : ℕ → (a b : MadeMark) → (taken : Bool) → Bool
is_match within a b taken = not taken && is_near_mark within a b

-- the place in NEW of the first mark that is near this one and not matched yet
abbrev pub first_free : ℕ → MadeMark → List MadeMark → List Bool → Option ℕ
first_free within a [] taken = None
first_free within a (b ∷ new) [] = None
first_free within a (b ∷ new) (t ∷ taken) =
    if is_match within a b t then Some 0 else option_map (λ i. i + 1) (first_free within a new taken)

-- which marks of NEW are matched, and what the marks of OLD cover that match them, in OLD's order
pub record Matching : Type 0 where
  pub taken : List Bool
  pub earlier : List Matched

abbrev pub matched_with : MadeMark → Option ℕ → Matching → Matching
matched_with a None matching = matching
matched_with a (Some i) matching = record {
  taken = slice_set matching.taken i true;
  earlier = matching.earlier ++ record { new = i; footprint = footprint_of a.shape } ∷ [];
}

-- NEW makes the earlier mark behind this one, and one of them is white and overlaps the other
abbrev pub is_crossed : ℕ → Footprint → Matched → Bool
is_crossed i footprint earlier = nat_lt i earlier.new && hides earlier.footprint footprint

-- the page, and the numbers of two of its marks
abbrev pub stand_at : (page old_mark new_mark : ℕ) → Standing
stand_at page old_mark new_mark = record { page = page; old_mark = old_mark; new_mark = new_mark }

-- the mark of OLD of this number has no match, or one that it covers an earlier mark otherwise than
abbrev pub mark_told : Setting → List MadeMark → (number : ℕ) → MadeMark → List Matched → Option ℕ → List PageDifference
mark_told setting new number a earlier None =
    difference_at (stand_at setting.page number (length new + 1)) a.place setting.new_end OnlyInOld ∷ []
mark_told setting new number a earlier (Some i) =
    let next = next_place setting.new_end (drop i new) in
    if list_any (is_crossed i (footprint_of a.shape)) earlier
    then difference_at (stand_at setting.page number (i + 1)) a.place next Covers ∷ [] else []

-- the marks of NEW from this number on that have no match
abbrev pub free_told : Setting → (old_mark number : ℕ) → List MadeMark → List Bool → List PageDifference
free_told setting old_mark number [] taken = []
free_told setting old_mark number (b ∷ new) [] = []
free_told setting old_mark number (b ∷ new) (true ∷ taken) = free_told setting old_mark (number + 1) new taken
free_told setting old_mark number (b ∷ new) (false ∷ taken) =
    difference_at (stand_at setting.page old_mark number) setting.old_end b.place OnlyInNew
    ∷ free_told setting old_mark (number + 1) new taken

-- the marks of OLD from this number on, and then those of NEW that are left, where these are matched
abbrev pub in_any_order : Setting → List MadeMark → (number : ℕ) → Matching → List MadeMark → List PageDifference
in_any_order setting new number matching [] = free_told setting number 1 new matching.taken
in_any_order setting new number matching (a ∷ old) =
    let found = first_free setting.within a new matching.taken in
    mark_told setting new number a matching.earlier found
    ++ in_any_order setting new (number + 1) (matched_with a found matching) old

abbrev pub none_matched : List MadeMark → Matching
none_matched new = record { taken = map (λ mark. false) new; earlier = [] }

-- those of two pages
abbrev pub all_in_any_order : Setting → List MadeMark → List MadeMark → List PageDifference
all_in_any_order setting old new = in_any_order setting new 1 (none_matched new) old
