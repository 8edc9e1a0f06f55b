-- What comes of two jobs, OLD and NEW, on a printer from a panel, page by page: they print the same, or all that
-- differs, or why one fails.
use Rattle.std.specs.Prelude.{◌≡◌, ℕ, ◌+◌, ◌-◌, ◌^◌, ◌==◌, nat_lt, Bool, true, false, List, [], ◌∷◌, ◌++◌, length, take}
use Rattle.std.specs.Prelude.{count_by, flat_map, map, Option, None, Some, if◌then◌else◌}
use Rattle.pcl_lexer.specs.Reading.{Reading, IsReading}
use Rattle.device_profile.specs.declared.panel.Panel.{Panel}
use Rattle.device_profile.specs.Printer.{Printer}
use Rattle.page_env.specs.declared.mark.PageEnd.{PageEnd}
use Rattle.page_machine.specs.Job.{ItemRun, plain_run}
use Rattle.sinks.specs.Same.{is_same_end}
use Rattle.sinks.specs.Counts.{capped, no_counts}
use Rattle.sinks.specs.declared.counts.Counts.{Counts}
use Rattle.verdict.specs.declared.failure.Failure.{Failure}
use Rattle.comparison.specs.Comparison.{all_made, end_of, failure_on}
use Rattle.page_comparison.specs.declared.differences.Most.{Most}
use Rattle.page_comparison.specs.declared.differences.Differences.{Differences}
use Rattle.page_comparison.specs.declared.differences.Nearness.{Nearness}
use Rattle.page_comparison.specs.declared.differences.PageChange.{PageChange}
use Rattle.page_comparison.specs.declared.differences.PageChange.TheVariants.{PageEnds, PageOnlyInOld, PageOnlyInNew}
use Rattle.page_comparison.specs.declared.differences.PageComparison.{PageComparison}
use Rattle.page_comparison.specs.declared.differences.PageComparison.TheVariants as comparisons
use Rattle.page_comparison.specs.declared.differences.PageDifference.{PageDifference}
use Rattle.page_comparison.specs.declared.setting.Setting.{Setting}
use Rattle.page_comparison.specs.AnyOrder.{all_in_any_order, stand_at}
use Rattle.page_comparison.specs.InOrder.{all_in_order}
use Rattle.page_comparison.specs.Pages.{MadeMark, MadePage, MadePair, made_pair, pair_at, paired, pages_counted}
use Rattle.page_comparison.specs.Pages.{pages_of}
use Rattle.page_comparison.specs.Told.{difference_at}

-- ---- one page

-- of two pages of this number
abbrev pub setting_of : Nearness → ℕ → MadePage → MadePage → Setting
setting_of nearness page a b =
    record { page = page; old_end = a.place; new_end = b.place; within = nearness.within }

abbrev pub marks_compared : Bool → Setting → List MadeMark → List MadeMark → List PageDifference
marks_compared any_order setting old new =
    if any_order then all_in_any_order setting old new else all_in_order setting old new

abbrev pub are_same_ends : Option PageEnd → Option PageEnd → Bool
are_same_ends None None = true
are_same_ends None (Some b) = false
are_same_ends (Some a) None = false
are_same_ends (Some a) (Some b) = is_same_end a b

-- what differs between two ends that are not the same: a page that has none is one that the job does not have
abbrev pub end_change : Option PageEnd → Option PageEnd → PageChange
end_change None None = PageEnds
end_change None (Some b) = PageOnlyInNew
end_change (Some a) None = PageOnlyInOld
end_change (Some a) (Some b) = PageEnds

abbrev pub ends_compared : ℕ → MadePage → MadePage → List PageDifference
ends_compared page a b =
    if are_same_ends a.end b.end then []
    else difference_at (stand_at page (length a.marks + 1) (length b.marks + 1)) a.place b.place
    (end_change a.end b.end) ∷ []

-- the marks, and then how they end
abbrev pub page_differences : Nearness → ℕ → MadePage → MadePage → List PageDifference
page_differences nearness page a b =
    marks_compared nearness.any_order (setting_of nearness page a b) a.marks b.marks ++ ends_compared page a b

-- ---- all pages

-- page by page, from the page of this number on
abbrev pub by_page : Nearness → ℕ → List (MadePage × MadePage) → List (List PageDifference)
by_page nearness page [] = []
by_page nearness page (pair ∷ pairs) =
    page_differences nearness page pair.0 pair.1 ∷ by_page nearness (page + 1) pairs

abbrev pub differs : List PageDifference → Bool
differs [] = false
differs (difference ∷ more) = true

-- the pages that differ, from the page of this number on
abbrev pub differing_pairs : Nearness → ℕ → List (MadePage × MadePage) → List MadePair
differing_pairs nearness page [] = []
differing_pairs nearness page (pair ∷ pairs) =
    if differs (page_differences nearness page pair.0 pair.1)
    then pair_at page pair.0 pair.1 ∷ differing_pairs nearness (page + 1) pairs
    else differing_pairs nearness (page + 1) pairs

-- what is told of the differences: the first ones, whether there are more, how many pages differ, and the first of
-- these pages
pub record ToldDifferences : Type 0 where
  pub listed : List PageDifference
  pub more : Bool
  pub pages : ℕ
  pub pairs : List MadePair

abbrev pub listing_of : Most → List (List PageDifference) → List MadePair → ToldDifferences
listing_of most pages pairs =
    let all = flat_map (λ page. page) pages in
    record {
      listed = take most.differences all;
      more = nat_lt most.differences (length all);
      pages = capped (count_by differs pages);
      pairs = take most.pages pairs;
    }

-- what comes of two jobs, without where it lies in memory
pub data ToldPages : Type 0 where
  SamePages : Counts → ToldPages
  OtherPages : ToldDifferences → ToldPages
  OldFailing : Failure → ToldPages
  NewFailing : Failure → ToldPages

abbrev pub told_differences : {A : Type 0} → Differences A → ToldDifferences
told_differences found = record {
  listed = found.listed.items;
  more = found.more;
  pages = found.pages;
  pairs = map made_pair found.pairs.items;
}

abbrev pub told_pages : {A : Type 0} → PageComparison A → ToldPages
told_pages (comparisons.Same counts) = SamePages counts
told_pages (comparisons.Differs found) = OtherPages (told_differences found)
told_pages (comparisons.OldFails failure) = OldFailing failure
told_pages (comparisons.NewFails failure) = NewFailing failure

abbrev pub same_or : Counts → ToldDifferences → ToldPages
same_or counts found = if found.pages == 0 then SamePages counts else OtherPages found

-- of the pages of both jobs, so much at most
abbrev pub pages_compared : Nearness → Most → List (MadePage × MadePage) → ToldPages
pages_compared nearness most pairs =
    same_or (pages_counted pairs no_counts)
    (listing_of most (by_page nearness 1 pairs) (differing_pairs nearness 1 pairs))

-- what differs of a page that is kept: no page has so many differences
abbrev pub pair_differences : Nearness → MadePair → List PageDifference
pair_differences nearness pair = take (2 ^ 64 - 1) (page_differences nearness pair.number pair.old pair.new)

-- ---- all of it

abbrev pub failing_or : (Failure → ToldPages) → Option Failure → ToldPages → ToldPages
failing_or fails None otherwise = otherwise
failing_or fails (Some failure) otherwise = fails failure

-- the pages of two jobs that make this
abbrev pub pairs_of : (old new : Reading) → (old_items new_items : List ItemRun) → List (MadePage × MadePage)
pairs_of old new old_items new_items =
    paired (end_of old) (end_of new) (pages_of (end_of old) (all_made old_items))
    (pages_of (end_of new) (all_made new_items))

-- a failure of OLD comes first, and then one of NEW
abbrev pub comparison_of : Nearness → Most → (number : ℕ) → (old new : Reading) →
    (old_items new_items : List ItemRun) →
    ToldPages
comparison_of nearness most number old new old_items new_items =
    failing_or OldFailing (failure_on number old_items old)
    (failing_or NewFailing (failure_on number new_items new)
    (pages_compared nearness most (pairs_of old new old_items new_items)))

-- of the plain runs on the printer of this number, from this panel
abbrev pub comparison_from : Nearness → Most → (number : ℕ) → Printer → Panel → (old new : Reading) → ToldPages
comparison_from nearness most number printer panel old new =
    comparison_of nearness most number old new (plain_run printer panel old).items (plain_run printer panel new).items

-- it is what the definitions say of the one reading of each job
abbrev pub IsPageComparison : Nearness → Most → (number : ℕ) → Printer → Panel → (old new : List ℕ) → ToldPages →
    Type 0
IsPageComparison nearness most number printer panel old new told =
    (old_reading : Reading) × IsReading old old_reading × (new_reading : Reading) × IsReading new new_reading
    × (told ≡ comparison_from nearness most number printer panel old_reading new_reading)
