-- The differences that are kept while pages are compared.
use Rattle.std.specs.Prelude.{ℕ, ◌+◌, nat_lt, Bool, true, false, List, [], ◌∷◌, ◌++◌, length, if◌then◌else◌}
use Rattle.sinks.specs.Counts.{capped}
use Rattle.page_comparison.specs.declared.differences.Most.{Most}
use Rattle.page_comparison.specs.declared.differences.Nearness.{Nearness}
use Rattle.page_comparison.specs.declared.differences.PageDifference.{PageDifference}
use Rattle.page_comparison.specs.Comparison.{ToldDifferences, page_differences}
use Rattle.page_comparison.specs.Pages.{MadePage, MadePair, pair_at}

-- at most so many, whether there are more, whether the page at hand differs, and how many pages before it do
pub record Kept : Type 0 where
  pub most : Most
  pub listed : List PageDifference
  pub more : Bool
  pub differs : Bool
  pub pages : ℕ
  pub pairs : List MadePair

abbrev pub none_kept : Most → Kept
none_kept most = record { most = most; listed = []; more = false; differs = false; pages = 0; pairs = [] }

-- behind one difference more
abbrev pub kept_with : PageDifference → Kept → Kept
kept_with difference kept =
    if nat_lt (length kept.listed) kept.most.differences
    then record kept { listed = kept.listed ++ difference ∷ []; differs = true }
    else record kept { more = true; differs = true }

abbrev pub kept_all : List PageDifference → Kept → Kept
kept_all [] kept = kept
kept_all (difference ∷ more) kept = kept_all more (kept_with difference kept)

-- the pages that are kept behind one more that differs: not more than that
abbrev pub pair_kept : MadePair → Kept → List MadePair
pair_kept pair kept =
    if nat_lt (length kept.pairs) kept.most.pages then kept.pairs ++ pair ∷ [] else kept.pairs

abbrev pub page_differs : MadePair → Kept → Kept
page_differs pair kept =
    record kept { differs = false; pages = capped (kept.pages + 1); pairs = pair_kept pair kept }

-- behind the page at hand
abbrev pub page_over : MadePair → Kept → Kept
page_over pair kept = if kept.differs then page_differs pair kept else kept

abbrev pub page_kept : Nearness → ℕ → MadePage → MadePage → Kept → Kept
page_kept nearness page a b kept =
    page_over (pair_at page a b) (kept_all (page_differences nearness page a b) kept)

-- behind these pages, from the page of this number on
abbrev pub pages_kept : Nearness → ℕ → List (MadePage × MadePage) → Kept → Kept
pages_kept nearness page [] kept = kept
pages_kept nearness page (pair ∷ pairs) kept =
    pages_kept nearness (page + 1) pairs (page_kept nearness page pair.0 pair.1 kept)

abbrev pub kept_told : Kept → ToldDifferences
kept_told kept =
    record { listed = kept.listed; more = kept.more; pages = kept.pages; pairs = kept.pairs }
