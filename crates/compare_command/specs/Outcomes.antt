-- How two jobs are compared, and what comes of that.
use Rattle.std.specs.Prelude.{ℕ, ◌==◌, ◌&&◌, Bool, not, List, Option, None, Some, if◌then◌else◌}
use Rattle.std.specs.declared.alloc.Global.{Global}
use Rattle.device_profile.specs.Printer.{Printer, first_panel}
use Rattle.requests.specs.declared.compare_words.Extent.{Extent}
use Rattle.requests.specs.declared.compare_words.Extent.TheVariants.{First, All}
use Rattle.requests.specs.declared.compare_words.Nearness.{Nearness}
use Rattle.requests.specs.declared.status.Status.{Status}
use Rattle.requests.specs.declared.status.Status.TheVariants.{Pass, Fail}
use Rattle.sinks.specs.declared.counts.Counts.{Counts}
use Rattle.comparison.specs.declared.difference.Comparison.{Comparison}
use Rattle.comparison.specs.declared.difference.Comparison.TheVariants.{Same, Differs, OldFails, NewFails}
use Rattle.comparison.specs.Comparison.{IsComparison}
use Rattle.page_comparison.specs.declared.differences.Most.{Most}
use Rattle.page_comparison.specs.declared.differences.Nearness.{Nearness as PageNearness}
use Rattle.page_comparison.specs.declared.differences.PageComparison.{PageComparison}
use Rattle.page_comparison.specs.declared.differences.PageComparison.TheVariants as pages
use Rattle.page_comparison.specs.Comparison.{IsPageComparison, told_pages}
use Rattle.compare_command.specs.declared.found.Manner.{Manner}
use Rattle.compare_command.specs.declared.found.Manner.TheVariants.{ByEvents, ByPages}
use Rattle.compare_command.specs.declared.found.Outcome.{Outcome}
use Rattle.compare_command.specs.declared.found.Outcome.TheVariants.{OfEvents, OfPages}

-- ---- how

abbrev pub near_by : Nearness → PageNearness
near_by nearness = record { any_order = nearness.any_order; within = nearness.within }

-- marks are the same in their order and at their places alone
abbrev pub is_strict : Nearness → Bool
is_strict nearness = not nearness.any_order && (nearness.within == 0)

-- so many differences, and no page to be drawn
abbrev pub most_listed : ℕ → Most
most_listed most = record { differences = most; pages = 0 }

abbrev pub first_manner : Nearness → Manner
first_manner nearness = if is_strict nearness then ByEvents else ByPages (near_by nearness) (most_listed 1)

-- the first difference is found event by event where marks have to be the same so; else pages are compared
abbrev pub manner_of : Nearness → Extent → Manner
manner_of nearness First = first_manner nearness
manner_of nearness (All most) = ByPages (near_by nearness) (most_listed most)

-- ---- what comes of it

-- of the texts of both jobs on the printer of this number, from its first panel
abbrev pub IsOutcome : Manner → ℕ → Printer → (old new : List ℕ) → Outcome → Type 0
IsOutcome ByEvents number printer old new (OfEvents comparison) =
    IsComparison number printer (first_panel printer) old new comparison
IsOutcome (ByPages nearness most) number printer old new (OfPages comparison) =
    IsPageComparison nearness most number printer (first_panel printer) old new (told_pages comparison)
IsOutcome ByEvents number printer old new (OfPages comparison) = ⊥
IsOutcome (ByPages nearness most) number printer old new (OfEvents comparison) = ⊥

-- how much both print, where they print the same
abbrev pub counts_of : Comparison → Option Counts
counts_of (Same counts) = Some counts
counts_of (Differs difference) = None
counts_of (OldFails failure) = None
counts_of (NewFails failure) = None

abbrev pub counts_of_pages : PageComparison Global → Option Counts
counts_of_pages (pages.Same counts) = Some counts
counts_of_pages (pages.Differs differences) = None
counts_of_pages (pages.OldFails failure) = None
counts_of_pages (pages.NewFails failure) = None

abbrev pub same_counts : Outcome → Option Counts
same_counts (OfEvents comparison) = counts_of comparison
same_counts (OfPages comparison) = counts_of_pages comparison

-- two jobs that print the same, and so much, pass
abbrev pub status_by : Option Counts → Status
status_by (Some counts) = Pass
status_by None = Fail
