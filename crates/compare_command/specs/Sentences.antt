-- The sentences that tell what comes of two jobs.
use Rattle.std.specs.Prelude.{ℕ, List, ◌++◌, Option, codes}
use Rattle.job_reports.specs.JobSentences.{cause_phrase, named_first}
use Rattle.line_words.specs.Figures.{named}
use Rattle.shown_bytes.specs.Shown.{shown_text}
use Rattle.sinks.specs.declared.counts.Counts.{Counts}
use Rattle.page_comparison.specs.declared.differences.PageChange.{PageChange}
use Rattle.page_comparison.specs.declared.differences.PageChange.TheVariants.{Moved, Changed, OnlyInOld, OnlyInNew}
use Rattle.page_comparison.specs.declared.differences.PageChange.TheVariants.{PageEnds, PageOnlyInOld}
use Rattle.page_comparison.specs.declared.differences.PageChange.TheVariants.{PageOnlyInNew, Covers}
use Rattle.page_comparison.specs.declared.differences.PageDifference.{PageDifference}
use Rattle.compare_command.specs.Lines.{counts_words, mark_of}

unfoldable pub counts_part : Counts → List ℕ
counts_part counts = codes " (" ++ counts_words counts ++ codes ")\n"

-- of NEW, whose name stands first
unfoldable pub same_sentence : (old new : List ℕ) → Counts → List ℕ
same_sentence old new counts =
    named_first new ++ codes "prints the same as " ++ shown_text old ++ counts_part counts

-- what differs
abbrev pub change_phrase : PageChange → List ℕ
change_phrase Moved = codes "the mark is moved"
change_phrase Changed = codes "the mark is another one"
change_phrase OnlyInOld = codes "the mark is missing"
change_phrase OnlyInNew = codes "the mark is new"
change_phrase PageEnds = codes "the page ends otherwise"
change_phrase PageOnlyInOld = codes "the page is missing"
change_phrase PageOnlyInNew = codes "the page is new"
change_phrase Covers = codes "the mark is covered otherwise"

unfoldable pub spot_phrase : PageDifference → List ℕ
spot_phrase difference = named (codes " on page ") difference.page ++ named (codes " at mark ") (mark_of difference)

unfoldable pub printer_phrase : List ℕ → PageChange → List ℕ
printer_phrase name change = codes " for " ++ name ++ codes ": " ++ change_phrase change

-- where the items stand
unfoldable pub old_phrase : PageDifference → List ℕ
old_phrase difference = named (codes " (byte ") difference.old_place ++ codes " of it"

unfoldable pub new_phrase : PageDifference → List ℕ
new_phrase difference = named (codes ", byte ") difference.new_place ++ codes " here)\n"

unfoldable pub places_phrase : PageDifference → List ℕ
places_phrase difference = old_phrase difference ++ new_phrase difference

unfoldable pub what_phrase : List ℕ → PageDifference → List ℕ
what_phrase name difference = printer_phrase name difference.change ++ places_phrase difference

unfoldable pub difference_phrase : List ℕ → PageDifference → List ℕ
difference_phrase name difference = spot_phrase difference ++ what_phrase name difference

unfoldable pub difference_sentence : (old new name : List ℕ) → PageDifference → List ℕ
difference_sentence old new name difference =
    named_first new ++ codes "differs from " ++ shown_text old ++ difference_phrase name difference

-- so many pages differ
unfoldable pub more_part : ℕ → List ℕ
more_part pages = named (codes " are left out (pages that differ: ") pages ++ codes ")\n"

-- more differences of NEW are left out
unfoldable pub more_sentence : (old new : List ℕ) → ℕ → List ℕ
more_sentence old new pages =
    named_first new ++ codes "more differences from " ++ shown_text old ++ more_part pages

-- why, as far as it is known
unfoldable pub unheld_cause : Option (List ℕ) → List ℕ
unheld_cause cause = cause_phrase cause ++ codes " (ERROR memory)\n"

-- there is no memory for the job of this name, or for a page of it
unfoldable pub unheld_sentence : List ℕ → Option (List ℕ) → List ℕ
unheld_sentence job cause = named_first job ++ codes "the pages of this job cannot be compared" ++ unheld_cause cause
