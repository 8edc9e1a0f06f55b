-- The lines that tell what comes of two jobs.
use Rattle.std.specs.Prelude.{ℕ, Bool, List, ◌∷◌, ◌++◌, codes, get_or, ◌-◌, [], if◌then◌else◌}
use Rattle.job_reports.specs.JobLines.{job_line}
use Rattle.job_reports.specs.Reports.{Reported}
use Rattle.line_words.specs.Figures.{named}
use Rattle.shown_bytes.specs.Shown.{shown}
use Rattle.sinks.specs.declared.counts.Counts.{Counts}
use Rattle.page_comparison.specs.declared.differences.PageChange.{PageChange}
use Rattle.page_comparison.specs.declared.differences.PageChange.TheVariants.{Moved, Changed, OnlyInOld, OnlyInNew}
use Rattle.page_comparison.specs.declared.differences.PageChange.TheVariants.{PageEnds, PageOnlyInOld}
use Rattle.page_comparison.specs.declared.differences.PageChange.TheVariants.{PageOnlyInNew, Covers}
use Rattle.page_comparison.specs.declared.differences.PageDifference.{PageDifference}

-- what differs
abbrev pub change_words : PageChange → List ℕ
change_words Moved = codes "moved"
change_words Changed = codes "changed"
change_words OnlyInOld = codes "only in OLD"
change_words OnlyInNew = codes "only in NEW"
change_words PageEnds = codes "page ends otherwise"
change_words PageOnlyInOld = codes "only in OLD"
change_words PageOnlyInNew = codes "only in NEW"
change_words Covers = codes "covered otherwise"

-- the number of the mark: of one that NEW alone has, also on a page that it alone has, that of NEW
abbrev pub mark_by : PageChange → (old new : ℕ) → ℕ
mark_by OnlyInNew old new = new
mark_by Moved old new = old
mark_by Changed old new = old
mark_by OnlyInOld old new = old
mark_by PageEnds old new = old
mark_by PageOnlyInOld old new = old
mark_by PageOnlyInNew old new = new
mark_by Covers old new = old

-- the number of the mark that is told
abbrev pub mark_of : PageDifference → ℕ
mark_of difference = mark_by difference.change difference.old_mark difference.new_mark

-- the name of the printer of this number, from 1
abbrev pub name_of : List (List ℕ) → ℕ → List ℕ
name_of names number = get_or names (number - 1) []

-- so many pages and marks
unfoldable pub counts_words : Counts → List ℕ
counts_words counts = named (codes "pages=") counts.pages ++ named (codes " marks=") counts.marks

-- the name of a job that is one of many
abbrev pub name_part : (is_named : Bool) → (job : List ℕ) → List ℕ
name_part is_named job = if is_named then 32 ∷ shown job else []

unfoldable pub line_end : (is_named : Bool) → (job : List ℕ) → List ℕ
line_end is_named job = name_part is_named job ++ 10 ∷ []

unfoldable pub same_line : (is_named : Bool) → (job : List ℕ) → Counts → List ℕ
same_line is_named job counts = codes "SAME " ++ counts_words counts ++ line_end is_named job

unfoldable pub spot_words : PageDifference → List ℕ
spot_words difference = named (codes "page=") difference.page ++ named (codes " mark=") (mark_of difference)

-- the places of the items
unfoldable pub place_words : PageDifference → List ℕ
place_words difference = named (codes " old=") difference.old_place ++ named (codes " new=") difference.new_place

unfoldable pub where_words : PageDifference → List ℕ
where_words difference = spot_words difference ++ place_words difference

-- for this printer
unfoldable pub printer_part : List ℕ → PageChange → List ℕ
printer_part name change = codes " printer=" ++ name ++ codes " " ++ change_words change

unfoldable pub difference_line : (is_named : Bool) → (job name : List ℕ) → PageDifference → List ℕ
difference_line is_named job name difference =
    codes "DIFFERS " ++ where_words difference ++ printer_part name difference.change ++ line_end is_named job

-- more differences are left out, and so many pages differ
unfoldable pub more_line : (is_named : Bool) → (job : List ℕ) → ℕ → List ℕ
more_line is_named job pages = named (codes "MORE pages=") pages ++ line_end is_named job

-- a job fails as a line of a check of many jobs tells it
abbrev pub failure_line : Reported → List ℕ
failure_line report = job_line report
