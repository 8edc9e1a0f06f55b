-- What is told of two jobs.
use Rattle.std.specs.Prelude.{ℕ, ◌&&◌, ◌++◌, Bool, false, true, List, [], Option, None, Ok, Err, if◌then◌else◌}
use Rattle.std.specs.Prelude.{flat_map, map}
use Rattle.std.specs.declared.alloc.Global.{Global}
use Rattle.judgement.specs.declared.failing_item.Judgement.{Judgement}
use Rattle.requests.specs.declared.many_words.Form.{Form}
use Rattle.requests.specs.declared.many_words.Form.TheVariants.{Line, Words, Json, Html}
use Rattle.job_reports.specs.JobLines.{job_line}
use Rattle.job_reports.specs.JobSentences.{job_sentence}
use Rattle.job_reports.specs.Reports.{Reported}
use Rattle.many_jobs.specs.JobObjects.{job_object}
use Rattle.sinks.specs.declared.counts.Counts.{Counts}
use Rattle.streams.specs.declared.error.Error.{Error}
use Rattle.streams.specs.declared.error.Error.TheVariants.{Memory, Read, Write, Turns, NoProfile, Items}
use Rattle.verdict.specs.declared.failure.Failure.{Failure}
use Rattle.verdict.specs.Failing.{failing}
use Rattle.comparison.specs.declared.difference.Change.{Change}
use Rattle.comparison.specs.declared.difference.Change.TheVariants as changes
use Rattle.comparison.specs.declared.difference.Comparison.{Comparison}
use Rattle.comparison.specs.declared.difference.Comparison.TheVariants.{Same, Differs, OldFails, NewFails}
use Rattle.comparison.specs.declared.difference.Difference.{Difference}
use Rattle.page_comparison.specs.declared.differences.Differences.{Differences}
use Rattle.page_comparison.specs.declared.differences.PageChange.{PageChange}
use Rattle.page_comparison.specs.declared.differences.PageChange.TheVariants.{Moved, Changed, OnlyInOld, OnlyInNew}
use Rattle.page_comparison.specs.declared.differences.PageChange.TheVariants.{PageEnds, PageOnlyInOld}
use Rattle.page_comparison.specs.declared.differences.PageChange.TheVariants.{PageOnlyInNew}
use Rattle.page_comparison.specs.declared.differences.PageComparison.{PageComparison}
use Rattle.page_comparison.specs.declared.differences.PageComparison.TheVariants as pages
use Rattle.page_comparison.specs.declared.differences.PageDifference.{PageDifference}
use Rattle.compare_command.specs.declared.found.Outcome.{Outcome}
use Rattle.compare_command.specs.declared.found.Outcome.TheVariants.{OfEvents, OfPages}
use Rattle.compare_command.specs.declared.telling.Telling.{Telling}
use Rattle.compare_command.specs.Lines.{difference_line, more_line, name_of, same_line}
use Rattle.compare_command.specs.Sentences.{difference_sentence, more_sentence, same_sentence, unheld_sentence}
use Rattle.compare_command.specs.Objects.{difference_object, more_object, same_object}

-- the names of both jobs and of the printers, the form, whether a line ends with the name of the new job, and whether
-- all differences are told
pub record HowTold : Type 0 where
  pub old_name : List ℕ
  pub new_name : List ℕ
  pub names : List (List ℕ)
  pub form : Form
  pub is_named : Bool
  pub is_all : Bool

abbrev pub told_by : Telling → HowTold
told_by telling = record {
  old_name = telling.old_name.now;
  new_name = telling.new_name.now;
  names = map (λ name. name.items) telling.printers.now;
  form = telling.form;
  is_named = telling.is_named;
  is_all = telling.is_all;
}

-- ---- a job that fails, or cannot be read

abbrev pub judged : Failure → Judgement
judged failure = record { verdict = failing failure; failing_item = None; page = None; cursor = None; font = None }

-- the job of this name fails so
abbrev pub failed : List (List ℕ) → List ℕ → Failure → Reported
failed names job failure =
    record { is_each = false; names = names; job = job; answer = Ok (judged failure); cause = None }

-- the job of this name has no verdict, and this is known of why
abbrev pub unread : List (List ℕ) → List ℕ → Error → Option (List ℕ) → Reported
unread names job error cause =
    record { is_each = false; names = names; job = job; answer = Err error; cause = cause }

abbrev pub failure_text : Form → Reported → List ℕ
failure_text Line report = job_line report
failure_text Words report = job_sentence report
failure_text Json report = job_object [] report
failure_text Html report = job_line report

abbrev pub is_words : Form → Bool
is_words Line = false
is_words Words = true
is_words Json = false
is_words Html = false

abbrev pub is_memory : Error → Bool
is_memory Memory = true
is_memory Read = false
is_memory Write = false
is_memory Turns = false
is_memory NoProfile = false
is_memory Items = false

-- a sentence tells that there is no memory for a job, or for a page of it
abbrev pub is_unheld : Form → Error → Bool
is_unheld form error = is_words form && is_memory error

-- why the job of this name is not compared for printers of these names: else as a check tells it
abbrev pub stop_told : Form → (names : List (List ℕ)) → (job : List ℕ) → Error → Option (List ℕ) → List ℕ
stop_told form names job error cause =
    if is_unheld form error then unheld_sentence job cause else failure_text form (unread names job error cause)

-- ---- two jobs that print the same, and a difference

abbrev pub same_text : Form → (is_named : Bool) → (old new : List ℕ) → Counts → List ℕ
same_text Line is_named old new counts = same_line is_named new counts
same_text Words is_named old new counts = same_sentence old new counts
same_text Json is_named old new counts = same_object old new counts
same_text Html is_named old new counts = same_line is_named new counts

abbrev pub difference_text : Form → (is_named : Bool) → (old new name : List ℕ) → PageDifference → List ℕ
difference_text Line is_named old new name difference = difference_line is_named new name difference
difference_text Words is_named old new name difference = difference_sentence old new name difference
difference_text Json is_named old new name difference = difference_object old new name difference
difference_text Html is_named old new name difference = difference_line is_named new name difference

-- more are left out, and so many pages differ
abbrev pub more_text : Form → (is_named : Bool) → (old new : List ℕ) → ℕ → List ℕ
more_text Line is_named old new pages = more_line is_named new pages
more_text Words is_named old new pages = more_sentence old new pages
more_text Json is_named old new pages = more_object old new pages
more_text Html is_named old new pages = more_line is_named new pages

-- ---- what was found on the printer of a number

abbrev pub told_same : HowTold → Counts → List ℕ
told_same telling counts = same_text telling.form telling.is_named telling.old_name telling.new_name counts

abbrev pub listed_text : HowTold → ℕ → PageDifference → List ℕ
listed_text telling number difference =
    difference_text telling.form telling.is_named telling.old_name telling.new_name
    (name_of telling.names number) difference

abbrev pub old_fails_text : HowTold → Failure → List ℕ
old_fails_text telling failure = failure_text telling.form (failed telling.names telling.old_name failure)

abbrev pub new_fails_text : HowTold → Failure → List ℕ
new_fails_text telling failure = failure_text telling.form (failed telling.names telling.new_name failure)

abbrev pub change_of : Change → PageChange
change_of changes.Moved = Moved
change_of changes.Changed = Changed
change_of changes.OnlyInOld = OnlyInOld
change_of changes.OnlyInNew = OnlyInNew
change_of changes.PageEnds = PageEnds
change_of changes.PageOnlyInOld = PageOnlyInOld
change_of changes.PageOnlyInNew = PageOnlyInNew

-- the first difference as one of all: up to there the marks of both have the same numbers
abbrev pub difference_of : Difference → PageDifference
difference_of difference = record {
  page = difference.page;
  old_mark = difference.mark;
  new_mark = difference.mark;
  old_place = difference.old_place;
  new_place = difference.new_place;
  change = change_of difference.change;
}

abbrev pub comparison_text : HowTold → ℕ → Comparison → List ℕ
comparison_text telling number (Same counts) = told_same telling counts
comparison_text telling number (Differs difference) = listed_text telling number (difference_of difference)
comparison_text telling number (OldFails failure) = old_fails_text telling failure
comparison_text telling number (NewFails failure) = new_fails_text telling failure

-- all differences are told, and some are left out
abbrev pub tells_more : HowTold → Differences Global → Bool
tells_more telling differences = telling.is_all && differences.more

abbrev pub more_part : HowTold → Differences Global → List ℕ
more_part telling differences =
    if tells_more telling differences
    then more_text telling.form telling.is_named telling.old_name telling.new_name differences.pages
    else []

-- one difference behind another
abbrev pub differences_text : HowTold → ℕ → Differences Global → List ℕ
differences_text telling number differences =
    flat_map (listed_text telling number) differences.listed.items ++ more_part telling differences

abbrev pub pages_text : HowTold → ℕ → PageComparison Global → List ℕ
pages_text telling number (pages.Same counts) = told_same telling counts
pages_text telling number (pages.Differs differences) = differences_text telling number differences
pages_text telling number (pages.OldFails failure) = old_fails_text telling failure
pages_text telling number (pages.NewFails failure) = new_fails_text telling failure

abbrev pub found_text : HowTold → ℕ → Outcome → List ℕ
found_text telling number (OfEvents comparison) = comparison_text telling number comparison
found_text telling number (OfPages comparison) = pages_text telling number comparison
