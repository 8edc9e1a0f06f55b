-- What the document says of the job.
use Rattle.std.specs.Prelude.{ℕ, ◌==◌, ◌-◌, if◌then◌else◌, List, [], ◌∷◌, ◌++◌, codes, decimal, get_or, length, take}
use Rattle.std.specs.Prelude.{None, Ok, Some}
use Rattle.job_reports.specs.Groups.{Groups}
use Rattle.job_reports.specs.JobSentences.{FailsAt, claim_by, fails_at, for_each, named_first, subject, verdict_phrase}
use Rattle.job_reports.specs.Reports.{number_told}
use Rattle.job_pdf.specs.Plan.{Plan, printer_name}
use Rattle.requests.specs.declared.selection.DrawnPages.{DrawnPages}
use Rattle.requests.specs.declared.selection.DrawnPages.TheVariants.{All, One}
use Rattle.verdict.specs.declared.failure.Failure.{Failure}
use Rattle.verdict.specs.declared.verdict.Verdict.{Verdict}
use Rattle.verdict.specs.Failing.{failing}

-- the sentence on a verdict, where the failure stands so
abbrev pub sentence : (job : List ℕ) → Groups → (at : FailsAt) → Verdict → List ℕ
sentence job group at verdict =
    named_first job
    ++ (claim_by (subject group.names (number_told group.is_each (Ok verdict))) (for_each group.is_each group.names)
    at.left_out (Ok verdict) ++ verdict_phrase at verdict)
    ++ 10 ∷ []

-- a line without its end
abbrev pub without_line_end : List ℕ → List ℕ
without_line_end line = if get_or line (length line - 1) 0 == 10 then take (length line - 1) line else line

-- that the job fails so on the page of this number
unfoldable pub told_failure : Plan → (page : ℕ) → Failure → List ℕ
told_failure plan page failure =
    without_line_end (sentence plan.job plan.group (fails_at (Some page) None) (failing failure))

-- what is printed, where nothing is wrong with it
abbrev pub what_prints : DrawnPages → List ℕ
what_prints All = codes "this job"
what_prints (One number) = codes "page " ++ decimal number

-- that these pages print; from another panel the job may fail
unfoldable pub told_whole : Plan → List ℕ
told_whole plan =
    named_first plan.job ++ printer_name plan ++ codes " prints " ++ what_prints plan.selection.pages
    ++ codes " from this panel"
