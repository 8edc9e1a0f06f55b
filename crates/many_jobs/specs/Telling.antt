-- How it is told what came of a job.
use Rattle.std.specs.Prelude.{ℕ, Bool, true, false, List, [], ◌++◌, decimal, None, Option, Result, Ok, Err}
use Rattle.streams.specs.declared.error.Error.{Error}
use Rattle.verdict.specs.Numbers.{reason_number}
use Rattle.verdict.specs.declared.verdict.Verdict.{Verdict}
use Rattle.verdict.specs.declared.verdict.Verdict.TheVariants.{Pass, Fail}
use Rattle.meanings.specs.Explanations.{explained_by}
use Rattle.job_reports.specs.JobLines.{job_line}
use Rattle.job_rows.specs.Rows.{PartsTold, row_text}
use Rattle.many_jobs.specs.JobObjects.{job_object}
use Rattle.job_reports.specs.JobSentences.{job_sentence}
use Rattle.job_reports.specs.Reports.{Reported, verdict_told}
use Rattle.many_jobs.specs.declared.telling.Format.{Format}
use Rattle.many_jobs.specs.declared.telling.Format.TheVariants.{Line, Words, Json, Html}

-- the form, the explanations of which a FAIL and a note get their own, whether a FAIL counts as a PASS, whether one
-- does by which pclcheck alone says no, which jobs can be read only once, and the folder that has a document of the
-- pages of each other job
pub record HowTold : Type 0 where
  pub format : Format
  pub explanations : List (List ℕ)
  pub exit_zero : Bool
  pub passes_unchecked : Bool
  pub read_once : List (List ℕ)
  pub documents : Option (List ℕ)

-- what these explanations say of what is wrong
abbrev pub explained : List (List ℕ) → Result Verdict Error → List ℕ
explained explanations (Ok (Fail place profile reason)) = explained_by (decimal (reason_number reason)) explanations
explained explanations (Ok (Pass pages marks)) = []
explained explanations (Err error) = []

-- all is told in one document, a row a job
abbrev pub is_html : Format → Bool
is_html Line = false
is_html Words = false
is_html (Json alloc) = false
is_html Html = true

-- nothing is told of a job by further readings
abbrev pub no_parts : PartsTold
no_parts = record { notes = None; near = None; page = None; is_once = false; document = None }

-- the line, the sentence, the object or the row of a job, with what stands below a line or a sentence, or in an object
-- or a row
abbrev pub text_in : Format → List ℕ → Reported → List ℕ
text_in Line below report = job_line report ++ below
text_in Words below report = job_sentence report ++ below
text_in (Json alloc) below report = job_object below report
text_in Html below report = row_text below report no_parts

-- with the explanation of what is wrong
abbrev pub report_text : HowTold → Reported → List ℕ
report_text telling report = text_in telling.format (explained telling.explanations (verdict_told report.answer)) report
