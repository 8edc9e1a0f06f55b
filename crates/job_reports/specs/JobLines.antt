-- The line of a job, in a check of many jobs.
use Rattle.std.specs.Prelude.{ℕ, ◌==◌, ◌-◌, List, [], ◌∷◌, ◌++◌, codes, get_or, if◌then◌else◌, Option, None, Some}
use Rattle.std.specs.Prelude.{Result, Ok, Err}
use Rattle.streams.specs.declared.error.Error.{Error}
use Rattle.verdict.specs.declared.verdict.Verdict.{Verdict}
use Rattle.verdict.specs.declared.verdict.Verdict.TheVariants.{Pass, Fail}
use Rattle.line_words.specs.Figures.{named}
use Rattle.line_words.specs.Reason.{reason_words}
use Rattle.shown_bytes.specs.Shown.{shown}
use Rattle.job_reports.specs.Reports.{Reported, number_told, verdict_told}
use Rattle.requests.specs.Status.{error_words}

-- a verdict without what is wrong
abbrev pub verdict_words : Verdict → List ℕ
verdict_words (Pass pages marks) = named (codes "PASS pages=") pages ++ named (codes " marks=") marks
verdict_words (Fail place profile reason) = named (codes "FAIL at=") place

-- what came of a job: its verdict, or why it has none
abbrev pub result_words : Result Verdict Error → List ℕ
result_words (Ok verdict) = verdict_words verdict
result_words (Err error) = error_words error

abbrev pub printer_words : List (List ℕ) → ℕ → List ℕ
printer_words names number = if number == 0 then [] else codes " printer=" ++ get_or names (number - 1) []

-- the number and the name of what is wrong
abbrev pub reason_part : Result Verdict Error → List ℕ
reason_part (Ok (Fail place profile reason)) = 32 ∷ reason_words reason
reason_part (Ok (Pass pages marks)) = []
reason_part (Err error) = []

-- what the system says of a read that failed
abbrev pub cause_part : Option (List ℕ) → List ℕ
cause_part None = []
cause_part (Some words) = codes ": " ++ shown words

-- a line begins with the verdict and ends with the job's name
abbrev pub job_line : Reported → List ℕ
job_line report =
    let result = verdict_told report.answer in
    result_words result ++ (printer_words report.names (number_told report.is_each result)
    ++ (reason_part result ++ 32 ∷ (shown report.job ++ (cause_part report.cause ++ 10 ∷ []))))
