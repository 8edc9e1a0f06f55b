-- The head of a job's row: its verdict, its sentence, and where it fails.
use Rattle.std.specs.Prelude.{ℕ, ◌==◌, ◌-◌, List, [], ◌++◌, codes, get_or, length, if◌then◌else◌, Option, None, Some}
use Rattle.std.specs.Prelude.{Result, Ok, Err}
use Rattle.line_words.specs.Figures.{named}
use Rattle.streams.specs.declared.error.Error.{Error}
use Rattle.verdict.specs.declared.verdict.Verdict.{Verdict}
use Rattle.verdict.specs.declared.verdict.Verdict.TheVariants.{Pass, Fail}
use Rattle.job_reports.specs.JobSentences.{job_sentence}
use Rattle.job_reports.specs.Kinds.{kind_name, kind_of}
use Rattle.job_reports.specs.Reports.{Reported, failing_item_of, number_told, page_of, verdict_told}
use Rattle.job_reports.specs.declared.kind.Kind.{Kind}
use Rattle.job_rows.specs.Escapes.{html_text}

-- by which the style and the filter tell rows apart
abbrev pub verdict_class : Result Verdict Error → List ℕ
verdict_class (Ok (Pass pages marks)) = codes "pass"
verdict_class (Ok (Fail place profile reason)) = codes "fail"
verdict_class (Err error) = codes "error"

abbrev pub verdict_name : Result Verdict Error → List ℕ
verdict_name (Ok (Pass pages marks)) = codes "PASS"
verdict_name (Ok (Fail place profile reason)) = codes "FAIL"
verdict_name (Err error) = codes "ERROR"

-- the printer that a row is about, or nothing where it is about none alone
abbrev pub printer_part : List (List ℕ) → ℕ → List ℕ
printer_part names number = if number == 0 then [] else html_text (get_or names (number - 1) [])

-- a row can be opened
unfoldable pub details_start : Reported → List ℕ
details_start report =
    let answer = verdict_told report.answer in
    codes "<details class=\"" ++ verdict_class answer ++ codes "\" data-printer=\""
    ++ printer_part report.names (number_told report.is_each answer) ++ codes "\">\n"

-- and shows its verdict first
unfoldable pub summary_start : Result Verdict Error → List ℕ
summary_start answer = codes "<summary><b>" ++ verdict_name answer ++ codes "</b> "

abbrev pub row_start : Reported → List ℕ
row_start report = details_start report ++ summary_start (verdict_told report.answer)

unfoldable pub sentence_part : Reported → List ℕ
sentence_part report = codes "<span>" ++ html_text (job_sentence report) ++ codes "</span>"

-- ---- badges

unfoldable pub page_badge : Option ℕ → List ℕ
page_badge None = []
page_badge (Some page) = named (codes " <i>page ") page ++ codes "</i>"

-- who says no, the page that is open there, and the byte
unfoldable pub fail_badges : Kind → Option ℕ → ℕ → List ℕ
fail_badges kind page place =
    codes " <i>" ++ kind_name kind ++ codes "</i>" ++ page_badge page ++ named (codes " <i>byte ") place ++ codes "</i>"

abbrev pub badges : Reported → Result Verdict Error → List ℕ
badges report (Ok (Pass pages marks)) = named (codes " <i>pages ") pages ++ codes "</i>"
badges report (Ok (Fail place profile reason)) =
    fail_badges (kind_of reason (failing_item_of report.answer)) (page_of report.answer) place
badges report (Err error) = []

-- ---- what stands open

-- an explanation, where there is one
unfoldable pub explanation_part : List ℕ → List ℕ
explanation_part explanation =
    if length explanation == 0 then [] else codes "<pre>" ++ html_text explanation ++ codes "</pre>\n"

-- the sentence of a note, and its explanation
unfoldable pub note_part : List ℕ → List ℕ → List ℕ
note_part explanation sentence =
    codes "<p>" ++ html_text sentence ++ codes "</p>\n" ++ explanation_part explanation

abbrev pub row_head : List ℕ → Reported → List ℕ
row_head explanation report =
    row_start report ++ sentence_part report ++ badges report (verdict_told report.answer) ++ codes "</summary>\n"
    ++ explanation_part explanation
