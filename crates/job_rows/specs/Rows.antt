-- The row of a job.
use Rattle.std.specs.Prelude.{ℕ, List, ◌++◌, codes, Bool, Option, Result}
use Rattle.streams.specs.declared.error.Error.{Error}
use Rattle.verdict.specs.declared.verdict.Verdict.{Verdict}
use Rattle.job_reports.specs.Reports.{Reported, verdict_told}
use Rattle.job_rows.specs.Bodies.{near_part, notes_part, once_part, page_part}
use Rattle.job_rows.specs.Heads.{row_head}
use Rattle.job_rows.specs.Links.{DocumentTold, link_part}

-- what further readings of a job told, where there were some: its notes, the items near the place at which it fails,
-- and the picture of a page; whether it can be read only once; and where its document is, if it has one
pub record PartsTold : Type 0 where
  pub notes : Option (Result (List ℕ) Error)
  pub near : Option (Result (List ℕ) Error)
  pub page : Option (Result (List ℕ) Error)
  pub is_once : Bool
  pub document : Option DocumentTold

unfoldable pub row_body : Result Verdict Error → PartsTold → List ℕ
row_body answer parts =
    notes_part parts.notes ++ near_part parts.near ++ page_part answer parts.page ++ once_part parts.is_once
    ++ link_part answer parts.document

-- its head, with an explanation where there is one, and what it opens to
unfoldable pub row_text : (explanation : List ℕ) → Reported → PartsTold → List ℕ
row_text explanation report parts =
    row_head explanation report ++ row_body (verdict_told report.answer) parts ++ codes "</details>\n"
