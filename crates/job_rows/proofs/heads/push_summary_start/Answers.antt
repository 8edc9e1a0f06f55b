use Rattle.std.proofs.Common.{◌++◌, List, ℕ, ap, codes, sym}
use Rattle.job_reports.proofs.Appending.{three_appended}
use Rattle.job_rows.specs.Heads.{summary_start}
use Rattle.job_rows.proofs.heads.push_summary_start.Goals as goal

pub returns : goal.returns
unfolding summary_start
returns g c =
    three_appended c.extend_from_slice-3.result c.args.text.now.items _ _ _ (codes "<summary><b>") _ (codes "</b> ") _
    c.in_ok-extend_from_slice.ensures.items c.in_ok-extend_from_slice-2.ensures.items c.extend_from_slice-3.ensures.items
    (ap (λ (name : List ℕ). codes "<summary><b>" ++ name ++ codes "</b> ") (sym c.verdict_name.ensures))
