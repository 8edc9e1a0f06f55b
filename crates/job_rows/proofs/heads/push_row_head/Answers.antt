use Rattle.std.proofs.Common.{◌≡◌, ◌∙◌, ◌++◌, List, ℕ, ap, codes}
use Rattle.std.proofs.lemmas.Result.{on_ok_weaker}
use Rattle.job_reports.specs.Reports.{verdict_told}
use Rattle.job_rows.specs.Heads.{badges, explanation_part, row_start, sentence_part}
use Rattle.job_rows.proofs.Behind.{behind}
use Rattle.job_rows.proofs.heads.push_row_head.Goals as goal

pub returns : goal.returns
returns g c =
    let report = c.args.report.now in
    let old : List ℕ = c.args.text.now.items in
    let head : List ℕ = row_start report ++ sentence_part report in
    let told : List ℕ = head ++ badges report (verdict_told report.answer) in
    let shown : List ℕ = told ++ codes "</summary>\n" in
    let one = behind old _ _ (row_start report) (sentence_part report) c.in_ok-push_row_start.ensures c.in_ok-push_sentence.ensures in
    let two = behind old _ _ head (badges report (verdict_told report.answer)) one c.in_ok-push_badges.ensures in
    let three = behind old _ _ told (codes "</summary>\n") two c.in_ok-extend_from_slice.ensures.items in
    on_ok_weaker c.push_explanation.result
    (λ (added : c.push_explanation.new.text.items ≡ c.extend_from_slice.new.self.items ++ explanation_part c.as_bytes.result.now).
    behind old _ _ shown (explanation_part c.args.explanation.now) three
    (added ∙ ap (λ (e : List ℕ). c.extend_from_slice.new.self.items ++ explanation_part e) c.as_bytes.ensures.value))
    c.push_explanation.ensures
