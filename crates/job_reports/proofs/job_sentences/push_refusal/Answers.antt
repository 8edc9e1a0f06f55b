use Rattle.std.proofs.Common.{◌≡◌, ◌∙◌, ◌++◌, ap, sym, append_assoc, codes}
use Rattle.std.proofs.lemmas.Result.{on_ok_weaker}
use Rattle.job_reports.specs.JobSentences.{for_each, refusal, subject}
use Rattle.job_reports.specs.Reports.{number_told, verdict_told}
use Rattle.job_reports.proofs.job_sentences.push_refusal.Goals as goal

pub returns-in_ok-extend_from_slice-in-Unchecked : goal.returns-in_ok-extend_from_slice-in-Unchecked
returns-in_ok-extend_from_slice-in-Unchecked g c =
    let old = c.args.line.now.items in
    let report = c.args.report.now in
    let who = subject report.names (number_told report.is_each (verdict_told report.answer)) in
    let each = for_each report.is_each report.names in
    on_ok_weaker c.push_for_each.result
    (λ (added : c.push_for_each.new.line.items ≡ c.extend_from_slice.new.self.items ++ each).
    added ∙ ap (λ l. l ++ each) c.in_ok-extend_from_slice-in-Unchecked.ensures.items
    ∙ append_assoc old (codes "pclcheck cannot judge this job") each
    ∙ ap (λ kind. old ++ refusal kind who each) (sym c.in-Unchecked.is))
    c.push_for_each.ensures

pub returns-in_ok-extend_from_slice-in-Wrong : goal.returns-in_ok-extend_from_slice-in-Wrong
returns-in_ok-extend_from_slice-in-Wrong g c =
    let old = c.args.line.now.items in
    let report = c.args.report.now in
    let who = subject report.names (number_told report.is_each (verdict_told report.answer)) in
    let each = for_each report.is_each report.names in
    on_ok_weaker c.push_for_each-in-Wrong.result
    (λ (added : c.push_for_each-in-Wrong.new.line.items ≡ c.extend_from_slice-in-Wrong.new.self.items ++ each).
    added ∙ ap (λ l. l ++ each) c.in_ok-extend_from_slice-in-Wrong.ensures.items
    ∙ append_assoc old (codes "this job is wrong") each
    ∙ ap (λ kind. old ++ refusal kind who each) (sym c.in-Wrong.is))
    c.push_for_each-in-Wrong.ensures
