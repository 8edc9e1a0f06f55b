use Rattle.std.proofs.Common.{◌∙◌, ◌++◌, List, ℕ, ap, codes, sym}
use Rattle.job_reports.specs.Reports.{number_told, verdict_told}
use Rattle.job_reports.proofs.Appending.{five_appended}
use Rattle.job_rows.specs.Heads.{details_start, printer_part, verdict_class}
use Rattle.job_rows.proofs.heads.push_details_start.Goals as goal

pub returns : goal.returns
unfolding details_start
returns g c =
    let report = c.args.report.now in
    let printer : List ℕ = printer_part report.names (number_told report.is_each (verdict_told report.answer)) in
    five_appended c.extend_from_slice-4.result c.args.text.now.items _ _ _ _ _ (codes "<details class=\"") _
    (codes "\" data-printer=\"") printer (codes "\">\n") _
    c.in_ok-extend_from_slice.ensures.items c.in_ok-extend_from_slice-2.ensures.items c.in_ok-extend_from_slice-3.ensures.items
    c.in_ok-push_printer.ensures c.extend_from_slice-4.ensures.items
    (ap (λ (class : List ℕ). codes "<details class=\"" ++ class ++ codes "\" data-printer=\"" ++ printer ++ codes "\">\n")
    (sym (c.verdict_class.ensures ∙ ap verdict_class c.verdict.ensures)))
