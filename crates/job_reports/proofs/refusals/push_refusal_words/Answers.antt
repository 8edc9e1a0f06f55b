use Rattle.std.proofs.Common.{◌++◌, ap, sym, codes}
use Rattle.line_words.specs.Figures.{named}
use Rattle.job_reports.proofs.Appending.{four_appended}
use Rattle.job_reports.proofs.refusals.push_refusal_words.Goals as goal

pub returns : goal.returns
returns g c =
    let front = named (codes " (ERROR profile ") c.args.number in
    four_appended c.extend_from_slice-3.result c.args.text.now.items _ _ _ _ front (codes " ") c.cause_name.result.now (codes ")\n") _
    c.in_ok-push_named.ensures c.in_ok-extend_from_slice.ensures.items c.in_ok-extend_from_slice-2.ensures.items
    c.extend_from_slice-3.ensures.items
    (ap (λ name. front ++ codes " " ++ name ++ codes ")\n") (sym c.cause_name.ensures))
