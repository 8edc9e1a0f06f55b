use Rattle.std.proofs.Common.{OnOk, ap, map, option_map, ◌≡◌, ◌++◌}
use Rattle.job_reports.specs.Groups.{Groups}
use Rattle.job_reports.specs.Reports.{Reported}
use Rattle.compare_command.specs.Telling.{failure_text}
use Rattle.compare_command.proofs.Names.{of_unread}
use Rattle.compare_command.proofs.telling.push_unread.Goals as goal

pub returns : goal.returns
returns c =
    let group = c.new-printers.ensures in
    of_unread c.new-printers.result.is_each c.new-printers.result.names (map (λ name. name.items) c.args.names.now)
    c.as_bytes.result.now c.args.job.now c.args.error (option_map (λ words. words.now) c.args.cause)
    (ap (λ (g : Groups). g.is_each) group) (ap (λ (g : Groups). g.names) group) c.as_bytes.ensures.value
    (λ (report : Reported). OnOk c.push_report.result (c.push_report.new.text.items
    ≡ c.args.text.now.items ++ failure_text c.args.form report))
    c.push_report.ensures
