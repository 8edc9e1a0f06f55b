use Rattle.std.proofs.Common.{◌∙◌, ap, slice_get}
use Rattle.many_jobs.proofs.JobRow.{copied_at}
use Rattle.many_jobs.proofs.job_row.printer_of.Goals as goal

pub returns : goal.returns
returns g c =
    copied_at c.args.printers.now c.saturating_sub.result c.get.result c.get.ensures.lookup
    ∙ ap (slice_get c.args.printers.now) c.saturating_sub.ensures
