use Rattle.std.proofs.Common.{subst}
use Rattle.job_reports.specs.Groups.{Groups}
use Rattle.foreign_calls.specs.Checked.{Checks}
use Rattle.pclcheck_c.proofs.checking.check.Goals as goal

pub returns : goal.returns
returns c =
    subst (λ (group : Groups). Checks group.fleet c.args.job.now c.check.result c.args.row.now c.check.new.row)
    c.asked-group.ensures c.check.ensures
