use Rattle.std.proofs.Common.{◌≡◌, false, take}
use Rattle.std.specs.List.{list_any}
use Rattle.many_jobs.specs.JobRow.{has_name}
use Rattle.many_jobs.proofs.job_row.is_among.Given as goal

abbrev pub invariant-loop-name : goal.invariant-loop-name
invariant-loop-name l = list_any (λ name. has_name l.job name.now) (take l.name-index l.names) ≡ false
