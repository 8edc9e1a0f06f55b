use Rattle.std.proofs.Common.{◌≡◌}
use Rattle.many_requests.proofs.documents.first_job.Given as goal

-- no look has found a file so far
abbrev pub invariant-loop-job : goal.invariant-loop-job
invariant-loop-job g l = l.used ≡ l.initial.used
