use Rattle.std.proofs.Common.{◌≡◌, false, take}
use Rattle.std.specs.List.{list_any}
use Rattle.many_requests.specs.Documents.{has_same_part}
use Rattle.many_requests.proofs.documents.is_named_in.Given as goal

abbrev pub invariant-loop-job : goal.invariant-loop-job
invariant-loop-job l = list_any (λ job. has_same_part l.part job.now) (take l.job-index l.jobs) ≡ false
