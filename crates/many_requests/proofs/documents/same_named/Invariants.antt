use Rattle.std.proofs.Common.{◌≡◌, drop, map}
use Rattle.many_requests.specs.Documents.{same_named}
use Rattle.many_requests.proofs.documents.same_named.Given as goal

abbrev pub invariant-loop-at : goal.invariant-loop-at
invariant-loop-at l = same_named (map (λ job. job.now) (drop l.at l.jobs)) ≡ same_named (map (λ job. job.now) l.jobs)
