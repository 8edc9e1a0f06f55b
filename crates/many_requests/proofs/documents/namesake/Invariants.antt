use Rattle.std.proofs.Common.{◌≡◌, drop, map}
use Rattle.many_requests.specs.Documents.{namesake}
use Rattle.many_requests.proofs.documents.namesake.Given as goal

abbrev pub invariant-loop-other : goal.invariant-loop-other
invariant-loop-other l =
    namesake l.job (map (λ job. job.now) (drop l.other-index l.jobs)) ≡ namesake l.job (map (λ job. job.now) l.jobs)
