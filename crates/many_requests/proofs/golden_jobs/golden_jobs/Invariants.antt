use Rattle.std.proofs.Common.{◌≡◌, map, take}
use Rattle.many_requests.specs.GoldenJobs.{golden_names, pair_by}
use Rattle.many_requests.proofs.golden_jobs.golden_jobs.Given as goal

abbrev pub invariant-loop-job : goal.invariant-loop-job
invariant-loop-job l =
    map golden_names l.golden.items ≡ map (λ job. pair_by l.folder job.now) (take l.job-index l.jobs)
