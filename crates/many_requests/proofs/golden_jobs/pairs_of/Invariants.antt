use Rattle.std.proofs.Common.{◌≡◌, map, take}
use Rattle.compare_command.specs.Golden.{names_of}
use Rattle.many_requests.specs.GoldenJobs.{golden_names}
use Rattle.many_requests.proofs.golden_jobs.pairs_of.Given as goal

abbrev pub invariant-loop-job : goal.invariant-loop-job
invariant-loop-job l = map names_of l.pairs.items ≡ map golden_names (take l.job-index l.golden)
