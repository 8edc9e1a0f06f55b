use Rattle.many_jobs.proofs.Limiting.{AreLimitedUpTo}
use Rattle.many_jobs.proofs.limited.limit_each.Given as goal

abbrev pub invariant-loop-profile : goal.invariant-loop-profile
invariant-loop-profile g l = AreLimitedUpTo l.most l.profile-index l.initial.fleet l.fleet
