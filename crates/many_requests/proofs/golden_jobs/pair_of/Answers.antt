use Rattle.std.proofs.Common.{List, ap, ℕ}
use Rattle.compare_command.specs.Golden.{pair_names}
use Rattle.many_requests.proofs.golden_jobs.pair_of.Goals as goal

pub returns : goal.returns
returns c = ap (λ (path : List ℕ). pair_names path c.args.job.now.new_name.now) c.as_str.ensures.value
