use Rattle.std.proofs.Common.{lit<}
use Rattle.many_jobs.proofs.fleet_file.is_sample.Goals as goal

pub returns : goal.returns
returns c = c.starts_with.ensures.byte (lit< tt) (lit< tt) (λ w o found. found)
