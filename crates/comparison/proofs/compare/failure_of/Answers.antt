use Rattle.std.proofs.Common.{sym, ◌∙◌}
use Rattle.comparison.proofs.Ends.{own_read}
use Rattle.comparison.proofs.compare.failure_of.Goals as goal

pub returns-in-Ok-clause-run : goal.returns-in-Ok-clause-run
returns-in-Ok-clause-run g c = c.in-Ok.ensures.run

pub returns-in-Err-clause-read : goal.returns-in-Err-clause-read
returns-in-Err-clause-read g c = c.in-Err.ensures.read ∙ sym (own_read c.args.which c.in-Err.error)
