use Rattle.std.proofs.Common.{sym, ◌∙◌}
use Rattle.comparison.proofs.Ends.{own_read}
use Rattle.page_comparison.proofs.reading.come.Goals as goal

pub returns-in-Ok-clause-run : goal.returns-in-Ok-clause-run
returns-in-Ok-clause-run g c = c.in-Ok.ensures.run

pub returns-in-Ok-clause-came : goal.returns-in-Ok-clause-came
returns-in-Ok-clause-came g c = c.in-Ok.ensures.came

pub returns-in-Err-clause-failed : goal.returns-in-Err-clause-failed
returns-in-Err-clause-failed g c = c.in-Err.ensures.read ∙ sym (own_read c.args.page_of.which c.in-Err.error)
