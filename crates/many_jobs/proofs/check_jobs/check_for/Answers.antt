use Rattle.std.proofs.Common.{ap, inl, inr, refl, sym, ◌∙◌}
use Rattle.requests.specs.Status.{is_stop_of_write}
use Rattle.many_jobs.proofs.Stopping.{ending_told}
use Rattle.many_jobs.proofs.check_jobs.check_for.Goals as goal

pub returns-in-Ok-clause-left : goal.returns-in-Ok-clause-left
returns-in-Ok-clause-left g c = inl (c.in-Ok.ending, c.status_of.ensures, c.in-Ok.ensures.told)

pub returns-in-Err-clause-left : goal.returns-in-Err-clause-left
returns-in-Err-clause-left g c = inr (c.in-Err.error, refl, c.in-Err.ensures.errors, c.in-Err.ensures.front)

pub returns-in-Ok-clause-write : goal.returns-in-Ok-clause-write
returns-in-Ok-clause-write g c =
    c.in-Ok.ensures.write ∙ sym (ap is_stop_of_write c.status_of.ensures ∙ (ending_told c.in-Ok.ending).1)
