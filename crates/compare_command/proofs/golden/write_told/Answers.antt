use Rattle.compare_command.proofs.golden.write_told.Goals as goal

pub returns-in-Ok-clause-written : goal.returns-in-Ok-clause-written
returns-in-Ok-clause-written g c = c.in-Ok.ensures.text.whole c.in-Ok.ensures.status

pub returns-in-Ok-clause-working : goal.returns-in-Ok-clause-working
returns-in-Ok-clause-working g c = c.in-Ok.ensures.status

pub returns-in-Err-clause-failed : goal.returns-in-Err-clause-failed
returns-in-Err-clause-failed g c = c.in-Err.ensures.status

pub returns-in-Err-clause-front : goal.returns-in-Err-clause-front
returns-in-Err-clause-front g c = c.in-Err.ensures.text.front
