use Rattle.compare_command.proofs.finding.compare_events.Goals as goal

pub returns-in-Ok-clause-compared : goal.returns-in-Ok-clause-compared
returns-in-Ok-clause-compared g c = c.in-Ok.ensures.compared

pub stop_of_reading-requires : goal.stop_of_reading-requires
stop_of_reading-requires g c = c.in-Err.ensures.err

pub returns-in-Err-clause-stopped : goal.returns-in-Err-clause-stopped
returns-in-Err-clause-stopped g c =
    c.stop_of_reading.ensures (g.S.Source.state c.compare_jobs.new.old_job) (g.S.Source.state c.compare_jobs.new.new_job)
    c.in-Err.ensures.old_read c.in-Err.ensures.new_read
