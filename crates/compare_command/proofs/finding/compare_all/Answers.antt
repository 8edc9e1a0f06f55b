use Rattle.compare_command.proofs.finding.compare_all.Goals as goal

pub returns-in-Ok-clause-compared : goal.returns-in-Ok-clause-compared
returns-in-Ok-clause-compared g c = c.in-Ok.ensures.compared

pub stop_of_pages-requires : goal.stop_of_pages-requires
stop_of_pages-requires g c = c.in-Err.ensures.err

pub returns-in-Err-clause-stopped : goal.returns-in-Err-clause-stopped
returns-in-Err-clause-stopped g c =
    c.stop_of_pages.ensures (g.S.Source.state c.compare_pages.new.old_job) (g.S.Source.state c.compare_pages.new.new_job)
    c.in-Err.ensures.old_read c.in-Err.ensures.new_read
