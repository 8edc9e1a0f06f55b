use Rattle.survey.proofs.Tallies.{written_in_part, written_whole}
use Rattle.survey.proofs.command.write_whole.Goals as goal

pub returns-in-Ok : goal.returns-in-Ok
returns-in-Ok g c = written_whole _ _ _ c.in-Ok.ensures.text c.in-Ok.ensures.status

pub returns-in-Err : goal.returns-in-Err
returns-in-Err g c = written_in_part _ _ _ c.in-Err.ensures.text c.in-Err.ensures.status
