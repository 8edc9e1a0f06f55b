use Rattle.survey.proofs.Tallies.{jobs_next, stops_next}
use Rattle.survey.proofs.command.survey_next.Goals as goal

pub returns-clause-tallied : goal.returns-clause-tallied
returns-clause-tallied g c =
    jobs_next c.survey_one-answer.result (g.J.Jobs.start c.args.jobs.now) c.args.name.now
    c.as_bytes-bytes.result.now _ _ _ _ c.args.number _ _ c.as_bytes-bytes.ensures.value c.job-job.ensures.start
    c.end.ensures.ended c.survey_one-answer.ensures.tallied

pub returns-clause-stopped : goal.returns-clause-stopped
returns-clause-stopped g c =
    stops_next c.survey_one-answer.result c.args.name.now c.as_bytes-bytes.result.now _ _ _ _ _ c.as_bytes-bytes.ensures.value
    c.end.ensures.ended c.survey_one-answer.ensures.stopped
