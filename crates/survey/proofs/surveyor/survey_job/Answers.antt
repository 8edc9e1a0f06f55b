use Rattle.survey.proofs.Surveying.{job_tallied, survey_errors, surveys_begun}
use Rattle.survey.proofs.Surveyors.{begun_room}
use Rattle.survey.proofs.surveyor.survey_job.Goals as goal

pub read_job-requires-clause-room : goal.read_job-requires-clause-room
read_job-requires-clause-room g c = begun_room c.begin.new.self c.args.job c.args.surveyor.now.tally c.begin.ensures

pub read_job-requires-clause-fresh : goal.read_job-requires-clause-fresh
read_job-requires-clause-fresh g c = surveys_begun c.begin.new.self c.args.job c.args.surveyor.now.tally c.begin.ensures

pub returns-clause-told : goal.returns-clause-told
returns-clause-told g c =
    job_tallied c.begin.new.self c.read_job.new.consumer c.args.job c.args.surveyor.now.tally _ _ c.read_job.result c.begin.ensures
    c.read_job.ensures.answered

pub returns-clause-errors : goal.returns-clause-errors
returns-clause-errors g c =
    survey_errors (c.begin.new.self, tt) (c.read_job.new.consumer, tt) _ _ c.read_job.result c.read_job.ensures.stopped
