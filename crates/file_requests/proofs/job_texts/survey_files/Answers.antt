use Rattle.std.proofs.Common.{map}
use Rattle.file_requests.proofs.OnFiles.{survey_left}
use Rattle.file_requests.proofs.job_texts.survey_files.Goals as goal

pub returns : goal.returns
returns g c =
    survey_left (map (λ job. job.now) c.args.jobs.now) c.args.form c.new-files.result c.survey_jobs-status.new.jobs _ _ _ _ _ _ _
    c.new-files.ensures c.tell.ensures c.survey_jobs-status.ensures
