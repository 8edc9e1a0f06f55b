use Rattle.survey.proofs.OneSurvey.{one_survey}
use Rattle.survey.proofs.laws.one_survey.Goals as goal

pub returns : goal.returns
returns c = one_survey
