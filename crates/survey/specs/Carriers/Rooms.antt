-- A survey that goes on has the room that its bytes leave.
use Rattle.std.proofs.Common.{◌+◌, ◌≤◌, ℕ, List, length, arith}
use Rattle.survey.specs.Carriers.Surveying.{SurveyState, HasRoom, SurveysOn}

pub survey_leaves : (first : SurveyState) (bytes : List ℕ) (now : SurveyState) (room more : ℕ) → HasRoom first room →
    SurveysOn first bytes now → length bytes + more ≤ room → HasRoom now more
survey_leaves first bytes now room more has goes fits =
    record { short = goes.short; most = omega (arith, has.most, goes.total, fits) }
