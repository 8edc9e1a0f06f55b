use Rattle.std.proofs.Common.{refl}
use Rattle.std.proofs.lemmas.Result.{err_from_is_err_and}
use Rattle.survey.proofs.Surveying.{surveyed_all}
use Rattle.survey.proofs.surveyor.SurveyorConsumerUnit.end.Goals as goal

pub returns-in_err-finish : goal.returns-in_err-finish
returns-in_err-finish g c = λ first bytes h.
    let same = err_from_is_err_and c.from_residual.result c.from_residual.ensures.1 in
    rw (same.1, same.2) (refl, tt)

pub returns : goal.returns
returns g c = λ first bytes h pieces spelled.
    surveyed_all first.0 c.args.self.now c.finish.new.self bytes pieces h c.in_ok-finish.ensures spelled
