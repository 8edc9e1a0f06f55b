use Rattle.std.proofs.Common.{refl}
use Rattle.std.proofs.lemmas.Result.{err_from_is_err_and}
use Rattle.survey.proofs.Surveying.{surveys_more}
use Rattle.survey.proofs.surveyor.SurveyorConsumerUnit.piece.Goals as goal

pub returns-in_err-feed : goal.returns-in_err-feed
returns-in_err-feed g c = λ first bytes h.
    let same = err_from_is_err_and c.from_residual.result c.from_residual.ensures.1 in
    rw (same.1, same.2) (refl, tt)

pub returns-in_err-go_on : goal.returns-in_err-go_on
returns-in_err-go_on g c = λ first bytes h.
    let same = err_from_is_err_and c.from_residual-in_err-go_on.result c.from_residual-in_err-go_on.ensures.1 in
    rw (same.1, same.2) (refl, tt)

pub returns : goal.returns
returns g c = λ first bytes h.
    surveys_more first.0 c.args.self.now c.feed.new.self c.go_on.new.self bytes c.args.piece.now h c.in_ok-feed.ensures
    c.in_ok-go_on.ensures.surveyed c.in_ok-go_on.ensures.waits c.in_ok-go_on.ensures.total
