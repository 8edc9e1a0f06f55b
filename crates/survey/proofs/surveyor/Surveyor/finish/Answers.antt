use Rattle.std.proofs.Common.{◌≡◌}
use Rattle.std.proofs.lemmas.Result.{on_ok_weaker}
use Rattle.survey.specs.Carriers.Surveying.{with_told}
use Rattle.survey.proofs.Surveyors.{survey_finishes}
use Rattle.survey.proofs.surveyor.Surveyor.finish.Goals as goal

pub returns : goal.returns
returns g c =
    on_ok_weaker c.count.result
    (λ (told : c.count.new.self ≡ with_told c.told_at_end-last.result c.go_on.new.self).
    survey_finishes c.args.self.now c.go_on.new.self c.count.new.self c.told_at_end-last.result c.in_ok-go_on.ensures.surveyed
    c.in_ok-go_on.ensures.waits c.told_at_end-last.ensures told)
    c.count.ensures
