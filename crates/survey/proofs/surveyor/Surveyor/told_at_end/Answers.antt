use Rattle.std.proofs.Common.{◌≡◌, ◌+◌, ℕ, List, ap, arith, sym, ◌∙◌}
use Rattle.survey.specs.Survey.{at_end}
use Rattle.survey.specs.Carriers.Steps.{standing_view}
use Rattle.survey.specs.Carriers.Surveying.{SurveyState}
use Rattle.survey.proofs.surveyor.Surveyor.told_at_end.Goals as goal

pub at_end-requires : goal.at_end-requires
at_end-requires g c =
    let place : c.place.result ≡ c.self.inside.dropped + c.self.inside.at =
    c.place.ensures ∙ sym (ap (λ (s : SurveyState). s.place) c.self.view_is) in
    omega (arith, place, c.self.invariant.3)

pub returns : goal.returns
returns g c =
    let old = c.args.self.now in
    let standing = standing_view c.self.inside.standing in
    c.at_end.ensures
    ∙ (ap (λ (n : ℕ). at_end standing n c.rest.result.now) c.place.ensures
    ∙ (ap (λ (bytes : List ℕ). at_end standing old.place bytes) c.rest.ensures
    ∙ ap (λ (s : SurveyState). at_end s.standing old.place old.rest) c.self.view_is))
