use Rattle.std.proofs.Common.{◌≡◌, Option, Some, ap, sym, ◌∙◌}
use Rattle.std.proofs.lemmas.Result.{on_ok_weaker}
use Rattle.survey.specs.declared.refusal.Refusal.{Refusal}
use Rattle.survey.specs.Tally.{Tally, told_in}
use Rattle.survey.specs.Carriers.Surveying.{SurveyState, with_told}
use Rattle.survey.proofs.Surveyors.{stands_at}
use Rattle.survey.proofs.surveyor.Surveyor.count.Goals as goal

pub returns-in-Some : goal.returns-in-Some
returns-in-Some g c =
    let l = c.self.inside in
    on_ok_weaker c.tell.result
    (λ (told : c.tell.new.self ≡ told_in l.job c.in-Some.refusal l.table).
    ap (λ (tally : Tally). stands_at l.job tally l.standing l.dropped l.at l.window.items) told
    ∙ ap (λ (s : SurveyState). with_told (Some c.in-Some.refusal) s) c.self.view_is
    ∙ ap (λ (o : Option Refusal). with_told o c.args.self.now) (sym c.in-Some.is))
    c.tell.ensures
