-- What the parts of a surveyor leave, by its fields.
use Rattle.std.proofs.Common.{◌≡◌, ℕ, ◌+◌, ◌<◌, ◌≤◌, ◌^◌, List, ◌++◌, length, drop, Bool, true, false, Option, refl, ap, subst, sym, ◌∙◌}
use Rattle.std.proofs.Common.{arith, length-drop, option_to_list}
use Rattle.survey.specs.declared.refusal.Refusal.{Refusal}
use Rattle.survey.specs.declared.step.Standing as code_standing
use Rattle.survey.specs.declared.step.Step.{Step}
use Rattle.survey.specs.Survey.{Standing, Waits, at_end}
use Rattle.survey.specs.Tally.{Tally, tallied}
use Rattle.survey.specs.Carriers.Steps.{IsStep, due, standing_view}
use Rattle.survey.specs.Carriers.Surveying.{EndsSurvey, HasRoom, SurveyState, Surveyed, at_start, with_told}
use Rattle.survey.proofs.Surveying.{survey_ends}

abbrev pub stands_at : ℕ → Tally → code_standing.Standing → (dropped at : ℕ) → List ℕ → SurveyState
stands_at job tally standing dropped at window = record {
  rest = drop at window;
  place = dropped + at;
  standing = standing_view standing;
  job = job;
  tally = tally;
}

-- ---- a step, behind which what is told is counted

module _ (whole : Bool) (old new : SurveyState) (job : ℕ) (tally : Tally) (standing : code_standing.Standing) (dropped at : ℕ)
    (window : List ℕ) (step : Step) (is : stands_at job tally standing dropped at window ≡ old)
    (h : IsStep whole (standing_view standing) dropped at window step)
    (told : new ≡ with_told step.told (stands_at job tally step.standing dropped step.at window)) where
  abbrev behind : SurveyState
  behind = stands_at job tally step.standing dropped step.at window

  pub step_surveyed : Surveyed whole old new
  step_surveyed =
      let here : Surveyed whole (stands_at job tally standing dropped at window) (with_told step.told behind) =
      record { told = option_to_list step.told; leads = h.leads; tally = refl; job = refl } in
      subst (λ (s : SurveyState). Surveyed whole old s) (sym told)
      (subst (λ (s : SurveyState). Surveyed whole s (with_told step.told behind)) is here)

  pub step_less : step.waits ≡ false → due new.standing new.rest < due old.standing old.rest
  step_less e =
      subst (λ (s : SurveyState). due s.standing s.rest < due old.standing old.rest) (sym told)
      (subst (λ (s : SurveyState). due behind.standing behind.rest < due s.standing s.rest) is (h.less e))

  pub step_no_more : due new.standing new.rest ≤ due old.standing old.rest
  step_no_more =
      subst (λ (s : SurveyState). due s.standing s.rest ≤ due old.standing old.rest) (sym told)
      (subst (λ (s : SurveyState). due behind.standing behind.rest ≤ due s.standing s.rest) is h.no_more)

  pub step_waits : step.waits ≡ true → Waits whole new.standing new.rest
  step_waits e = subst (λ (s : SurveyState). Waits whole s.standing s.rest) (sym told) (h.waits e)

  pub step_total : at ≤ length window → new.place + length new.rest ≡ old.place + length old.rest
  step_total inside =
      let here : dropped + step.at + length (drop step.at window) ≡ dropped + at + length (drop at window) =
      omega (arith, length-drop step.at window, length-drop at window, h.inside, inside) in
      subst (λ (s : SurveyState). s.place + length s.rest ≡ old.place + length old.rest) (sym told)
      (subst (λ (s : SurveyState). dropped + step.at + length (drop step.at window) ≡ s.place + length s.rest) is here)

-- ---- a piece that is fed, and the end

pub fed_state : (old : SurveyState) (job : ℕ) (tally : Tally) (standing : code_standing.Standing) (dropped at : ℕ)
    (window window' piece : List ℕ) → stands_at job tally standing dropped at window ≡ old → window' ≡ drop at window ++ piece →
    stands_at job tally standing (dropped + at) 0 window' ≡ record old { rest = old.rest ++ piece }
fed_state old job tally standing dropped at window window' piece is fed =
    let place : dropped + at + 0 ≡ dropped + at = omega arith in
    (λ i. record { rest = fed i; place = place i; standing = standing_view standing; job = job; tally = tally })
    ∙ ap (λ (s : SurveyState). record s { rest = s.rest ++ piece }) is

-- where it came to wait, and what is told there was counted
pub survey_finishes : (old now new : SurveyState) (last : Option Refusal) → Surveyed true old now → Waits true now.standing now.rest →
    last ≡ at_end now.standing now.place now.rest → new ≡ with_told last now → EndsSurvey old new
survey_finishes old now new last h waits last_is told =
    subst (λ (s : SurveyState). EndsSurvey old s) (sym told)
    (survey_ends old now (tallied now.job (option_to_list last) now.tally) h waits
    (ap (λ (o : Option Refusal). tallied now.job (option_to_list o) now.tally) last_is))

-- a job is begun with room for all that 2^40 reads give
pub begun_room : (begun : SurveyState) (job : ℕ) (tally : Tally) → begun ≡ at_start job tally → HasRoom begun (2 ^ 52)
begun_room begun job tally is =
    subst (λ (s : SurveyState). HasRoom s (2 ^ 52)) (sym is) (record { short = omega arith; most = omega arith })
