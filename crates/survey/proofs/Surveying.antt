-- Steps of a survey one behind another, and the pieces of a job.
use Rattle.std.proofs.Common.{◌≡◌, ℕ, ◌+◌, ◌*◌, ◌<◌, ◌≤◌, List, [], ◌∷◌, ◌++◌, length, Bool, true, false, refl, sym, ap, subst, ◌∙◌, arith}
use Rattle.std.proofs.Common.{append-nil, append_assoc, if◌then◌else◌, length-append, option_to_list, Result, Ok, Err, IfOk, IfErr}
use Rattle.pcl_lexer.proofs.Lexing.Bounds.{open_is_short}
use Rattle.streams.specs.declared.error.Error.{Error}
use Rattle.streams.specs.declared.error.Error.TheVariants.{Memory, Read, Write, Turns, NoProfile, Items}
use Rattle.streams.specs.Driving.{IsAnswered, IsStopped, StopsBy}
use Rattle.streams.specs.Pieces.{MayBeBy, Spell}
use Rattle.streams.specs.Source.{SourceState}
use Rattle.streams.proofs.Driving.{answer_gives, stop_gives}
use Rattle.survey.specs.declared.refusal.Refusal.{Refusal}
use Rattle.survey.specs.Survey.{Standing, Reads, Passes, Tells, Waits, at_end, ends}
use Rattle.survey.specs.Tally.{Tally, tallied, told_in}
use Rattle.survey.specs.Carriers.Steps.{Leads}
use Rattle.survey.specs.Surveys.{IsErrorOfSurvey, IsTallied}
use Rattle.survey.specs.Carriers.Surveying.{SurveyState, Surveyed, SurveysOn, EndsSurvey, IsSurveyed, at_start, most_left}

-- ---- refusals one behind another

pub tallied_append : (job : ℕ) (xs ys : List Refusal) (tally : Tally) → tallied job (xs ++ ys) tally ≡ tallied job ys (tallied job xs tally)
tallied_append job [] ys tally = refl
tallied_append job (x ∷ xs) ys tally = tallied_append job xs ys (told_in job x tally)

pub leads_on : (whole : Bool) (a b c : Standing) (p q r : ℕ) (xs ys zs : List ℕ) (first second : List Refusal) →
    Leads whole a p xs first b q ys → Leads whole b q ys second c r zs → Leads whole a p xs (first ++ second) c r zs
leads_on whole a b c p q r xs ys zs first second h k = λ more others none t.
    subst (λ (l : List Refusal). Tells a p (xs ++ more) l) (sym (append_assoc first second others))
    (h more (second ++ others) none (k more others none t))

-- ---- steps

pub surveyed_none : (whole : Bool) (now : SurveyState) → Surveyed whole now now
surveyed_none whole now = record { told = []; leads = λ more others none t. t; tally = refl; job = refl }

pub surveyed_on : (whole : Bool) (a b c : SurveyState) → Surveyed whole a b → Surveyed whole b c → Surveyed whole a c
surveyed_on whole a b c h k = record {
  told = h.told ++ k.told;
  leads =
      leads_on whole a.standing b.standing c.standing a.place b.place c.place a.rest b.rest c.rest h.told k.told h.leads k.leads;
  tally =
      k.tally ∙ (ap (λ job. tallied job k.told b.tally) h.job
      ∙ (ap (λ tally. tallied a.job k.told tally) h.tally ∙ sym (tallied_append a.job h.told k.told a.tally)));
  job = k.job ∙ h.job;
}

-- the measure of going on: the last step takes nothing, but goes on no more
pub goes_less : (went goes : Bool) (new old : ℕ) → goes ≡ true → (went ≡ true → new < old) → new ≤ old →
    2 * new + (if went then 1 else 0) < 2 * old + (if goes then 1 else 0)
goes_less true true new old e less most = omega (arith, less refl)
goes_less false true new old e less most = omega arith
goes_less went false new old e less most = absurd cc

-- few bytes decide nothing
pub waits_short : (standing : Standing) (bytes : List ℕ) → Waits false standing bytes → length bytes ≤ most_left
waits_short (Reads c) bytes e = open_is_short c bytes e
waits_short (Passes part) bytes e = subst (λ (l : List ℕ). length l ≤ most_left) (sym e) (omega arith)

-- ---- the end

-- where it came to wait, and what is told there was counted
pub survey_ends : (old now : SurveyState) (tally : Tally) → Surveyed true old now → Waits true now.standing now.rest →
    tally ≡ tallied now.job (option_to_list (at_end now.standing now.place now.rest)) now.tally →
    EndsSurvey old (record now { tally = tally })
survey_ends old now tally h waits counts =
    let last : List Refusal = option_to_list (at_end now.standing now.place now.rest) in
    let tells : Tells old.standing old.place (old.rest ++ []) (h.told ++ last) =
    h.leads [] last (λ e. refl)
    (subst (λ (l : List ℕ). Tells now.standing now.place l last) (sym (append-nil now.rest)) (ends waits)) in
    record {
      told = h.told ++ last;
      tells = subst (λ (l : List ℕ). Tells old.standing old.place l (h.told ++ last)) (append-nil old.rest) tells;
      tally =
          counts ∙ (ap (λ job. tallied job last now.tally) h.job
          ∙ (ap (λ tally. tallied old.job last tally) h.tally ∙ sym (tallied_append old.job h.told last old.tally)));
    }

-- ---- the pieces of a job

pub surveys_none : (first : SurveyState) → length first.rest ≤ most_left → SurveysOn first [] first
surveys_none first short = record {
  told = [];
  leads = λ more others none t.
      subst (λ (l : List ℕ). Tells first.standing first.place (l ++ more) others) (sym (append-nil first.rest)) t;
  tally = refl;
  job = refl;
  short = short;
  total = omega arith;
}

-- a piece was fed, and it went on as far as that decides
pub surveys_more : (first now fed new : SurveyState) (bytes piece : List ℕ) → SurveysOn first bytes now →
    fed ≡ record now { rest = now.rest ++ piece } → Surveyed false fed new → Waits false new.standing new.rest →
    new.place + length new.rest ≡ fed.place + length fed.rest → SurveysOn first (bytes ++ piece) new
surveys_more first now fed new bytes piece h is went waits total =
    let from : Surveyed false (record now { rest = now.rest ++ piece }) new =
    subst (λ (s : SurveyState). Surveyed false s new) is went in
    let place : new.place + length new.rest ≡ now.place + length (now.rest ++ piece) =
    total ∙ ap (λ (s : SurveyState). s.place + length s.rest) is in
    record {
      told = h.told ++ from.told;
      leads = λ more others none t.
          let behind : (now.rest ++ piece) ++ more ≡ now.rest ++ (piece ++ more) = append_assoc now.rest piece more in
          let mid : Tells now.standing now.place (now.rest ++ (piece ++ more)) (from.told ++ others) =
          subst (λ (l : List ℕ). Tells now.standing now.place l (from.told ++ others)) behind (from.leads more others none t) in
          let all : Tells first.standing first.place ((first.rest ++ bytes) ++ (piece ++ more)) (h.told ++ (from.told ++ others)) =
          h.leads (piece ++ more) (from.told ++ others) (λ (e : false ≡ true). absurd cc) mid in
          let same : (first.rest ++ bytes) ++ (piece ++ more) ≡ (first.rest ++ (bytes ++ piece)) ++ more =
          sym (append_assoc (first.rest ++ bytes) piece more) ∙ ap (λ l. l ++ more) (append_assoc first.rest bytes piece) in
          subst (λ (l : List ℕ). Tells first.standing first.place l ((h.told ++ from.told) ++ others)) same
          (subst (λ (l : List Refusal). Tells first.standing first.place ((first.rest ++ bytes) ++ (piece ++ more)) l)
          (sym (append_assoc h.told from.told others)) all);
      tally =
          from.tally ∙ (ap (λ job. tallied job from.told now.tally) h.job
          ∙ (ap (λ tally. tallied first.job from.told tally) h.tally ∙ sym (tallied_append first.job h.told from.told first.tally)));
      job = from.job ∙ h.job;
      short = waits_short new.standing new.rest waits;
      total = omega (arith, place, h.total, length-append now.rest piece, length-append bytes piece);
    }

-- and then all bytes were there
pub surveyed_all : (first now new : SurveyState) (bytes : List ℕ) (pieces : List (List ℕ)) → SurveysOn first bytes now →
    EndsSurvey now new → Spell pieces bytes → IsSurveyed first (pieces ++ [] ∷ []) new
surveyed_all first now new bytes pieces h ended spelled = record {
  told = h.told ++ ended.told;
  tells = λ job may.
      let front = spelled.leads ([] ∷ []) job may in
      let is : job ≡ bytes = front.1 ∙ (ap (λ l. bytes ++ l) front.2 ∙ append-nil bytes) in
      let end : Tells now.standing now.place (now.rest ++ []) ended.told =
      subst (λ (l : List ℕ). Tells now.standing now.place l ended.told) (sym (append-nil now.rest)) ended.tells in
      let told : Tells now.standing now.place (now.rest ++ []) (ended.told ++ []) =
      subst (λ (l : List Refusal). Tells now.standing now.place (now.rest ++ []) l) (sym (append-nil ended.told)) end in
      let all : Tells first.standing first.place ((first.rest ++ bytes) ++ []) (h.told ++ (ended.told ++ [])) =
      h.leads [] (ended.told ++ []) (λ e. refl) told in
      subst (λ (l : List ℕ). Tells first.standing first.place (first.rest ++ l) (h.told ++ ended.told)) (sym is)
      (subst (λ (l : List ℕ). Tells first.standing first.place l (h.told ++ ended.told)) (append-nil (first.rest ++ bytes))
      (subst (λ (l : List Refusal). Tells first.standing first.place ((first.rest ++ bytes) ++ []) (h.told ++ l))
      (append-nil ended.told) all));
  tally =
      ended.tally ∙ (ap (λ job. tallied job ended.told now.tally) h.job
      ∙ (ap (λ tally. tallied first.job ended.told tally) h.tally ∙ sym (tallied_append first.job h.told ended.told first.tally)));
}

-- ---- what the reads of a job came to

-- a survey takes its pieces beside an outlet of nothing
abbrev Beside : Type 0
Beside = SurveyState × Unit {0}

abbrev Goes : Beside → List ℕ → Beside → Type 0
Goes first bytes now = SurveysOn first.0 bytes now.0

abbrev Answers : Beside → Unit {0} → List (List ℕ) → Beside → Type 0
Answers first answer pieces now = IsSurveyed first.0 pieces now.0

abbrev Stops : Beside → Error → List ℕ → Beside → Type 0
Stops first error bytes now = error ≡ Memory

pub surveys_begun : (begun : SurveyState) (job : ℕ) (tally : Tally) → begun ≡ at_start job tally → SurveysOn begun [] begun
surveys_begun begun job tally is =
    surveys_none begun (subst (λ (s : SurveyState). length s.rest ≤ most_left) (sym is) (omega arith))

pub job_tallied : (begun now : SurveyState) (job : ℕ) (tally : Tally) (old new : SourceState) (r : Result (Unit {0}) Error) →
    begun ≡ at_start job tally → IfOk r (λ answer. IsAnswered Goes Answers (begun, tt) (now, tt) answer old new) →
    IfOk r (λ _. IsTallied old new job tally now.tally)
job_tallied begun now job tally old new r is h =
    answer_gives r h (λ answer came.
    let all = subst (λ (s : SurveyState). IsSurveyed s (came.pieces_before ++ came.last ∷ []) now) is came.answered in (
      all.told,
      record {
        pieces = came.pieces_before ++ came.last ∷ [];
        given = came.given_is;
        each = all.tells;
        known = came.known;
      },
      all.tally,
    ))

error_kind : (Open : Type 0) (e : Error) → StopsBy Open (λ error. error ≡ Memory) e → IsErrorOfSurvey e
error_kind Open Memory h = tt
error_kind Open Read h = tt
error_kind Open Write h = absurd cc
error_kind Open Turns h = tt
error_kind Open NoProfile h = absurd h
error_kind Open Items h = absurd h

pub survey_errors : (first now : Beside) (old new : SourceState) (r : Result (Unit {0}) Error) →
    IfErr r (λ error. IsStopped Goes Stops first now error old new) → IfErr r IsErrorOfSurvey
survey_errors first now old new r h = stop_gives r h (λ error is. error_kind _ error is.came)
