-- How far a survey has come.
use Rattle.std.specs.Prelude.{◌≡◌, ℕ, ◌+◌, ◌≤◌, ◌^◌, List, [], ◌++◌, length, Bool, false, Option, option_to_list}
use Rattle.streams.specs.Pieces.{MayBeBy}
use Rattle.pcl_lexer.specs.Lexing.Contexts.{Pcl}
use Rattle.survey.specs.declared.refusal.Refusal.{Refusal}
use Rattle.survey.specs.Survey.{Standing, Reads, Tells}
use Rattle.survey.specs.Tally.{Tally, tallied}
use Rattle.survey.specs.Carriers.Steps.{Leads}

-- the bytes that are not read yet, the number of bytes before them, where it stands, the number of the job, and what is
-- counted
pub record SurveyState : Type 0 where
  pub rest : List ℕ
  pub place : ℕ
  pub standing : Standing
  pub job : ℕ
  pub tally : Tally

abbrev pub at_start : ℕ → Tally → SurveyState
at_start job tally = record { rest = []; place = 0; standing = Reads Pcl; job = job; tally = tally }

-- the most bytes that decide nothing, and with a piece behind them
abbrev pub most_left : ℕ
most_left = 32831

abbrev pub most_held : ℕ
most_held = 36927

-- what is told is counted, if anything is
abbrev pub with_told : Option Refusal → SurveyState → SurveyState
with_told told now = record now { tally = tallied now.job (option_to_list told) now.tally }

-- it went on over what is told and counted
pub record Surveyed (whole : Bool) (old new : SurveyState) : Type 0 where
  pub told : List Refusal
  pub leads : Leads whole old.standing old.place old.rest told new.standing new.place new.rest
  pub tally : new.tally ≡ tallied old.job told old.tally
  pub job : new.job ≡ old.job

-- it came to the end
pub record EndsSurvey (old new : SurveyState) : Type 0 where
  pub told : List Refusal
  pub tells : Tells old.standing old.place old.rest told
  pub tally : new.tally ≡ tallied old.job told old.tally

-- ---- over the pieces of a job

-- few bytes are left, and all together with so many more are at most 2^62
pub record HasRoom (now : SurveyState) (more : ℕ) : Type 0 where
  pub short : length now.rest ≤ most_left
  pub most : now.place + length now.rest + more ≤ 2 ^ 62

-- these bytes were fed, and it went on over them
pub record SurveysOn (first : SurveyState) (bytes : List ℕ) (now : SurveyState) : Type 0 where
  pub told : List Refusal
  pub leads : Leads false first.standing first.place (first.rest ++ bytes) told now.standing now.place now.rest
  pub tally : now.tally ≡ tallied first.job told first.tally
  pub job : now.job ≡ first.job
  pub short : length now.rest ≤ most_left
  pub total : now.place + length now.rest ≡ first.place + length first.rest + length bytes

-- what is told of each job that may be by these pieces was counted
pub record IsSurveyed (first : SurveyState) (pieces : List (List ℕ)) (now : SurveyState) : Type 0 where
  pub told : List Refusal
  pub tells : (job : List ℕ) → MayBeBy pieces job → Tells first.standing first.place (first.rest ++ job) told
  pub tally : now.tally ≡ tallied first.job told first.tally
