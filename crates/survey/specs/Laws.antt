-- A law of surveys.
use Rattle.std.specs.Prelude.{◌≡◌, ℕ, List}
use Rattle.survey.specs.declared.refusal.Refusal.{Refusal}
use Rattle.survey.specs.Survey.{IsSurvey}

-- no two lists of refusals are told of the bytes
abbrev pub HasOneSurvey : List ℕ → Type 0
HasOneSurvey job = (told other : List Refusal) → IsSurvey job told → IsSurvey job other → told ≡ other
