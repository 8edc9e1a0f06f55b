-- What is counted of jobs, by what was read of them.
use Rattle.std.specs.Prelude.{◌≡◌, ℕ, List, ⊤}
use Rattle.streams.specs.declared.error.Error.{Error}
use Rattle.streams.specs.declared.error.Error.TheVariants.{Memory, Read, Write, Turns, NoProfile, Items}
use Rattle.streams.specs.Source.{SourceState}
use Rattle.streams.specs.Pieces.{ByReads}
use Rattle.survey.specs.declared.refusal.Refusal.{Refusal}
use Rattle.survey.specs.Survey.{IsSurvey}
use Rattle.survey.specs.Tally.{Tally, tallied}

-- these are told of the job that was read, whichever it may be
abbrev pub IsToldOf : SourceState → SourceState → List Refusal → Type 0
IsToldOf source source' told = ByReads source source' (λ job. IsSurvey job told)

-- what is told of the job of this number is counted
abbrev pub IsTallied : SourceState → SourceState → ℕ → Tally → Tally → Type 0
IsTallied source source' number old new =
    (told : List Refusal) × IsToldOf source source' told × (new ≡ tallied number told old)

-- why a job was not read to its end
abbrev pub IsErrorOfSurvey : Error → Type 0
IsErrorOfSurvey Memory = ⊤
IsErrorOfSurvey Read = ⊤
IsErrorOfSurvey Turns = ⊤
IsErrorOfSurvey Write = ⊥
IsErrorOfSurvey NoProfile = ⊥
IsErrorOfSurvey Items = ⊥
