-- The outcome of a text of a job that fails.
use Rattle.verdict.specs.declared.failure.Failure.{Failure}
use Rattle.renderings.specs.declared.outcome.Outcome.{Outcome}
use Rattle.renderings.specs.declared.outcome.Outcome.TheVariants.{Fail}

abbrev pub fails_with : Failure → Outcome
fails_with failure = Fail failure.place failure.profile failure.reason
