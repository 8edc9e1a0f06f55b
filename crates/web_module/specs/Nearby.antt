-- The items of a job near a place.
use Rattle.std.specs.Prelude.{ℕ, List}
use Rattle.many_jobs.specs.JobRow.{near_rendering}
use Rattle.renderings.specs.declared.outcome.Outcome.{Outcome}
use Rattle.renderings.specs.Expected.{IsExpected}

-- a line for each
abbrev pub IsNearby : (place : ℕ) → (job text : List ℕ) → Type 0
IsNearby place job text = (outcome : Outcome) × IsExpected (near_rendering place) job text outcome
